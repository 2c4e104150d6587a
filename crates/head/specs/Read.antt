-- A head read at a place (RFC 8949, section 3): its major type, its argument, and the place behind it.
use Rattle.std.specs.Prelude.{ℕ, ◌+◌, ◌/◌, cond, List, ltb, leb, length, get_or}
use Rattle.base.specs.Numbers.{number}
use Rattle.ring.specs.Ring.{run}
use Rattle.head.specs.Initial.{initial}
use Rattle.head.specs.declared.Initial.{Initial}
use Rattle.head.specs.declared.Initial.TheVariants as says
use Rattle.head.specs.declared.read.Head.{Head}
use Rattle.head.specs.declared.read.Head.TheVariants.{Definite, Indefinite, Break, Short, Bad}

-- an argument in the k bytes at a place: they may not all be there
unfoldable pub long_at : List ℕ → ℕ → ℕ → ℕ → Head
long_at bs m k at = cond (leb (at + k) (length bs)) (Definite m (number (run bs at k)) (at + k)) Short

-- a simple value in the byte at a place: below 32 it is not well-formed
unfoldable pub simple_at : List ℕ → ℕ → Head
simple_at bs at = cond (ltb at (length bs)) (cond (ltb (get_or bs at 0) 32) Bad (Definite 7 (get_or bs at 0) (at + 1))) Short

-- what an initial byte of major type m says of the bytes from a place on
unfoldable pub head_by : Initial → List ℕ → ℕ → ℕ → Head
head_by (says.Short _ v) bs m at = Definite m v at
head_by (says.Long _ k) bs m at = long_at bs m (k + 1) at
head_by (says.Indefinite _) bs m at = Indefinite m at
head_by says.Simple bs m at = simple_at bs at
head_by says.Break bs m at = Break at
head_by says.Reserved bs m at = Bad

-- the head at a place
unfoldable pub head_at : List ℕ → ℕ → Head
head_at bs at = cond (ltb at (length bs)) (head_by (initial (get_or bs at 0)) bs (get_or bs at 0 / 32) (at + 1)) Short
