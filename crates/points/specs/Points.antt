-- Points and tips, as Chain-Sync's items have them (document 02, K10: "points ([], or slot and a 32-byte hash; arrays of either length form, the hash
-- definite) and tips (point, block number)"; 29 for anything that is not exactly one). Heads may have any width. Places are counted from the first byte.
use Rattle.std.specs.Prelude.{ℕ, ◌+◌, ◌-◌, cond, ◌&&◌, List, eqb, leb, length, Option, Some, None, Result, Ok, Err}
use Rattle.base.specs.Numbers.{number}
use Rattle.ring.specs.Ring.{run}
use Rattle.head.specs.Read.{head_at}
use Rattle.head.specs.declared.read.Head.{Head}
use Rattle.head.specs.declared.read.Head.TheVariants.{Definite, Indefinite, Break, Short, Bad}
use Rattle.points.specs.declared.Hash.{Hash}
use Rattle.points.specs.declared.Point.{Point}
use Rattle.points.specs.declared.Place.{Place}
use Rattle.points.specs.declared.Place.TheVariants.{Origin, Block}
use Rattle.points.specs.declared.Tip.{Tip}
use Rattle.points.specs.declared.NotAPoint.{NotAPoint}
use Rattle.points.specs.declared.Opening.{Opening}
use Rattle.points.specs.declared.Opening.TheVariants.{Counted, Endless}

-- ---- what a head says

-- major types 0 unsigned number, 2 byte string, 4 array
abbrev pub unsigned : ℕ
unsigned = 0

abbrev pub bytes : ℕ
bytes = 2

abbrev pub array : ℕ
array = 4

-- the argument of a head of this major type, of definite length, and the place behind the head
abbrev pub leads : ℕ → Head → Option (ℕ × ℕ)
leads m (Definite major v next) = cond (eqb major m) (Some (v, next)) None
leads m (Indefinite major next) = None
leads m (Break next) = None
leads m Short = None
leads m Bad = None

-- an array, of either length form
abbrev pub opening : Head → Option Opening
opening (Definite major n next) = cond (eqb major array) (Some (Counted n next)) None
opening (Indefinite major next) = cond (eqb major array) (Some (Endless next)) None
opening (Break next) = None
opening Short = None
opening Bad = None

abbrev pub ending : Head → Option ℕ
ending (Definite major v next) = None
ending (Indefinite major next) = None
ending (Break next) = Some next
ending Short = None
ending Bad = None

abbrev pub on_some : {A B : Type 0} → B → Option A → (A → B) → B
on_some other (Some x) k = k x
on_some other None k = other

-- ---- a block: slot and hash

-- the hash in the 32 bytes from place p on: four words, big-endian
abbrev pub hash_at : List ℕ → ℕ → Hash
hash_at bs p =
    record {
      a = number (run bs p 8);
      b = number (run bs (p + 8) 8);
      c = number (run bs (p + 16) 8);
      d = number (run bs (p + 24) 8);
    }

abbrev pub point : ℕ → Hash → Point
point slot hash = record { slot = slot; hash = hash }

-- a string of n bytes from place a on is a hash if n is 32 and they are there
unfoldable pub hashed : List ℕ → ℕ → ℕ → ℕ → Option (Place × ℕ)
hashed bs slot n a = cond (eqb n 32 && leb 32 (length bs - a)) (Some (Block (point slot (hash_at bs a)), a + 32)) None

-- "the hash definite"
unfoldable pub hash_behind : List ℕ → ℕ → ℕ → Option (Place × ℕ)
hash_behind bs slot p = on_some None (leads bytes (head_at bs p)) (λ h. hashed bs slot h.0 h.1)

unfoldable pub block_at : List ℕ → ℕ → Option (Place × ℕ)
block_at bs p = on_some None (leads unsigned (head_at bs p)) (λ h. hash_behind bs h.0 h.1)

-- ---- arrays

-- what stands in an array of indefinite length: a break follows
abbrev pub ended : {A : Type 0} → A → Option ℕ → Option (A × ℕ)
ended what e = on_some None e (λ q. Some (what, q))

abbrev pub broken : {A : Type 0} → List ℕ → Option (A × ℕ) → Option (A × ℕ)
broken bs what = on_some None what (λ w. ended w.0 (ending (head_at bs w.1)))

-- a point is [] or [slot, hash]
abbrev pub point_by : List ℕ → Option Opening → Option (Place × ℕ)
point_by bs (Some (Counted n a)) = cond (eqb n 0) (Some (Origin, a)) (cond (eqb n 2) (block_at bs a) None)
point_by bs (Some (Endless a)) = on_some (broken bs (block_at bs a)) (ending (head_at bs a)) (λ q. Some (Origin, q))
point_by bs None = None

unfoldable pub point_at : List ℕ → ℕ → Option (Place × ℕ)
point_at bs p = point_by bs (opening (head_at bs p))

-- a tip is [point, block number]
abbrev pub tip_with : Place → ℕ → Tip
tip_with place n = record { place = place; block = n }

abbrev pub numbered : Place → Option (ℕ × ℕ) → Option (Tip × ℕ)
numbered place n = on_some None n (λ h. Some (tip_with place h.0, h.1))

abbrev pub with_number : List ℕ → Option (Place × ℕ) → Option (Tip × ℕ)
with_number bs what = on_some None what (λ w. numbered w.0 (leads unsigned (head_at bs w.1)))

unfoldable pub pair_at : List ℕ → ℕ → Option (Tip × ℕ)
pair_at bs p = with_number bs (point_at bs p)

abbrev pub tip_by : List ℕ → Option Opening → Option (Tip × ℕ)
tip_by bs (Some (Counted n a)) = cond (eqb n 2) (pair_at bs a) None
tip_by bs (Some (Endless a)) = broken bs (pair_at bs a)
tip_by bs None = None

unfoldable pub tip_at : List ℕ → ℕ → Option (Tip × ℕ)
tip_at bs p = tip_by bs (opening (head_at bs p))

-- ---- a reading: exactly one item of n bytes, else it is refused

abbrev pub refused : NotAPoint
refused = record {}

abbrev pub whole : {A : Type 0} → ℕ → Option (A × ℕ) → Result A NotAPoint
whole n what = on_some (Err refused) what (λ w. cond (eqb w.1 n) (Ok w.0) (Err refused))

unfoldable pub point_of : List ℕ → Result Place NotAPoint
point_of bs = whole (length bs) (point_at bs 0)

unfoldable pub tip_of : List ℕ → Result Tip NotAPoint
tip_of bs = whole (length bs) (tip_at bs 0)

-- its number
abbrev pub number_of : NotAPoint → ℕ
number_of e = 29
