-- What was written is read back, and no shorter head says the same: as statements.
use Rattle.std.specs.Prelude.{ℕ, ◌+◌, ◌<◌, ◌≤◌, ◌^◌, ◌≡◌, List, ◌++◌, length}
use Rattle.base.specs.Numbers.{Bytes}
use Rattle.head.specs.Read.{head_at}
use Rattle.head.specs.declared.read.Head.TheVariants.{Definite}
use Rattle.head.specs.Write.{shortest}

-- reading what was written gives it back, wherever it stands; of major type 7 not all arguments can be read
abbrev pub ReadsBack : Type 0
ReadsBack = (m v : ℕ) (before after : List ℕ) → m < 7 → v < 2 ^ 64
    → head_at (before ++ (shortest m v ++ after)) (length before) ≡ Definite m v (length before + length (shortest m v))

-- no shorter head has the same meaning
abbrev pub NoneShorter : Type 0
NoneShorter = (bs : List ℕ) (at m v next : ℕ) → Bytes bs → head_at bs at ≡ Definite m v next → at + length (shortest m v) ≤ next
