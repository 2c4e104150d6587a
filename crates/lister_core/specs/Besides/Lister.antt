-- T17: what the lister's lines are, and that its contracts determine them, as statements.
use Rattle.std.specs.Prelude.{◌≡◌, ℕ, ◌%◌, ◌^◌, List, ◌++◌, map, length, ◌==◌}
use Rattle.wire.specs.Segments.{Carried, Divided}
use Rattle.lister_core.specs.declared.Listing.{Listing}
use Rattle.lister_core.specs.declared.Step.{Step}
use Rattle.lister_core.specs.Lister.{then, fed, begun, ended, Stepped}

-- what the bytes xs come to from the start, by their whole segments and what is left of them
pub record Lists (xs : List ℕ) (cs : List Carried) (left : List ℕ) : Type 0 where
  pub lines : (fed begun xs).lines ≡ map (λ (c : Carried). c.header) cs
  pub ending : ended (fed begun xs).listing ≡ (length left == 0)
  pub segments : (fed begun xs).listing.segments ≡ length cs % 2 ^ 64
  pub bytes : (fed begun xs).listing.bytes ≡ length xs % 2 ^ 64

-- T17: every run of bytes has its whole segments and what is left of them, and the lister lists them, by whatever runs they come
pub record Lister : Type 0 where
  pub divides : (xs : List ℕ) → (cs : List Carried) × (left : List ℕ) × Divided xs cs left
  pub lists : (xs left : List ℕ) (cs : List Carried) → Divided xs cs left → Lists xs cs left
  pub cuts : (l : Listing) (xs ys : List ℕ) → fed l (xs ++ ys) ≡ then (fed l xs) (fed (fed l xs).listing ys)

-- the contract of a step leaves one answer
abbrev pub Once : Type 0
Once = (l : Listing) (bs : List ℕ) (r q : Step) → Stepped l bs r → Stepped l bs q → r ≡ q
