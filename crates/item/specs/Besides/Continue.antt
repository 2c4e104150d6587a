-- Going on with more bytes (document 02, K5), as statements; the proofs are in proofs/Continue.antt.
use Rattle.std.specs.Prelude.{ℕ, ◌+◌, List, [], ◌∷◌, ◌++◌, Bool, true, false, ◌≡◌, length, Err}
use Rattle.std.proofs.Math.Option.{Option, none, some}
use Rattle.item.specs.declared.NotWhole.TheVariants.{Incomplete}
use Rattle.item.specs.Verdict.{Stack, step, met, judge, Verdict}
use Rattle.item.specs.Besides.Verdict.{heads}

abbrev pub moved : Bool → Option Stack → Stack → (Stack → Stack) → Stack
moved true n fs k = fs
moved false none fs k = fs
moved false (some gs) fs k = k gs

-- What is wanted after the bytes, as far as the item goes.
unfoldable pub stands : List ℕ → Stack → Stack
stands [] fs = fs
stands (b ∷ bs) fs = moved (met fs) (step fs b) fs (λ gs. stands bs gs)

-- After an incomplete part, going on from what is wanted there equals going from the start, and the heads of the parts
-- add up to the heads of the whole.
abbrev pub GoesOn : Type 0
GoesOn =
    (xs ys : List ℕ) (at : ℕ) (fs : Stack) → judge xs at fs ≡ Err Incomplete
    → (judge (xs ++ ys) at fs ≡ judge ys (at + length xs) (stands xs fs)) × (heads (xs ++ ys) fs ≡ heads xs fs + heads ys (stands xs fs))

-- After a part that is whole or bad no byte changes anything.
abbrev pub Settled : Type 0
Settled =
    (xs ys : List ℕ) (at : ℕ) (fs : Stack) (v : Verdict) → judge xs at fs ≡ v → (v ≡ Err Incomplete → ⊥)
    → (judge (xs ++ ys) at fs ≡ v) × (heads (xs ++ ys) fs ≡ heads xs fs)
