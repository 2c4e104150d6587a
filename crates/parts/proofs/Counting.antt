-- What is found in an option, by cases.
-- Assumes nothing.
use Rattle.std.proofs.Common.{Option, Some, None}
use Rattle.parts.specs.Counting.{on_some}

-- what holds of what is found
abbrev pub Found : {A : Type 0} → (A → Type 0) → Option A → Type 0
Found R None = Unit {0}
Found R (Some a) = R a

pub some_cases : {A B : Type 0} (P : Option B → Type 0) {R : A → Type 0} (k : A → Option B) (o : Option A) → Found R o → P None
    → ((a : A) → R a → P (k a)) → P (on_some o k)
some_cases P k None r x f = x
some_cases P k (Some a) r x f = f a r
