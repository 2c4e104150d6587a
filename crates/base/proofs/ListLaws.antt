-- Laws of lists that several crates need and the kit has not.
-- Assumes nothing.
use mathlib.Core.Path.{◌≡◌, refl, ap, ◌∙◌}
use mathlib.Core.List.{List, [], ◌∷◌, ◌++◌, map}
use mathlib.Core.Logic.{◌≢◌}
use Prim.Native.Nat.{ℕ, zero, suc, ◌+◌, ◌≤◌, ◌<◌}
use native.Mathlib.Omega.{arith}
use native.Mathlib.Nat.{add-zero, add-suc, suc-add}
use borrow.Author.Tests.{eqb-true, eqb-false}
use lib.Dec.{eqb}
use lib.ListN.{length, get_or, set, replicate}
use lib.Seq.{sets, set_comm, get_or-set_same, get_or-set_other}
use Rattle.base.proofs.Conds.{by_test}

-- the values stored one after the other, and one more after them
pub sets_snoc : (l : List ℕ) (i : ℕ) (vs : List ℕ) (a : ℕ) → sets l i (vs ++ (a ∷ [])) ≡ set (sets l i vs) (i + length vs) a
sets_snoc l i [] a = rw add-zero
sets_snoc l i (v ∷ vs) a = rw (add-suc, ← suc-add) (sets_snoc (set l i v) (suc i) vs a)

-- a value stored behind them may be stored first
pub sets_set : (l : List ℕ) (i p : ℕ) (a : ℕ) (vs : List ℕ) → i + length vs ≤ p → sets (set l p a) i vs ≡ set (sets l i vs) p a
sets_set l i p a [] h = refl
sets_set l i p a (v ∷ vs) h =
    ap (λ (m : List ℕ). sets m (suc i) vs) (set_comm l p i a v (λ e. omega arith)) ∙ sets_set (set l i v) (suc i) p a vs (omega arith)

-- two runs stored one after the other are stored as one
pub sets_append : (l : List ℕ) (i : ℕ) (xs ys : List ℕ) → sets l i (xs ++ ys) ≡ sets (sets l i xs) (i + length xs) ys
sets_append l i [] ys = rw add-zero
sets_append l i (x ∷ xs) ys = rw (add-suc, ← suc-add) (sets_append (set l i x) (suc i) xs ys)

-- what is said of each element of a list is said of the one at a place
pub get_or-map : {A B : Type 0} (f : A → B) (l : List A) (n : ℕ) (d : A) (e : B) → n < length l → get_or (map f l) n e ≡ f (get_or l n d)
get_or-map f [] n d e h = absurd (omega arith)
get_or-map f (x ∷ l) zero d e h = refl
get_or-map f (x ∷ l) (suc n) d e h = get_or-map f l n d e (omega arith)

-- an array of zeros has zeros, also past its end
pub zeros : (n k : ℕ) → ◌≡◌ {A = ℕ} (get_or (replicate n 0) k 0) 0
zeros zero k = refl
zeros (suc n) zero = refl
zeros (suc n) (suc k) = zeros n k

-- what holds of the value that is set, and of the others, holds at each place
pub at_set : (P : ℕ → ℕ → Type 0) (l : List ℕ) (i v : ℕ) → i < length l → P i v → ((j : ℕ) → j ≢ i → P j (get_or l j 0)) → (j : ℕ)
    → P j (get_or (set l i v) j 0)
at_set P l i v h here there j =
    by_test (eqb j i) (λ q. rw (eqb-true j i q, get_or-set_same l i v 0 h) here)
    (λ q. rw (get_or-set_other l i j v 0 (eqb-false j i q)) (there j (eqb-false j i q)))

-- past the end nothing is set
pub set_past : (l : List ℕ) (i v : ℕ) → length l ≤ i → set l i v ≡ l
set_past [] i v h = refl
set_past (x ∷ l) zero v h = absurd (omega arith)
set_past (x ∷ l) (suc i) v h = ap (λ (t : List ℕ). x ∷ t) (set_past l i v (omega arith))
