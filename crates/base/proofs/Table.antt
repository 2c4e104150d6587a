-- A rule of a table, proved at all of its entries by one test that antt computes, one entry after the other.
-- Entries are of any type; `rows` is the same for a table of rows of numbers.
-- Assumes nothing.
use mathlib.Core.Path.{◌≡◌, ◌∙◌, subst, sym}
use mathlib.Core.Bool.{Bool, true, ◌&&◌}
use mathlib.Core.List.{List, [], ◌∷◌}
use Prim.Native.Nat.{ℕ, zero, suc, ◌+◌, ◌^◌, ◌<◌}
use native.Mathlib.Nat.{add-zero, zero-add, add-suc, suc-add, le_of_suc-le-suc, not-suc-le-zero}
use native.Mathlib.Omega.{arith}
use lib.Dec.{T, eqb, ltb, eqb→eq, ltb→lt}
use lib.ListN.{length, get_or}
use Rattle.base.proofs.Conds.{and_left, and_right}

module _ {A : Type 0} (d : A) where
  -- the test f passes at each entry of the list and its place, counted from i
  abbrev pub every : (ℕ → A → Bool) → ℕ → List A → Bool
  every f i [] = true
  every f i (x ∷ xs) = f i x && every f (suc i) xs

  from : (f : ℕ → A → Bool) (xs : List A) (i : ℕ) → T (every f i xs) → (k : ℕ) → k < length xs → T (f (i + k) (get_or xs k d))
  from f [] i t k h = absurd (not-suc-le-zero h)
  from f (x ∷ xs) i t zero h = subst (λ (m : ℕ). T (f m x)) (sym (add-zero i)) (and_left (f i x) (every f (suc i) xs) t)
  from f (x ∷ xs) i t (suc k) h =
      subst (λ (m : ℕ). T (f m (get_or xs k d))) (suc-add i k ∙ sym (add-suc i k))
      (from f xs (suc i) (and_right (f i x) (every f (suc i) xs) t) k (le_of_suc-le-suc h))

  pub at : (f : ℕ → A → Bool) (xs : List A) → T (every f 0 xs) → (k : ℕ) → k < length xs → T (f k (get_or xs k d))
  at f xs t k h = subst (λ (m : ℕ). T (f m (get_or xs k d))) (zero-add k) (from f xs 0 t k h)

-- the test f passes at each place of a row of w entries, at the row k
abbrev pub passes : (ℕ → ℕ → ℕ → Bool) → ℕ → ℕ → List ℕ → Bool
passes f w k row = eqb (length row) w && every 0 (f k) 0 row

-- a table of rows: the test passes at each row and place
pub rows : (f : ℕ → ℕ → ℕ → Bool) (w : ℕ) (t : List (List ℕ)) → T (every [] (passes f w) 0 t)
    → (k m : ℕ) → k < length t → m < w → T (f k m (get_or (get_or t k []) m 0))
rows f w t ok k m hk hm =
    let row : List ℕ = get_or t k [] in
    let test : T (passes f w k row) = at [] (passes f w) t ok k hk in
    let long : length row ≡ w = eqb→eq (length row) w (and_left (eqb (length row) w) (every 0 (f k) 0 row) test) in
    at 0 (f k) row (and_right (eqb (length row) w) (every 0 (f k) 0 row) test) m (subst (λ (n : ℕ). m < n) (sym long) hm)

-- ---- a table whose entries are bytes: each fits a wider number

abbrev pub byte : ℕ → Bool
byte n = ltb n 256

pub entry_fits : (l : List ℕ) → T (every 0 (λ k. byte) 0 l) → (k : ℕ) → k < length l → get_or l k 0 < 2 ^ 64
entry_fits l ok k h = let low = ltb→lt (get_or l k 0) 256 (at 0 (λ k. byte) l ok k h) in omega arith

pub cell_fits : (w : ℕ) (t : List (List ℕ)) → T (every [] (passes (λ k m. byte) w) 0 t)
    → (k m : ℕ) → k < length t → m < w → get_or (get_or t k []) m 0 < 2 ^ 64
cell_fits w t ok k m hk hm = let low = ltb→lt (get_or (get_or t k []) m 0) 256 (rows (λ k m. byte) w t ok k m hk hm) in omega arith
