-- Laws of an array's first entries, shown with 0 above.
-- Assumes nothing.
use mathlib.Core.Path.{◌≡◌, refl, ap}
use mathlib.Core.List.{List, [], ◌∷◌, ◌++◌}
use Prim.Native.Nat.{ℕ, zero, suc, ◌<◌, ◌≤◌}
use native.Mathlib.Omega.{arith}
use lib.ListN.{length, get_or, take, drop, replicate}
use Rattle.telling.specs.Statuses.{up_to}

-- the first n entries, and then zeros
first : (n : ℕ) (a : List ℕ) → take n a ++ drop n (replicate (length a) 0) ≡ up_to n a
unfolding up_to
first zero [] = refl
first (suc n) [] = refl
first zero (x ∷ a) = ap (λ (l : List ℕ). 0 ∷ l) (first zero a)
first (suc n) (x ∷ a) = ap (λ (l : List ℕ). x ∷ l) (first n a)

pub shown_first : (n m : ℕ) (a : List ℕ) → length a ≡ m → take n a ++ drop n (replicate m 0) ≡ up_to n a
shown_first n m a e = rw (← e) (first n a)

-- an entry below n is the array's
pub shown_at : (n : ℕ) (a : List ℕ) (i : ℕ) → i < n → get_or (up_to n a) i 0 ≡ get_or a i 0
unfolding up_to
shown_at n [] i h = refl
shown_at zero (x ∷ a) i h = absurd (omega arith)
shown_at (suc n) (x ∷ a) zero h = refl
shown_at (suc n) (x ∷ a) (suc i) h = shown_at n a i (omega arith)

-- above n it is 0
pub shown_above : (n : ℕ) (a : List ℕ) (i : ℕ) → n ≤ i → get_or (up_to n a) i 0 ≡ 0
unfolding up_to
shown_above n [] i h = refl
shown_above zero (x ∷ a) zero h = refl
shown_above zero (x ∷ a) (suc i) h = shown_above zero a i (omega arith)
shown_above (suc n) (x ∷ a) zero h = absurd (omega arith)
shown_above (suc n) (x ∷ a) (suc i) h = shown_above n a i (omega arith)
