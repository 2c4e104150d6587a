-- Laws of areas that lie one behind the other.
-- Assumes nothing.
use mathlib.Core.Path.{◌≡◌, refl}
use mathlib.Core.Logic.{◌≢◌}
use mathlib.Core.List.{List, [], ◌∷◌}
use Prim.Native.Nat.{ℕ, zero, suc, ◌+◌, ◌*◌, ◌<◌, ◌≤◌}
use native.Mathlib.Omega.{arith}
use native.Mathlib.Decide.{dec_lt}
use lib.ListN.{length, get_or}
use Rattle.ring.specs.Ring.{base_of, stream, laid}
use Rattle.ring.proofs.Stores.{stream_elsewhere}

-- behind an area the next one begins
pub base_next : (caps : List ℕ) (i : ℕ) → base_of caps (suc i) ≡ base_of caps i + get_or caps i 0
unfolding base_of
base_next [] zero = refl
base_next [] (suc i) = refl
base_next (cap ∷ caps) zero = omega arith
base_next (cap ∷ caps) (suc i) = omega (arith, base_next caps i)

-- a later area begins no earlier
pub base_later : (caps : List ℕ) (i j : ℕ) → i ≤ j → base_of caps i ≤ base_of caps j
unfolding base_of
base_later caps zero j h = omega arith
base_later [] (suc i) j h = omega arith
base_later (cap ∷ caps) (suc i) zero h = absurd (omega arith)
base_later (cap ∷ caps) (suc i) (suc j) h = omega (arith, base_later caps i j (omega arith))

-- an area lies within as many areas as come with it
pub area_within : (caps : List ℕ) (i j : ℕ) → i < j → base_of caps i + get_or caps i 0 ≤ base_of caps j
area_within caps i j h = omega (arith, base_next caps i, base_later caps (suc i) j h)

-- and within a store of n areas
pub area_in_store : (s caps : List ℕ) (i n : ℕ) → length s ≡ base_of caps n → i < n → base_of caps i + get_or caps i 0 ≤ length s
area_in_store s caps i n e h = omega (arith, area_within caps i n h)

-- two areas have no place in common
pub areas_apart : (caps : List ℕ) (i j : ℕ) → i ≢ j
    → base_of caps j < base_of caps i + get_or caps i 0 → base_of caps i < base_of caps j + get_or caps j 0 → ⊥
areas_apart caps i j other p q = elim (dec_lt i j) [
  | yes y ↦ omega (arith, area_within caps i j y)
  | no x ↦
      let h : j < i = omega arith in
      omega (arith, area_within caps j i h)
]

-- so the stream in an area is not touched by what is written to another
pub stream_stays : (s caps : List ℕ) (i j n k m : ℕ) (xs : List ℕ) → i ≢ j → 0 < get_or caps i 0 → 0 < get_or caps j 0
    → stream (laid s (base_of caps j) (get_or caps j 0) m xs) (base_of caps i) (get_or caps i 0) n k
    ≡ stream s (base_of caps i) (get_or caps i 0) n k
stream_stays s caps i j n k m xs other h h' =
    stream_elsewhere s (base_of caps i) (get_or caps i 0) n k (base_of caps j) (get_or caps j 0) m xs h h' (areas_apart caps i j other)

-- areas of at most m bytes
pub base_small : (caps : List ℕ) (m n : ℕ) → ((i : ℕ) → i < n → get_or caps i 0 ≤ m) → base_of caps n ≤ n * m
unfolding base_of
base_small caps m zero h = omega arith
base_small caps m (suc n) h = omega (arith, base_next caps n, base_small caps m n (λ i l. h i (omega arith)), h n (omega arith))
