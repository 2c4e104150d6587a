-- Laws of slots that rise, and of the search by halves: a step keeps what is known, and where the ends meet they tell the last at or below the slot.
-- Assumes nothing.
use mathlib.Core.Path.{◌≡◌, refl, sym, ap, subst}
use mathlib.Core.Bool.{Bool, true, false, ◌&&◌}
use mathlib.Core.List.{List}
use mathlib.Core.Logic.{◌⊎◌, inl, inr}
use Prim.Native.Nat.{ℕ, zero, suc, ◌+◌, ◌-◌, ◌≤◌, ◌<◌}
use native.Mathlib.Nat.{eq-or-lt_of_le, le_of_suc-le-suc}
use native.Mathlib.Numerals.{add-one, sub-one}
use native.Mathlib.Omega.{arith}
use lib.Dec.{ltb, leb}
use lib.ListN.{get_or}
use borrow.Author.Tests.{ltb-true, lt-ltb, le-leb, lt-leb, leb-true, leb-false}
use Rattle.base.proofs.Conds.{by_test, both_true}
use Rattle.point_log.specs.Log.{rises_to, upto_of, above}
use Rattle.point_log.specs.Inside.{Rising, Between}

-- ---- slots that rise

-- one slot more, above the last
rising-more : (s : List ℕ) (k : ℕ) → Rising s (suc k) → get_or s k 0 < get_or s (suc k) 0 → Rising s (suc (suc k))
rising-more s k r l p q pq qn = last (eq-or-lt_of_le (le_of_suc-le-suc qn))
  where
    first : q ≡ suc k → (p ≡ k) ⊎ (p < k) → get_or s p 0 < get_or s q 0
    first f (inl g) = omega (arith, ap (λ (j : ℕ). get_or s j 0) f, ap (λ (j : ℕ). get_or s j 0) g)
    first f (inr g) = omega (arith, ap (λ (j : ℕ). get_or s j 0) f, r p k g (omega arith))

    last : (q ≡ suc k) ⊎ (q < suc k) → get_or s p 0 < get_or s q 0
    last (inl f) = first f (eq-or-lt_of_le (omega arith))
    last (inr g) = r p q pq g

-- the test of the rise tells the rise, and back
pub rising : (s : List ℕ) (n : ℕ) → rises_to s n ≡ true → Rising s n
unfolding rises_to
rising s zero e p q pq qn = omega arith
rising s (suc zero) e p q pq qn = omega arith
rising s (suc (suc k)) e p q pq qn =
    let parts = both_true (rises_to s (suc k)) (ltb (get_or s k 0) (get_or s (suc k) 0)) e in
    rising-more s k (rising s (suc k) parts.0) (ltb-true _ _ parts.1) p q pq qn

pub rises : (s : List ℕ) (n : ℕ) → Rising s n → rises_to s n ≡ true
unfolding rises_to
rises s zero r = refl
rises s (suc zero) r = refl
rises s (suc (suc k)) r =
    rw (rises s (suc k) (λ p q a b. r p q a (omega arith)), lt-ltb (get_or s k 0) (get_or s (suc k) 0) (r k (suc k) (omega arith) (omega arith)))

-- the test, one slot more, and where its loop ends
pub rises_more : (s : List ℕ) (i : ℕ) → 1 ≤ i → rises_to s (i + 1) ≡ (rises_to s i && ltb (get_or s (i - 1) 0) (get_or s i 0))
unfolding rises_to
rises_more s zero h = absurd (omega arith)
rises_more s (suc k) h = rw (add-one, sub-one (suc k))

pub rises_end : (s : List ℕ) (n i : ℕ) → 1 ≤ i → (i ≤ n) ⊎ (i ≡ 1) → n ≤ i → rises_to s i ≡ rises_to s n
unfolding rises_to
rises_end s n i h (inl a) b = let e : i ≡ n = omega arith in ap (rises_to s) e
rises_end s zero i h (inr a) b = rw a
rises_end s (suc zero) i h (inr a) b = rw a
rises_end s (suc (suc n)) i h (inr a) b = absurd (omega arith)

-- a slot above the last
pub above_none : (s : List ℕ) (n x : ℕ) → n ≡ 0 → true ≡ above s n x
unfolding above
above_none s n x e = rw e

pub above_last : (s : List ℕ) (n i x : ℕ) → n ≡ suc i → ltb (get_or s i 0) x ≡ above s n x
unfolding above
above_last s n i x e = rw e

-- ---- by halves

pub between_start : (s : List ℕ) (n x : ℕ) → Between s n x 0 n
between_start s n x =
    record { low_le = omega arith; high_le = omega arith; before = λ r k l. omega arith; from = λ r k l l'. omega arith }

module _ {s : List ℕ} {n x low high : ℕ} (b : Between s n x low high) (m : ℕ) (lm : low ≤ m) (mh : m < high) where
  below_mid : Rising s n → get_or s m 0 ≤ x → (k : ℕ) → (k ≡ m) ⊎ (k < m) → get_or s k 0 ≤ x
  below_mid r t k (inl e) = omega (arith, ap (λ (j : ℕ). get_or s j 0) e)
  below_mid r t k (inr l) = let mn : m < n = omega (arith, b.high_le) in omega (arith, r k m l mn)

  above_mid : Rising s n → x < get_or s m 0 → (k : ℕ) → k < n → (m ≡ k) ⊎ (m < k) → x < get_or s k 0
  above_mid r t k kn (inl e) = omega (arith, ap (λ (j : ℕ). get_or s j 0) e)
  above_mid r t k kn (inr l) = omega (arith, r m k l kn)

  pub between_up : get_or s m 0 ≤ x → Between s n x (m + 1) high
  between_up t =
      record { low_le = omega arith; high_le = b.high_le; before = λ r k l. below_mid r t k (eq-or-lt_of_le (omega arith)); from = b.from }

  pub between_down : x < get_or s m 0 → Between s n x low m
  between_down t =
      record { low_le = lm; high_le = omega (arith, b.high_le); before = b.before; from = λ r k l l'. above_mid r t k l' (eq-or-lt_of_le l) }

-- where the ends meet
pub between_met : {s : List ℕ} {n x low high : ℕ} → Between s n x low high → high ≤ low → Between s n x low low
between_met b l =
    record {
      low_le = omega arith;
      high_le = let p = b.low_le in let q = b.high_le in omega arith;
      before = b.before;
      from = λ r k f g. b.from r k (omega arith) g;
    }

upto_by : (s : List ℕ) (n x k : ℕ) → k ≤ n → ((j : ℕ) → j < k → get_or s j 0 ≤ x) → ((j : ℕ) → k ≤ j → j < n → x < get_or s j 0) → k ≡ upto_of s n x
unfolding upto_of
upto_by s zero x k h below above = omega arith
upto_by s (suc n) x k h below above = go (λ l. upto_by s n x k l below (λ j a b. above j a (omega arith))) (eq-or-lt_of_le h)
  where
    go : (k ≤ n → k ≡ upto_of s n x) → (k ≡ suc n) ⊎ (k < suc n) → k ≡ upto_of s (suc n) x
    go less (inl e) = rw (le-leb (get_or s n 0) x (below n (omega arith))) e
    go less (inr l) = rw (lt-leb (get_or s n 0) x (above n (le_of_suc-le-suc l) (omega arith))) (less (le_of_suc-le-suc l))

pub upto_is : {s : List ℕ} {n x k : ℕ} → Between s n x k k → Rising s n → k ≡ upto_of s n x
upto_is {s} {n} {x} {k} b r = upto_by s n x k b.high_le (b.before r) (b.from r)

-- ---- the last at or below

-- there are as many at or below as the search finds, and no more
pub upto_within : (s : List ℕ) (n x : ℕ) → upto_of s n x ≤ n
unfolding upto_of
upto_within s zero x = omega arith
upto_within s (suc n) x = go (leb (get_or s n 0) x) (upto_within s n x)
  where
    go : (t : Bool) → upto_of s n x ≤ n → mathlib.Core.Bool.cond t (suc n) (upto_of s n x) ≤ suc n
    go true l = omega arith
    go false l = omega arith

-- the last of them is at or below the slot, and, of slots that rise, the next is above it
pub upto_below : (s : List ℕ) (n x k : ℕ) → upto_of s n x ≡ suc k → get_or s k 0 ≤ x
unfolding upto_of
upto_below s zero x k e = absurd (omega arith)
upto_below s (suc n) x k e =
    by_test (leb (get_or s n 0) x)
    (λ t.
    let f : suc n ≡ suc k = rw t at e in
    let g : n ≡ k = omega arith in
    subst (λ (j : ℕ). get_or s j 0 ≤ x) g (leb-true (get_or s n 0) x t))
    (λ t. upto_below s n x k (rw t at e))

pub upto_above : (s : List ℕ) (n x : ℕ) → upto_of s n x < n → Rising s n → x < get_or s (upto_of s n x) 0
unfolding upto_of
upto_above s zero x l r = absurd (omega arith)
upto_above s (suc n) x l r =
    by_test (leb (get_or s n 0) x) (λ t. absurd (omega (arith, rw t at l)))
    (λ t.
    let h : x < get_or s n 0 = leb-false (get_or s n 0) x t in
    rw t
    (last (upto_of s n x) refl h (eq-or-lt_of_le (upto_within s n x)) (λ m. upto_above s n x m (λ i j a b. r i j a (omega arith)))))
  where
    last : (k : ℕ) → upto_of s n x ≡ k → x < get_or s n 0 → (k ≡ n) ⊎ (k < n) → (upto_of s n x < n → x < get_or s (upto_of s n x) 0) → x < get_or s k 0
    last k e h (inl f) less = subst (λ (j : ℕ). x < get_or s j 0) (sym f) h
    last k e h (inr f) less = subst (λ (j : ℕ). x < get_or s j 0) e (less (omega arith))
