-- The round: from any turn every instance but 0 is at most n - 2 steps away, and a search that passes it by has come nearer to it.
-- Assumes nothing.
use mathlib.Core.Path.{◌≡◌, sym, ap, subst, ◌∙◌}
use mathlib.Core.Bool.{true}
use mathlib.Core.List.{List}
use Prim.Native.Nat.{ℕ, zero, suc, ◌+◌, ◌-◌, ◌≤◌, ◌<◌}
use native.Mathlib.Omega.{arith}
use native.Mathlib.Nat.{zero-add, suc-add}
use native.Mathlib.Numerals.{add-one}
use native.Mathlib.Decide.{dec_lt}
use lib.Dec.{eqb, ltb}
use lib.ListN.{length, get_or}
use borrow.Author.Tests.{eq-eqb, ne_eqb, lt-ltb, le-ltb}
use Rattle.base.proofs.Conds.{by_test, cond_cases}
use Rattle.ready.specs.Ready.{after_of, seek, chosen}
use Rattle.std.specs.Prelude.{Some}

-- the instance d steps after t, of n
unfoldable pub rounds : ℕ → ℕ → ℕ → ℕ
rounds n zero t = t
rounds n (suc d) t = rounds n d (after_of n t)

rounds_add : (n a b t : ℕ) → rounds n (a + b) t ≡ rounds n b (rounds n a t)
unfolding rounds
rounds_add n zero b t = rw zero-add
rounds_add n (suc a) b t = rw suc-add (rounds_add n a b (after_of n t))

-- up to the last
ups : (n d t : ℕ) → t + d < n → rounds n d t ≡ t + d
unfolding rounds
ups n zero t h = omega arith
ups n (suc d) t h =
    let up : after_of n t ≡ suc t = rw (ne_eqb (t + 1) n (λ e. omega arith)) (add-one t) in
    rw up (ups n d (suc t) (omega arith) ∙ omega arith)

-- and on from 1
pub reach : (n t i : ℕ) → 1 ≤ t → t < n → 1 ≤ i → i < n → (d : ℕ) × (d + 2 ≤ n) × (rounds n d t ≡ i)
unfolding rounds
reach n t i low high some within = elim (dec_lt i t) [
  | no x ↦ (i - t, omega arith, ups n (i - t) t (omega arith) ∙ omega arith)
  | yes y ↦
      let m = n - 1 - t in
      let last : t + m + 1 ≡ n = omega arith in
      let turn : after_of n (t + m) ≡ 1 = rw (eq-eqb (t + m + 1) n last) in (
        m + suc (i - 1),
        omega arith,
        rw (rounds_add, ups n m t (omega arith)) (ap (rounds n (i - 1)) turn ∙ ups n (i - 1) 1 (omega arith) ∙ omega arith),
      )
]

after_some : (n i : ℕ) → 1 ≤ after_of n i
after_some n i = cond_cases (λ (k : ℕ). 1 ≤ k) (eqb (i + 1) n) (λ t. omega arith) (λ t. omega arith)

-- instance j, found on the way to i, is i, or i is nearer to the one after j
pub data Found (n i d : ℕ) : ℕ → Type 0 where
  it : Found n i d i
  nearer : (j e : ℕ) → 1 ≤ j → e < d → rounds n e (after_of n j) ≡ i → Found n i d j

found_later : {n i d j : ℕ} → Found n i d j → Found n i (suc d) j
found_later it = it
found_later (nearer j e some lt r) = nearer j e some (omega arith) r

-- a search that would come to i after d steps finds somebody, who is i or before it
sought : (ws : List ℕ) (d k t i : ℕ) → 1 ≤ t → rounds (length ws) d t ≡ i → d < k → 0 < get_or ws i 0
    → (j : ℕ) × (seek ws t k ≡ Some j) × Found (length ws) i d j
unfolding rounds seek
sought ws d zero t i some r h has = absurd (omega arith)
sought ws zero (suc k) t i some r h has =
    let e : ltb 0 (get_or ws t 0) ≡ true = lt-ltb 0 (get_or ws t 0) (rw r has) in
    (t, rw e, rw r it)
sought ws (suc d) (suc k) t i some r h has =
    by_test (ltb 0 (get_or ws t 0)) (λ e. (t, rw e, nearer t d some (omega arith) r))
    (λ e.
    let (j, q, f) = sought ws d k (after_of (length ws) t) i (after_some (length ws) t) r (omega arith) has in
    (j, rw e q, found_later f))

-- whoever is chosen, where instance 0 has nothing waiting
pub chosen_found : (ws : List ℕ) (n turn i d j : ℕ) → length ws ≡ n → get_or ws 0 0 ≡ 0 → 1 ≤ turn → rounds n d turn ≡ i → d + 2 ≤ n → 0 < get_or ws i 0
    → chosen ws turn ≡ Some j → Found n i d j
chosen_found ws n turn i d j e none some r h has who =
    let (j', q, f) = sought ws d (length ws - 1) turn i some (rw e r) (omega arith) has in
    let who' : seek ws turn (length ws - 1) ≡ Some j = rw (le-ltb 0 (get_or ws 0 0) (omega arith)) at who in
    let one : Some j' ≡ Some j = sym q ∙ who' in
    let same : j' ≡ j = cc in
    subst (λ (m : ℕ). Found m i d j) e (subst (λ (m : ℕ). Found (length ws) i d m) same f)

-- and where it has
pub chosen_zero : (ws : List ℕ) (turn j : ℕ) → 0 < get_or ws 0 0 → chosen ws turn ≡ Some j → j ≡ 0
chosen_zero ws turn j h who = let one : Some 0 ≡ Some j = rw (lt-ltb 0 (get_or ws 0 0) h) at who in cc
