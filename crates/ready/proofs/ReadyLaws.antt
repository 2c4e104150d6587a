-- Laws of the ready word: its bits, its ones, its lowest, and that the choice by bits is the choice by counts.
-- Assumes nothing.
use Rattle.std.specs.Prelude.{Option, Some, None}
use mathlib.Core.Path.{◌≡◌, refl, subst, ◌∙◌}
use mathlib.Core.Bool.{Bool, true, false, cond}
use mathlib.Core.List.{List, [], ◌∷◌}
use Prim.Native.Nat.{ℕ, zero, suc, ◌+◌, ◌-◌, ◌*◌, ◌/◌, ◌%◌, ◌^◌, ◌<◌, ◌≤◌}
use native.Mathlib.Omega.{arith}
use native.Mathlib.Numerals.{add-one, one-add, sub-one}
use native.Mathlib.Nat.{add-zero, add-suc, suc-add, pow-suc, pow-succ', pow-le-pow_right, div-one, div-div-eq-div-mul}
use lib.Dec.{eqb, ltb, lit<}
use lib.ListN.{length, get_or, drop, length-drop, get_or-eq_default}
use lib.Count.{ones, ones_step, count_trailing_zeros, under}
use lib.Seq.{drop-cons}
use borrow.Author.Tests.{eq-eqb, ne_eqb, lt-ltb, le-ltb, eqb-true, eqb-false, ltb-true, ltb-false}
use Rattle.base.proofs.Conds.{by_test, cond_cases}
use Rattle.ready.specs.Ready.{bit_of, word_of, count_of, lowest_from, after_of, seek, chosen}
use Rattle.ready.specs.Besides.Ready.{BitByBit, NoMore, NobodyWaits, ChosenWaits}
use Rattle.ready.specs.Inside.{bit_set, seek_in, chosen_in}

pub bit_le : (n : ℕ) → bit_of n ≤ 1
bit_le n = of (eqb n 0)
  where
    of : (t : Bool) → cond t 0 1 ≤ 1
    of true = omega arith
    of false = omega arith

-- a word ends in a bit
odd : (n b : ℕ) → b ≤ 1 → (2 * n + b) % 2 ≡ b
odd n b l = omega arith

half : (n b : ℕ) → b ≤ 1 → (2 * n + b) / 2 ≡ n
half n b l = omega arith

pub no_more : NoMore
unfolding word_of
no_more [] = lit< tt
no_more (w ∷ ws) = rw pow-suc (omega (arith, no_more ws, bit_le w))

pub bit_by_bit : BitByBit
unfolding word_of
bit_by_bit [] i h = absurd (omega arith)
bit_by_bit (w ∷ ws) zero h = rw div-one (odd (word_of ws) (bit_of w) (bit_le w))
bit_by_bit (w ∷ ws) (suc i) h =
    rw (pow-succ' 2 i, ← div-div-eq-div-mul (2 * word_of ws + bit_of w) 2 (2 ^ i), half (word_of ws) (bit_of w) (bit_le w))
    (bit_by_bit ws i (omega arith))

-- a turn of the loop that makes the word
turn : (ws : List ℕ) (j : ℕ) → j < length ws → word_of (drop (suc j) ws) * 2 + bit_of (get_or ws j 0) ≡ word_of (drop j ws)
unfolding word_of
turn ws j h = rw (drop-cons ws j 0 h) (omega arith)

pub word_turn : (ws : List ℕ) (i : ℕ) → 0 < i → i ≤ length ws → word_of (drop i ws) * 2 + bit_of (get_or ws (i - 1) 0) ≡ word_of (drop (i - 1) ws)
word_turn ws i p h =
    let e : suc (i - 1) ≡ i = omega arith in
    subst (λ (n : ℕ). word_of (drop n ws) * 2 + bit_of (get_or ws (i - 1) 0) ≡ word_of (drop (i - 1) ws)) e (turn ws (i - 1) (omega arith))

-- a word of the last counts is small
pub word_small : (ws : List ℕ) (i n : ℕ) → length ws ≤ n → word_of (drop i ws) < 2 ^ n
word_small ws i n e =
    let l : length (drop i ws) ≤ n = omega (arith, length-drop i ws) in
    omega (arith, no_more (drop i ws), pow-le-pow_right {n = 2} (omega arith) {i = length (drop i ws)} {j = n} l)

-- ---- ones, and the lowest

pub ones_ready : (ws : List ℕ) → ones (word_of ws) ≡ count_of ws
unfolding ones word_of count_of
ones_ready [] = refl
ones_ready (w ∷ ws) =
    ones_step (2 * word_of ws + bit_of w) ∙ rw (odd (word_of ws) (bit_of w) (bit_le w), half (word_of ws) (bit_of w) (bit_le w), ones_ready ws)

-- no bit is set: none is ready
none_at : (t : Bool) (n i f : ℕ) → (n ≡ 0 → f ≡ 255) → 2 * n + cond t 0 1 ≡ 0 → cond t f i ≡ 255
none_at true n i f later z = later (omega arith)
none_at false n i f later z = absurd (omega arith)

pub lowest_none : (i : ℕ) (ws : List ℕ) → word_of ws ≡ 0 → lowest_from i ws ≡ 255
unfolding word_of lowest_from
lowest_none i [] z = refl
lowest_none i (w ∷ ws) z = none_at (eqb w 0) (word_of ws) i (lowest_from (suc i) ws) (lowest_none (suc i) ws) z

-- where no count has any, no bit is set
pub word_none : (ws : List ℕ) → ((j : ℕ) → j < length ws → get_or ws j 0 ≡ 0) → word_of ws ≡ 0
unfolding word_of
word_none [] h = refl
word_none (w ∷ ws) h = rw (h 0 (omega arith), word_none ws (λ j p. h (suc j) (omega arith)))

-- the first count that has any is the lowest
pub lowest_at : (k : ℕ) (ws : List ℕ) (i : ℕ) → i < length ws → 0 < get_or ws i 0 → ((j : ℕ) → j < i → get_or ws j 0 ≡ 0) → lowest_from k ws ≡ k + i
unfolding lowest_from
lowest_at k [] i l some h = absurd (omega arith)
lowest_at k (x ∷ ws) zero l some h = rw (ne_eqb x 0 (λ e. omega arith), add-zero)
lowest_at k (x ∷ ws) (suc i) l some h =
    rw (eq-eqb x 0 (h 0 (omega arith))) (lowest_at (suc k) ws i (omega arith) some (λ j p. h (suc j) (omega arith)) ∙ rw (suc-add, ← add-suc))

-- some bit is set: the lowest is the first that is ready
some_at : (t : Bool) (n z i f : ℕ) → ((n ≡ 0 → ⊥) → z + suc i ≡ f) → (2 * n + cond t 0 1 ≡ 0 → ⊥) → under (cond t 0 1) z + i ≡ cond t f i
some_at true n z i f later h = omega (arith, later (λ e. h (omega arith)))
some_at false n z i f later h = omega arith

pub lowest_some : (k i : ℕ) (ws : List ℕ) → length ws ≤ k → (word_of ws ≡ 0 → ⊥) → count_trailing_zeros k (word_of ws) + i ≡ lowest_from i ws
unfolding count_trailing_zeros word_of lowest_from
lowest_some k i [] h n = absurd (n refl)
lowest_some zero i (w ∷ ws) h n = absurd (omega arith)
lowest_some (suc k) i (w ∷ ws) h n =
    rw (odd (word_of ws) (bit_of w) (bit_le w), half (word_of ws) (bit_of w) (bit_le w))
    (some_at (eqb w 0) (word_of ws) (count_trailing_zeros k (word_of ws)) i (lowest_from (suc i) ws) (lowest_some k (suc i) ws (omega arith)) n)

-- ---- the choice

waits_bit : (n : ℕ) → eqb (bit_of n) 1 ≡ ltb 0 n
waits_bit zero = refl
waits_bit (suc n) = rw (ne_eqb (suc n) 0 (λ e. omega arith), lt-ltb 0 (suc n) (omega arith))

set_waits : (ws : List ℕ) (i : ℕ) → i < length ws → bit_set (word_of ws) i ≡ ltb 0 (get_or ws i 0)
set_waits ws i h = rw (bit_by_bit ws i h) (waits_bit (get_or ws i 0))

pub after_low : (n i : ℕ) → 1 < n → i < n → after_of n i < n
after_low n i two h = cond_cases (λ (k : ℕ). k < n) (eqb (i + 1) n) (λ t. two) (λ t. omega (arith, eqb-false (i + 1) n t))

seek_word : (ws : List ℕ) (i k : ℕ) → 1 < length ws → i < length ws → seek_in (length ws) (word_of ws) i k ≡ seek ws i k
unfolding seek_in seek
seek_word ws i zero two h = refl
seek_word ws i (suc k) two h = rw (set_waits ws i h, seek_word ws (after_of (length ws) i) k two (after_low (length ws) i two h))

pub chosen_word : (ws : List ℕ) (turn : ℕ) → 1 < length ws → turn < length ws → chosen_in (length ws) (word_of ws) turn ≡ chosen ws turn
chosen_word ws turn two h = rw (set_waits ws 0 (omega arith), seek_word ws turn (length ws - 1) two h)

-- whoever is chosen is an instance
abbrev pub Low : ℕ → Option ℕ → Type 0
Low n None = Unit {0}
Low n (Some i) = i < n

seek_low : (n word i k : ℕ) → 1 < n → i < n → Low n (seek_in n word i k)
unfolding seek_in
seek_low n word i zero two h = tt
seek_low n word i (suc k) two h =
    cond_cases (Low n) (bit_set word i) (λ t. h) (λ t. seek_low n word (after_of n i) k two (after_low n i two h))

pub chosen_low : (n word turn : ℕ) → 1 < n → turn < n → Low n (chosen_in n word turn)
chosen_low n word turn two h = cond_cases (Low n) (bit_set word 0) (λ t. omega arith) (λ t. seek_low n word turn (n - 1) two h)

-- ---- a search along the bits

pub seek_hit : (n word i k : ℕ) → 0 < k → bit_set word i ≡ true → seek_in n word i k ≡ Some i
unfolding seek_in
seek_hit n word i zero h t = absurd (omega arith)
seek_hit n word i (suc k) h t = rw t

pub seek_on : (n word i k : ℕ) → 0 < k → bit_set word i ≡ false → seek_in n word i k ≡ seek_in n word (after_of n i) (k - 1)
unfolding seek_in
seek_on n word i zero h t = absurd (omega arith)
seek_on n word i (suc k) h t = rw (t, sub-one)

-- ---- who waits

-- a search that finds nobody: the first had nothing, and the rest of the search finds nobody
seek_first : (ws : List ℕ) (i k : ℕ) → seek ws i (suc k) ≡ None → (get_or ws i 0 ≡ 0) × (seek ws (after_of (length ws) i) k ≡ None)
unfolding seek
seek_first ws i k e =
    by_test (ltb 0 (get_or ws i 0)) (λ t. absurd (let q : Some i ≡ None = rw t at e in let z : ◌≡◌ {A = ℕ} 0 1 = cc in omega arith))
    (λ t. (omega (arith, ltb-false 0 (get_or ws i 0) t), rw t at e))

after_next : (n i : ℕ) → suc i < n → after_of n i ≡ suc i
after_next n i h = rw (ne_eqb (i + 1) n (λ e. omega arith)) (add-one i)

after_last : (n i : ℕ) → suc i ≡ n → after_of n i ≡ 1
after_last n i h = rw (eq-eqb (i + 1) n (omega arith))

-- from i up to the end
seek_up : (ws : List ℕ) (k i : ℕ) → seek ws i k ≡ None → (j : ℕ) → i ≤ j → j < length ws → j < i + k → get_or ws j 0 ≡ 0
seek_up ws zero i e j l h f = absurd (omega arith)
seek_up ws (suc k) i e j l h f =
    let p = seek_first ws i k e in
    by_test (eqb i j) (λ t. rw (← eqb-true i j t) p.0)
    (λ t.
    let ne : i < j = omega (arith, eqb-false i j t) in
    let a = after_next (length ws) i (omega arith) in
    seek_up ws k (suc i) (rw a at p.1) j (omega arith) h (omega arith))

-- and on from 1
seek_round : (ws : List ℕ) (m i k : ℕ) → suc i + m ≡ length ws → seek ws i (suc m + k) ≡ None → seek ws 1 k ≡ None
seek_round ws zero i k n e =
    let e' : seek ws i (suc k) ≡ None = rw (one-add k) at e in
    rw (after_last (length ws) i (omega arith)) at (seek_first ws i k e').1
seek_round ws (suc m) i k n e =
    let e' : seek ws i (suc (suc m + k)) ≡ None = rw (suc-add (suc m) k) at e in
    seek_round ws m (suc i) k (omega arith) (rw (after_next (length ws) i (omega arith)) at (seek_first ws i (suc m + k) e').1)

-- where nobody waits, a search finds nobody
seek_none : (ws : List ℕ) → ((i : ℕ) → i < length ws → get_or ws i 0 ≡ 0) → 1 < length ws → (k i : ℕ) → i < length ws → seek ws i k ≡ None
unfolding seek
seek_none ws none two zero i h = refl
seek_none ws none two (suc k) i h =
    rw (le-ltb 0 (get_or ws i 0) (omega (arith, none i h))) (seek_none ws none two k (after_of (length ws) i) (after_low (length ws) i two h))

pub nobody_waits : NobodyWaits
nobody_waits ws turn low high = (to, from)
  where
    to : chosen ws turn ≡ None → (i : ℕ) → i < length ws → get_or ws i 0 ≡ 0
    to e i h =
        by_test (ltb 0 (get_or ws 0 0)) (λ t. absurd (let q : Some 0 ≡ None = rw t at e in let z : ◌≡◌ {A = ℕ} 0 1 = cc in omega arith))
        (λ t.
        let s : seek ws turn (length ws - 1) ≡ None = rw t at e in
        let m = length ws - 1 - turn in
        let all : length ws - 1 ≡ suc m + (turn - 1) = omega arith in
        let again : seek ws 1 (turn - 1) ≡ None = seek_round ws m turn (turn - 1) (omega arith) (rw all at s) in
        by_test (eqb i 0) (λ z. rw (eqb-true i 0 z) (omega (arith, ltb-false 0 (get_or ws 0 0) t)))
        (λ z. by_test (ltb i turn) (λ l. seek_up ws (turn - 1) 1 again i (omega (arith, eqb-false i 0 z)) h (omega (arith, ltb-true i turn l)))
        (λ l. seek_up ws (length ws - 1) turn s i (ltb-false i turn l) h (omega arith))))

    from : ((i : ℕ) → i < length ws → get_or ws i 0 ≡ 0) → chosen ws turn ≡ None
    from none = rw (le-ltb 0 (get_or ws 0 0) (omega (arith, none 0 (omega arith)))) (seek_none ws none (omega arith) (length ws - 1) turn high)

pub same_instance : (i j : ℕ) → Some i ≡ Some j → i ≡ j
same_instance i j e = cc

-- whoever a search finds has bytes waiting
seek_some : (ws : List ℕ) (k i j : ℕ) → seek ws i k ≡ Some j → 0 < get_or ws j 0
unfolding seek
seek_some ws zero i j e = absurd (let z : ◌≡◌ {A = ℕ} 0 1 = cc in omega arith)
seek_some ws (suc k) i j e =
    by_test (ltb 0 (get_or ws i 0)) (λ t. rw (← same_instance i j (rw t at e)) (ltb-true 0 (get_or ws i 0) t))
    (λ t. seek_some ws k (after_of (length ws) i) j (rw t at e))

-- and what is not 0 is an entry
pub chosen_waits : ChosenWaits
chosen_waits ws turn i e =
    let some : 0 < get_or ws i 0 =
    by_test (ltb 0 (get_or ws 0 0)) (λ t. rw (← same_instance 0 i (rw t at e)) (ltb-true 0 (get_or ws 0 0) t))
    (λ t. seek_some ws (length ws - 1) turn i (rw t at e)) in
    by_test (ltb i (length ws)) (λ l. (ltb-true i (length ws) l, some))
    (λ l. absurd (omega (arith, get_or-eq_default ws 0 {n = i} (ltb-false i (length ws) l))))
