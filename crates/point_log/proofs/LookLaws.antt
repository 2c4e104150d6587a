-- Laws of how many slots a search by halves looks at: half as many lie between, and it is one less.
-- Assumes nothing.
use mathlib.Core.Path.{◌≡◌, refl, sym, ap, ◌∙◌}
use mathlib.Core.Bool.{cond}
use Prim.Native.Nat.{ℕ, zero, suc, ◌+◌, ◌-◌, ◌*◌, ◌/◌, ◌^◌, ◌≤◌, ◌<◌}
use native.Mathlib.Nat.{pow-suc, zero-add, suc-add}
use native.Mathlib.Omega.{arith}
use lib.Pow.{pow_mono}
use lib.Dec.{leb}
use borrow.Author.Tests.{le-leb, lt-leb, leb-true, leb-false}
use Rattle.base.proofs.Conds.{by_test}
use Rattle.point_log.specs.Inside.{powers, looks}
use Rattle.point_log.specs.Besides.Looks.{AsLog}

abbrev bit : ℕ → ℕ → ℕ
bit k n = cond (leb (2 ^ k) n) 1 0

-- a power of two is at most n if and only if the one before is at most its half
half : (k n : ℕ) → bit (suc k) n ≡ bit k (n / 2)
half k n =
    let e : 2 ^ suc k ≡ 2 ^ k * 2 = pow-suc 2 k in
    by_test (leb (2 ^ k) (n / 2))
    (λ t. let h = leb-true (2 ^ k) (n / 2) t in rw (t, le-leb (2 ^ suc k) n (omega arith)))
    (λ t. let h = leb-false (2 ^ k) (n / 2) t in rw (t, lt-leb (2 ^ suc k) n (omega arith)))

halves : (k n : ℕ) → 1 ≤ n → powers (suc k) n ≡ powers k (n / 2) + 1
unfolding powers
halves zero n h = rw (le-leb 1 n h)
halves (suc k) n h = let e = halves k n h in let f = half k n in omega arith

-- more lie between, and it is not less
powers_mono : (k m n : ℕ) → m ≤ n → powers k m ≤ powers k n
unfolding powers
powers_mono zero m n h = omega arith
powers_mono (suc k) m n h =
    let e = powers_mono k m n h in
    by_test (leb (2 ^ k) m)
    (λ t. let l = leb-true (2 ^ k) m t in rw (t, le-leb (2 ^ k) n (omega arith)) (omega arith))
    (λ t. rw t (omega arith))

-- the last power is above what is below it
top : (k n : ℕ) → n < 2 ^ k → powers (suc k) n ≡ powers k n
unfolding powers
top k n h = rw (lt-leb (2 ^ k) n h) (omega arith)

-- what the search has left to look at after one look
pub fewer : (d e : ℕ) → 1 ≤ d → d < 2 ^ 64 → e ≤ d / 2 → looks e < looks d
fewer d e h fits l =
    let a = halves 63 d h in
    let b = powers_mono 64 e (d / 2) l in
    let c = top 63 (d / 2) (omega arith) in
    omega arith

-- ---- ⌊log2 n⌋ + 1

low : (j n k : ℕ) → 2 ^ j ≤ n → k ≤ j + 1 → powers k n ≡ k
unfolding powers
low j n zero h l = refl
low j n (suc k) h l =
    let e = low j n k h (omega arith) in
    let p : 2 ^ k ≤ 2 ^ j = pow_mono (omega arith) in
    rw (le-leb (2 ^ k) n (omega arith)) (omega arith)

high : (j n d : ℕ) → n < 2 ^ j → powers (d + j) n ≡ powers j n
high j n zero h = ap (λ (k : ℕ). powers k n) (zero-add j)
high j n (suc d) h =
    let p : 2 ^ j ≤ 2 ^ (d + j) = pow_mono (omega arith) in
    ap (λ (k : ℕ). powers k n) (suc-add d j) ∙ top (d + j) n (omega arith) ∙ high j n d h

pub as_log : AsLog
as_log n j l h g =
    let e : 63 - j + (j + 1) ≡ 64 = omega arith in
    ap (λ (k : ℕ). powers k n) (sym e) ∙ high (j + 1) n (63 - j) g ∙ low j n (j + 1) h (omega arith)
