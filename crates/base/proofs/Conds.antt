-- Laws of tests as values: `&&` and `cond` of the kit, by what the test says.
-- Assumes nothing.
use mathlib.Core.Path.{◌≡◌, refl, sym, subst, ◌∙◌}
use mathlib.Core.Bool.{Bool, true, false, false≢true, ◌&&◌, cond}
use mathlib.Core.Logic.{◌↔◌}
use Prim.Native.Nat.{ℕ, zero, suc, ◌+◌, ◌<◌}
use native.Mathlib.Omega.{arith}
use native.Mathlib.Numerals.{add-one}
use lib.Dec.{T, eqb, ltb}
use borrow.Author.Rules.{rules}
use borrow.Author.Tests.{eq-eqb, ne_eqb, eqb-true, lt-ltb, le-ltb, le-leb, lt-leb, ltb-true, ltb-false}
use Rattle.base.specs.Below.{all_below}

-- `search tests` closes a need whose `cond`s are decided by the branches on the way there
pub ruleset tests = (rules, eq-eqb, ne_eqb, lt-ltb, le-ltb, le-leb, lt-leb)

-- what holds by both answers of a test holds
pub by_test : {P : Type 0} (t : Bool) → (t ≡ true → P) → (t ≡ false → P) → P
by_test true p q = p refl
by_test false p q = q refl

-- what holds of a where the test holds, and of b where not, holds of the one chosen
pub cond_cases : {A : Type 0} (P : A → Type 0) (t : Bool) {a b : A} → (t ≡ true → P a) → (t ≡ false → P b) → P (cond t a b)
cond_cases P true p q = p refl
cond_cases P false p q = q refl

-- a test that holds, said in two ways
pub so : (t : Bool) → t ≡ true → T t
so true e = tt
so false e = absurd (false≢true e)

pub is : (t : Bool) → T t → t ≡ true
is true h = refl
is false h = absurd h

-- the parts of a test that holds
pub and_left : (a b : Bool) → T (a && b) → T a
and_left true b t = tt
and_left false b t = t

pub and_right : (a b : Bool) → T (a && b) → T b
and_right true b t = t
and_right false b t = absurd t

-- what passes at each number below n passes at one of them
pub below_at : (f : ℕ → Bool) (n : ℕ) → T (all_below f n) → (i : ℕ) → i < n → T (f i)
unfolding all_below
below_at f zero t i h = absurd (omega arith)
below_at f (suc n) t i h =
    by_test (ltb i n) (λ q. below_at f n (and_left (all_below f n) (f n) t) i (ltb-true i n q))
    (λ q. let e : n ≡ i = omega (arith, ltb-false i n q) in subst (λ (k : ℕ). T (f k)) e (and_right (all_below f n) (f n) t))

-- one number more
pub below_next : (f : ℕ → Bool) (n : ℕ) → all_below f (n + 1) ≡ (all_below f n && f n)
unfolding all_below
below_next f n = rw add-one

-- a test that passes at each number below n
pub below_all : (f : ℕ → Bool) (n : ℕ) → ((i : ℕ) → i < n → f i ≡ true) → all_below f n ≡ true
unfolding all_below
below_all f zero h = refl
below_all f (suc n) h = rw (below_all f n (λ i l. h i (omega arith)), h n (omega arith))

-- the same parts, of a test that is true
pub both_true : (a b : Bool) → (a && b) ≡ true → (a ≡ true) × (b ≡ true)
both_true true b e = (refl, e)
both_true false b e = absurd (false≢true e)

-- a test together with one that two numbers are equal: both ways
pub and_equal : {a : Bool} {n m : ℕ} → (a && eqb n m) ≡ true → (a ≡ true) × (n ≡ m)
and_equal {a} {n} {m} e = let p = both_true a (eqb n m) e in (p.0, eqb-true n m p.1)

pub equal_and : {a : Bool} {n m : ℕ} → a ≡ true → n ≡ m → (a && eqb n m) ≡ true
equal_and {a} {n} {m} e q = rw (e, eq-eqb n m q)

-- a number is answered exactly when its "when" holds: where it holds it is answered, and one that is answered is one whose "when" holds
pub exactly_when : (When : ℕ → Type 0) {number k : ℕ} → number ≡ k → When k → {n : ℕ} → (When n → number ≡ n) → (number ≡ n) ↔ When n
exactly_when When q w answered = (λ e. subst When (sym q ∙ e) w, answered)
