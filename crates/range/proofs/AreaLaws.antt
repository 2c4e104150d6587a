-- Laws of the range as it is tested: instance by instance, up to the first test that fails, while the capacities are summed.
-- Assumes nothing.
use mathlib.Core.Path.{◌≡◌, refl, sym, ap, ◌∙◌}
use mathlib.Core.Bool.{Bool, true, false, ◌&&◌}
use mathlib.Core.List.{List}
use Prim.Native.Nat.{ℕ, zero, suc, ◌+◌, ◌*◌, ◌^◌, ◌≤◌, ◌<◌}
use native.Mathlib.Omega.{arith}
use native.Mathlib.Numerals.{add-one}
use lib.Dec.{T, leb, ltb}
use lib.ListN.{get_or, length}
use borrow.Author.Tests.{ltb-true, ltb-false, lt-ltb}
use Rattle.base.specs.Below.{all_below}
use Rattle.base.proofs.Conds.{by_test, so, and_left, and_right, both_true, below_at, below_next}
use Rattle.ring.specs.Ring.{base_of}
use Rattle.ring.proofs.Areas.{base_next, base_small}
use Rattle.wire.specs.Instances.{known, instances, bundles}
use Rattle.wire.proofs.InstanceLaws.{known_some}
use Rattle.connection.specs.declared.Connection.{Connection}
use Rattle.range.specs.Ranges.{limit_ok, area_ok, state_ok, turn_ok, instance_ok, in_range}
use Rattle.range.specs.Inside.{rest_ok}
use Rattle.range.proofs.RangeLaws.{area_in}

-- ---- tests of each number below another

and_false : (a : Bool) → (a && false) ≡ false
and_false true = refl
and_false false = refl

pub below_not : (f : ℕ → Bool) (n i : ℕ) → i < n → f i ≡ false → all_below f n ≡ false
unfolding all_below
below_not f zero i h e = absurd (omega arith)
below_not f (suc n) i h e =
    by_test (ltb i n) (λ q. rw (below_not f n i (ltb-true i n q) e))
    (λ q. let k : n ≡ i = omega (arith, ltb-false i n q) in rw (ap f k ∙ e) (and_false (all_below f n)))

pub below_more : (f : ℕ → Bool) (n : ℕ) → all_below f n ≡ true → f n ≡ true → all_below f (n + 1) ≡ true
below_more f n e g = below_next f n ∙ rw (e, g)

-- ---- the sum of capacities that pass

-- the capacities of the first i instances and that of the next: their sum fits, and is where the one after begins
abbrev pub Summed : List ℕ → ℕ → Type 0
Summed caps i = (base_of caps i + get_or caps i 0 < 2 ^ 64) × (base_of caps i + get_or caps i 0 ≡ base_of caps (i + 1))

summed : (caps : List ℕ) (i : ℕ) → i < 9 → ((j : ℕ) → j < i + 1 → get_or caps j 0 ≤ 131072) → Summed caps i
summed caps i h low =
    let small : base_of caps i ≤ i * 131072 = base_small caps 131072 i (λ j l. low j (omega arith)) in
    let last = low i (omega arith) in
    (omega arith, rw (add-one i) (sym (base_next caps i)))

-- where the first i instances and the next pass
pub sums : (c : Connection) (i : ℕ) → i < 9 → all_below (instance_ok c) i ≡ true → instance_ok c i ≡ true
    → Summed c.settings.receive i × Summed c.settings.send i
sums c i h e g =
    let test = instance_ok c in
    let receiving : ℕ → Bool = area_ok c.settings.receive c.receiving.starts c.receiving.held in
    let sending : ℕ → Bool = area_ok c.settings.send c.sending.starts c.sending.waiting in
    let state : ℕ → Bool = state_ok c.settings.party.bundle c.talk.states in
    let all : (j : ℕ) → j < i + 1 → T (test j) = below_at test (i + 1) (so (all_below test (i + 1)) (below_more test i e g)) in (
      summed c.settings.receive i h
          (λ j l. (area_in c.settings.receive c.receiving.starts c.receiving.held j (and_left (receiving j) (sending j && state j) (all j l))).0.1),
      summed c.settings.send i h
          (λ j l.
          (area_in c.settings.send c.sending.starts c.sending.waiting j
          (and_left (sending j) (state j) (and_right (receiving j) (sending j && state j) (all j l)))).0.1),
    )

-- ---- the tests together

-- a bundle in which there is a turn is known
turn_known : (b t : ℕ) (x : Bool) → (turn_ok (instances b) t && x) ≡ true → known b ≡ true
turn_known b t x e =
    let turn = (both_true (turn_ok (instances b) t) x e).0 in
    lt-ltb b (length bundles) (known_some b t (ltb-true t (instances b) (both_true (leb 1 t) (ltb t (instances b)) turn).1))

module _ (c : Connection) where
  abbrev all_ok : Bool
  all_ok = all_below (instance_ok c) (instances c.settings.party.bundle)

  abbrev k : Bool
  k = known c.settings.party.bundle

  abbrev l : Bool
  l = limit_ok c.settings.limit

  -- one that fails decides
  pub limit_fails : limit_ok c.settings.limit ≡ false → in_range c ≡ false
  unfolding in_range
  limit_fails e = rw e (and_false k)

  pub areas_fail : all_ok ≡ false → in_range c ≡ false
  unfolding in_range
  areas_fail e = rw (e, and_false l) (and_false k)

  pub rest_fails : rest_ok c ≡ false → in_range c ≡ false
  unfolding in_range
  rest_fails e = rw (e, and_false all_ok, and_false l) (and_false k)

  -- the last of them tell that the bundle is known
  pub all_pass : limit_ok c.settings.limit ≡ true → all_ok ≡ true → rest_ok c ≡ true → in_range c ≡ true
  unfolding in_range
  all_pass e f g = rw (turn_known c.settings.party.bundle c.sending.turn _ g, e, f, g)
