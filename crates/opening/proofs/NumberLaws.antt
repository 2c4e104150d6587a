-- Which number open answers, and what it leaves.
-- Assumes nothing.
use mathlib.Core.Path.{◌≡◌, refl, sym, ◌∙◌}
use mathlib.Core.Bool.{Bool, true, false, true≢false, ◌&&◌}
use Prim.Native.Nat.{ℕ, ◌<◌}
use native.Mathlib.Omega.{arith}
use lib.Dec.{eqb→eq}
use lib.ListN.{get_or, get_or-replicate}
use borrow.Author.Tests.{eq-eqb}
use Rattle.base.proofs.Conds.{by_test, so, is, and_left, and_right, exactly_when}
use Rattle.wire.specs.Instances.{instances, most}
use Rattle.wire.proofs.InstanceLaws.{at_most, at_least}
use Rattle.connection.specs.declared.Settings.{Settings}
use Rattle.connection.specs.Shapes.{zeros}
use Rattle.range.specs.Ranges.{settings_ok, receive_length, send_length, receive_store_ok, send_store_ok, in_range}
use Rattle.range.proofs.RangeLaws.{settings_set, set_settings, ranged, is_in_range}
use Rattle.opening.specs.Openings.{fresh, refused_open, open_of}
use Rattle.opening.specs.Besides.Numbers.{Opens, When, out_of_range, done, Exactly, Opening}

-- ---- the record that settings become

-- an array of zeros has zeros, one for each instance of the bundle
zero_at : (s : Settings) (i : ℕ) → i < instances s.party.bundle → get_or zeros i 0 ≡ 0
zero_at s i h = get_or-replicate most i 0 0 (omega (arith, at_most s.party.bundle))

fresh_ranged : (s : Settings) → settings_ok s ≡ true → in_range (fresh s 1) ≡ true
fresh_ranged s e =
    let k = settings_set s e in
    is_in_range (fresh s 1)
    (record {
      set = k;
      receiving = λ i h. let c = k.receive i h in rw (zero_at s i h) (omega arith, omega arith);
      sending = λ i h. let c = k.send i h in rw (zero_at s i h) (omega arith, omega arith);
      states = λ i h. rw (zero_at s i h) (omega arith);
      turn = (omega arith, at_least s.party.bundle k.bundle);
      header = omega arith;
      under_way = λ h. absurd (omega arith);
      accepted = λ q. absurd (true≢false (sym q));
      closing = refl;
    })

-- it is in range exactly if they are
pub fresh_range : (s : Settings) → in_range (fresh s 1) ≡ settings_ok s
fresh_range s =
    by_test (settings_ok s) (λ q. fresh_ranged s q ∙ sym q)
    (λ q.
    by_test (in_range (fresh s 1)) (λ r. absurd (true≢false (sym (set_settings s (ranged (fresh s 1) r).set) ∙ q))) (λ r. r ∙ sym q))

-- ---- open

abbrev tested : Settings → ℕ → ℕ → Bool
tested s n m = settings_ok s && (receive_store_ok s n && send_store_ok s m)

opens : (s : Settings) (n m : ℕ) → tested s n m ≡ true → Opens s n m
opens s n m e =
    let stores = receive_store_ok s n && send_store_ok s m in
    let t = so (tested s n m) e in
    let u = and_right (settings_ok s) stores t in (
      is (settings_ok s) (and_left (settings_ok s) stores t),
      eqb→eq n (receive_length s) (and_left (receive_store_ok s n) (send_store_ok s m) u),
      eqb→eq m (send_length s) (and_right (receive_store_ok s n) (send_store_ok s m) u),
    )

passes : (s : Settings) (n m : ℕ) → Opens s n m → tested s n m ≡ true
passes s n m (a, b, c) = rw (a, eq-eqb n (receive_length s) b, eq-eqb m (send_length s) c)

fails : (s : Settings) (n m : ℕ) → (Opens s n m → ⊥) → tested s n m ≡ false
fails s n m unfit = by_test (tested s n m) (λ t. absurd (unfit (opens s n m t))) (λ t. t)

-- what a call answers
pub opens_so : (s : Settings) (n m : ℕ) → Opens s n m → record { number = 0; connection = fresh s 1 } ≡ open_of s n m
unfolding open_of
opens_so s n m o = rw (passes s n m o)

pub opens_not : (s : Settings) (n m : ℕ) → (Opens s n m → ⊥) → refused_open ≡ open_of s n m
unfolding open_of
opens_not s n m unfit = rw (fails s n m unfit)

answered : (s : Settings) (n m : ℕ) {k : ℕ} → When s n m k → (open_of s n m).number ≡ k
unfolding open_of
answered s n m (out_of_range unfit) = rw (fails s n m unfit)
answered s n m (done o) = rw (passes s n m o)

when : (s : Settings) (n m : ℕ) → (k : ℕ) × When s n m k
when s n m =
    by_test (tested s n m) (λ t. (0, done (opens s n m t))) (λ t. (23, out_of_range (λ o. true≢false (sym (passes s n m o) ∙ t))))

pub exactly : Exactly
exactly s n m k = let (j, w) = when s n m in exactly_when (When s n m) (answered s n m w) w (answered s n m)

-- with 0, settings in range and stores as long as they say
pub opens_done : (s : Settings) (n m : ℕ) → (open_of s n m).number ≡ 0 → Opens s n m
opens_done s n m q = of ((exactly s n m 0).0 q) refl
  where
    of : {k : ℕ} → When s n m k → k ≡ 0 → Opens s n m
    of (out_of_range unfit) z = absurd (omega arith)
    of (done o) z = o

-- ---- what open leaves

pub opening : Opening
unfolding open_of settings_ok in_range
opening =
    record {
      zeros = λ s n m q. let unfit : Opens s n m → ⊥ = λ o. q (rw (passes s n m o)) in rw (fails s n m unfit);
      opened = λ s n m q.
          let o = opens_done s n m q in
          rw (passes s n m o) (fresh_ranged s o.0);
      refused = refl;
    }
