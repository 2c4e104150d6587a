-- Which of the segments carries a byte: one of another instance does not count, one of its own has it or brings it nearer to the front.
-- Assumes nothing.
use Rattle.std.specs.Prelude.{Ok}
use mathlib.Core.Path.{◌≡◌, refl, sym, ap, ◌∙◌}
use mathlib.Core.Bool.{true, false, cond}
use mathlib.Core.List.{List, [], ◌∷◌, flat_map}
use mathlib.Core.Logic.{◌≢◌}
use Prim.Native.Nat.{ℕ, ◌+◌, ◌-◌, ◌≤◌, ◌<◌}
use native.Mathlib.Omega.{arith}
use lib.Dec.{eqb}
use lib.ListN.{length, get_or, length-append}
use borrow.Author.Tests.{eq-eqb, eqb-true}
use Rattle.base.proofs.Conds.{by_test, both_true}
use Rattle.wire.specs.declared.instances.Party.{Party}
use Rattle.wire.specs.Instances.{instances, route_of, protocol_of, mode_of}
use Rattle.wire.proofs.InstanceLaws.{one_way}
use Rattle.promises.specs.Fairness.{header, payload, is_of, sent_by, Sent}

-- a segment is of the instance whose mode and protocol number it has, and of no other
pub of_same : (us : Party) (i : ℕ) (bs : List ℕ) → (header bs).mode ≡ mode_of us i → (header bs).protocol ≡ protocol_of us.bundle i → is_of us i bs ≡ true
of_same us i bs m p = rw (eq-eqb (header bs).mode (mode_of us i) m, eq-eqb (header bs).protocol (protocol_of us.bundle i) p)

alone : (us : Party) (i j : ℕ) → i < instances us.bundle → j < instances us.bundle → mode_of us i ≡ mode_of us j → protocol_of us.bundle i ≡ protocol_of us.bundle j → i ≡ j
alone us i j h l m p =
    let e : Ok i ≡ Ok j =
    sym ((one_way us).reached i h) ∙ ap (λ (n : ℕ). route_of us n (1 - mode_of us i)) p ∙ ap (λ (n : ℕ). route_of us (protocol_of us.bundle j) (1 - n)) m
    ∙ (one_way us).reached j l in
    cc

pub of_other : (us : Party) (i j : ℕ) (bs : List ℕ) → i < instances us.bundle → j < instances us.bundle → i ≢ j → (header bs).mode ≡ mode_of us j
    → (header bs).protocol ≡ protocol_of us.bundle j → is_of us i bs ≡ false
of_other us i j bs h l ne m p =
    by_test (is_of us i bs)
    (λ t.
    let q = both_true (eqb (header bs).mode (mode_of us i)) (eqb (header bs).protocol (protocol_of us.bundle i)) t in
    absurd (ne (alone us i j h l (sym (eqb-true _ _ q.0) ∙ m) (sym (eqb-true _ _ q.1) ∙ p))))
    (λ t. t)

module _ (us : Party) (i b : ℕ) (bs : List ℕ) (ss : List (List ℕ)) where
  pub sent_now : (p : ℕ) → is_of us i bs ≡ true → (header bs).len ≡ length (payload bs) → p < length (payload bs) → get_or (payload bs) p 0 ≡ b
      → Sent us i p b (bs ∷ ss)
  unfolding sent_by flat_map
  sent_now p of whole h e =
      record {
        front = [];
        segment = bs;
        back = ss;
        split = refl;
        of = of;
        whole = whole;
        place = p;
        behind = omega arith;
        within = h;
        byte = e;
      }

  -- a byte that the segments behind carry is as much further behind as this one has of i
  sent_behind : (p q : ℕ) → p ≡ length (cond (is_of us i bs) (payload bs) []) + q → Sent us i q b ss → Sent us i p b (bs ∷ ss)
  unfolding sent_by flat_map
  sent_behind p q e k =
      record {
        front = bs ∷ k.front;
        segment = k.segment;
        back = k.back;
        split = ap {B = List (List ℕ)} (λ rest. bs ∷ rest) k.split;
        of = k.of;
        whole = k.whole;
        place = k.place;
        behind = rw length-append (omega (arith, e, k.behind));
        within = k.within;
        byte = k.byte;
      }

  pub sent_other : (p : ℕ) → is_of us i bs ≡ false → Sent us i p b ss → Sent us i p b (bs ∷ ss)
  sent_other p of k = sent_behind p p (rw of (omega arith)) k

  pub sent_later : (p : ℕ) → is_of us i bs ≡ true → length (payload bs) ≤ p → Sent us i (p - length (payload bs)) b ss → Sent us i p b (bs ∷ ss)
  sent_later p of h k = sent_behind p (p - length (payload bs)) (rw of (omega arith)) k
