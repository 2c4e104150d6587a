-- What is heard, exactly when: `hear_exactly`; which byte is bad; what a closing names, and that it keeps a record in range.
-- Assumes nothing.
use mathlib.Core.Path.{◌≡◌, refl, sym, ap, subst, ◌∙◌}
use mathlib.Core.Bool.{true, false, ◌&&◌, true≢false, or-true}
use mathlib.Core.List.{List}
use mathlib.Core.Logic.{◌≢◌}
use mathlib.Core.Option.{some}
use Prim.Native.Nat.{ℕ, ◌≤◌, ◌<◌}
use native.Mathlib.Omega.{arith}
use lib.Dec.{eqb, ltb}
use lib.ListN.{length, get_or}
use borrow.Author.Tests.{lt-ltb, le-ltb, ltb-true, ltb-false}
use Rattle.base.proofs.Conds.{by_test, cond_cases}
use Rattle.wire.specs.Instances.{instances, role_of, sided}
use Rattle.item.specs.Grammar.{nesting}
use Rattle.item.proofs.WhichByte.{which_byte}
use Rattle.connection.specs.declared.Connection.{Connection}
use Rattle.connection.specs.declared.Gate.{Gate}
use Rattle.connection.specs.declared.Gate.TheVariants.{Open, Closed}
use Rattle.connection.specs.declared.Closing.TheVariants.{Of}
use Rattle.connection.specs.Shapes.{Shaped}
use Rattle.connection.specs.Closings.{closing_of, closed_by, is_open, wrong_mode, overflow, bytes_bad, among, heard_fault, gate_ok}
use Rattle.connection.specs.Parts.{with_gate, held_of}
use Rattle.connection.proofs.ClosingLaws.{closed_stays}
use Rattle.range.specs.Ranges.{in_range, receives}
use Rattle.range.specs.Besides.Ranges.{InReceive}
use Rattle.range.proofs.RangeLaws.{Ranged, is_in_range}
use Rattle.judging.specs.declared.Judged.{Judged}
use Rattle.judging.specs.declared.Outcome.{Outcome}
use Rattle.std.specs.Prelude.{Ok}
use Rattle.judging.specs.Judging.{View, Judgement, outcome_number, outcome_offset, unjudged}
use Rattle.judging.specs.Besides.Hearing as judging
use Rattle.judging.specs.Besides.Hearing.{Unheard, Hears}
use Rattle.judging.proofs.HearingLaws.{hears, heard_exactly, unheard_number, unheard_bad, no_offset}
use Rattle.hearing.specs.declared.Shown.{Shown}
use Rattle.hearing.specs.Inside.{Held}
use Rattle.hearing.specs.Hearing.{seen, hear_of, shown_by, shut}
use Rattle.hearing.specs.Besides.Numbers.{Unshown, out_of_range, no_instance, unheard, Tells, refusal, message, HearExactly, Offset, WhichByte, ShutNames}
use Rattle.hearing.proofs.HearingLaws.{asked, held_within}

-- ---- what is heard, exactly when

module _ (c : Connection) (store : List ℕ) (i : ℕ) where
  abbrev count : ℕ
  count = instances c.settings.party.bundle

  -- where a "when" holds, that is heard
  heard_here : InReceive c store i → {j : Judgement} → Hears (seen c store i) j → hear_of c store i ≡ j
  unfolding hear_of
  heard_here a {j} h = rw (a.0, lt-ltb i count a.1) ((heard_exactly (seen c store i) j).1 h)

  hear_so : {j : Judgement} → Tells c store i j → hear_of c store i ≡ j
  unfolding hear_of
  hear_so (refusal (out_of_range r)) = rw r
  hear_so (refusal (no_instance r h)) = rw (r, le-ltb i count h)
  hear_so (refusal (unheard a u)) = heard_here a (judging.refusal u)
  hear_so (message f) = heard_here f.asked (judging.message f.spells)

  -- and one of them holds
  of_heard : InReceive c store i → {j : Judgement} → Hears (seen c store i) j → Tells c store i j
  of_heard a (judging.refusal u) = refusal (unheard a u)
  of_heard a (judging.message s) = message (record { asked = a; spells = s })

  pub tells : Tells c store i (hear_of c store i)
  unfolding hear_of
  tells =
      cond_cases (Tells c store i) (receives c (length store))
      (λ r.
      cond_cases (Tells c store i) (ltb i count) (λ t. of_heard (r, ltb-true i count t) (hears (seen c store i)))
      (λ t. refusal (no_instance r (ltb-false i count t))))
      (λ r. refusal (out_of_range r))

pub hear_exactly : HearExactly
hear_exactly c store i j = (λ e. subst (Tells c store i) e (tells c store i), hear_so c store i)

-- ---- what follows

-- faults, and none
pub bad_closes : heard_fault bytes_bad ≡ true
unfolding among
bad_closes = refl

pub not_fault : (heard_fault 0 ≡ false) × (heard_fault 10 ≡ false) × (heard_fault 18 ≡ false) × (heard_fault 23 ≡ false)
unfolding among
not_fault = (refl, refl, refl, refl)

-- what is heard of a view asks for no buffer
unheard_room : {v : View} {o : Outcome} → Unheard v o → outcome_number o ≢ 18
unheard_room (judging.no_accept b) z = omega arith
unheard_room (judging.finished b d q) z = omega arith
unheard_room (judging.past_done b d q) z = omega arith
unheard_room (judging.our_turn b d o) z = omega arith
unheard_room (judging.waiting w e o) z = omega arith
unheard_room (judging.closed w e o) z = omega arith
unheard_room (judging.are_bad w e) z = omega arith
unheard_room (judging.not_a_message w e q none) z = omega arith
unheard_room (judging.no_row w e s x) z = omega arith

module _ {c : Connection} {store : List ℕ} {i : ℕ} where
  -- no refusal or notice is 0
  pub unshown_number : {o : Outcome} → Unshown c store i o → 0 < outcome_number o
  unshown_number (out_of_range r) = omega arith
  unshown_number (no_instance r h) = omega arith
  unshown_number (unheard a u) = (unheard_number u).0

  -- and none is 18
  pub unshown_room : {o : Outcome} → Unshown c store i o → outcome_number o ≢ 18
  unshown_room (out_of_range r) z = omega arith
  unshown_room (no_instance r h) z = omega arith
  unshown_room (unheard a u) z = unheard_room u z

  -- a fault is of an instance of a record in range
  pub fault_asked : {o : Outcome} → Unshown c store i o → heard_fault (outcome_number o) ≡ true → InReceive c store i
  fault_asked (out_of_range r) f = absurd (true≢false (sym f ∙ not_fault.3))
  fault_asked (no_instance r h) f = absurd (true≢false (sym f ∙ not_fault.1))
  fault_asked (unheard a u) f = a

  -- with 14, the offset tells which byte
  pub unshown_offset : {o : Outcome} → Unshown c store i o → Offset (held_of c store i) (shown_by (unjudged o))
  unshown_offset (out_of_range r) = record { before = λ z. absurd (omega arith); with_it = λ z. absurd (omega arith); else_none = λ q. refl }
  unshown_offset (no_instance r h) = record { before = λ z. absurd (omega arith); with_it = λ z. absurd (omega arith); else_none = λ q. refl }
  unshown_offset (unheard {o = o} a u) =
      let first = (which_byte nesting (held_of c store i) (outcome_offset o)).so in
      record { before = λ z. (first (unheard_bad u z)).0; with_it = λ z. (first (unheard_bad u z)).1; else_none = no_offset o }

  told_offset : {j : Judgement} → Tells c store i j → Offset (held_of c store i) (shown_by j)
  told_offset (refusal u) = unshown_offset u
  told_offset (message f) = record { before = λ z. absurd (omega arith); with_it = λ z. absurd (omega arith); else_none = λ q. refl }

  -- with a message, the instance is one of a record in range, and the message is not longer than what is held
  told_found : {k : Judgement} → Tells c store i k → (j : Judged) → k ≡ Ok j → InReceive c store i × (j.len ≤ get_or c.receiving.held i 0)
  told_found (refusal u) j e = cc
  told_found (message {n = n} f) j e =
      let q : n ≡ j.len = cc in
      (f.asked, omega (arith, held_within c store i n f.spells.whole))

pub which_byte_heard : WhichByte
which_byte_heard c store i = told_offset (tells c store i)

-- so the message is in its area
pub found : (c : Connection) (store : List ℕ) (i : ℕ) (j : Judged) → hear_of c store i ≡ Ok j
    → Held c.settings.receive (length store) i (get_or c.receiving.starts i 0) (get_or c.receiving.held i 0) × (j.len ≤ get_or c.receiving.held i 0)
found c store i j e = let (a, l) = told_found (tells c store i) j e in (asked c store i a, l)

-- ---- the closing

names_open : (g : Gate) (n i : ℕ) → is_open g ≡ true → closing_of (closed_by g (Of n i)) ≡ some (n, some i)
names_open Open n i o = refl
names_open (Closed y) n i o = absurd (true≢false (sym o))

pub shut_names : ShutNames
shut_names c i n =
    record {
      fault = λ t o. rw t (names_open c.gate n i o);
      kept = λ o. by_test (heard_fault n) (λ t. rw (t, closed_stays c.gate (Of n i) o)) (λ t. rw t);
      other = λ t. rw t;
    }

-- ---- the range

-- a fault of an instance leaves a closing that a fault leaves
closed_ok : (b : ℕ) (g : Gate) (n i : ℕ) → heard_fault n ≡ true → i < instances b → gate_ok b g ≡ true → gate_ok b (closed_by g (Of n i)) ≡ true
closed_ok b Open n i f h o = rw (lt-ltb i (instances b) h, f, or-true (eqb n overflow), or-true (eqb n wrong_mode && sided (role_of b i)))
closed_ok b (Closed y) n i f h o = o

gated : (c : Connection) (g : Gate) → Ranged c → gate_ok c.settings.party.bundle g ≡ true → Ranged (with_gate c g)
gated c g r o =
    record {
      set = r.set;
      receiving = r.receiving;
      sending = r.sending;
      states = r.states;
      turn = r.turn;
      header = r.header;
      under_way = r.under_way;
      accepted = r.accepted;
      closing = o;
    }

gated_shaped : (c : Connection) (g : Gate) → Shaped c → Shaped (with_gate c g)
gated_shaped c g s =
    record {
      receive = s.receive;
      send = s.send;
      receive_starts = s.receive_starts;
      held = s.held;
      header = s.header;
      send_starts = s.send_starts;
      waiting = s.waiting;
      states = s.states;
    }

-- so what is shut stays in range
pub shut_keeps : (c : Connection) (store : List ℕ) (i : ℕ) → Shaped c → Ranged c → {o : Outcome} → Unshown c store i o
    → let k = shut c i (outcome_number o) in (in_range k ≡ true) × Shaped k
shut_keeps c store i s r {o} u =
    let n = outcome_number o in
    by_test (heard_fault n)
    (λ t.
    let g = closed_by c.gate (Of n i) in
    rw t (is_in_range (with_gate c g) (gated c g r (closed_ok c.settings.party.bundle c.gate n i t (fault_asked u t).1 r.closing)), gated_shaped c g s))
    (λ t. rw t (is_in_range c r, s))
