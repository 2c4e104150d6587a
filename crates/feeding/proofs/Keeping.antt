-- Feeding keeps the range, byte by byte.
-- Assumes nothing.
use Rattle.std.specs.Prelude.{Ok, Err}
use mathlib.Core.Path.{◌≡◌, refl, sym, ◌∙◌, subst}
use mathlib.Core.Bool.{true}
use mathlib.Core.List.{List, [], ◌∷◌}
use Prim.Native.Nat.{ℕ, zero, suc, ◌+◌, ◌-◌, ◌≤◌, ◌<◌}
use native.Mathlib.Omega.{arith}
use borrow.Author.Tests.{ne_eqb, eqb-true, eqb-false, lt-ltb, leb-true, leb-false}
use lib.Dec.{eqb, leb, ltb}
use lib.ListN.{length, get_or, set, length-set}
use lib.Seq.{get_or-set_other}
use Rattle.base.specs.Numbers.{Bytes}
use Rattle.base.proofs.Conds.{by_test, cond_cases}
use Rattle.base.proofs.NumberLaws.{bytes_set, bytes_zeros}
use Rattle.ring.specs.Ring.{base_of}
use Rattle.ring.proofs.Stores.{laid_length}
use Rattle.wire.specs.declared.segment.Header.{Header}
use Rattle.wire.specs.declared.instances.Party.{Party}
use Rattle.wire.specs.Instances.{Route}
use Rattle.wire.specs.declared.instances.RouteError.TheVariants.{Unknown, Wrong}
use Rattle.wire.specs.Segments.{header_length, empty, added, decoded}
use Rattle.wire.specs.Instances.{instances, route_of}
use Rattle.wire.specs.Inside.{Within}
use Rattle.wire.proofs.SegmentLaws.{round_trip}
use Rattle.wire.proofs.InstanceLaws.{one_way, route_within}
use Rattle.connection.specs.declared.Connection.{Connection}
use Rattle.connection.specs.Closings.{is_open, gate_ok}
use Rattle.connection.specs.Parts.{with_receiving}
use Rattle.range.specs.Ranges.{in_range}
use Rattle.range.proofs.RangeLaws.{Ranged, ranged, is_in_range}
use Rattle.admitting.specs.Admitting.{Admission}
use Rattle.feeding.specs.Feeding.{Reception, admitted, admission, settled, headed, kept, step, fed, given}
use Rattle.feeding.specs.Feeding.{Spelt}

-- what feeding can change of the range
pub record Kept (b : ℕ) (caps starts : List ℕ) (n : ℕ) (s : Reception) : Type 0 where
  pub places : s.receiving.starts ≡ starts
  pub held : (i : ℕ) → i < instances b → get_or s.receiving.held i 0 ≤ get_or caps i 0
  pub header : s.receiving.header.count < header_length
  pub under_way : 0 < s.receiving.rest
      → (s.receiving.header.count ≡ 0) × (s.receiving.instance < instances b)
      × (get_or s.receiving.held s.receiving.instance 0 + s.receiving.rest ≤ get_or caps s.receiving.instance 0)
  pub long : length s.store ≡ n

set_most : (l : List ℕ) (i a : ℕ) → get_or (set l i a) i 0 ≤ a
set_most [] i a = omega arith
set_most (x ∷ l) zero a = omega arith
set_most (x ∷ l) (suc i) a = set_most l i a

module _ (us : Party) (caps starts : List ℕ) (n : ℕ) where
  kept_settled : (s : Reception) (m : ℕ) (r : Route) → Within us.bundle r → Kept us.bundle caps starts n s → s.receiving.rest ≡ 0
      → Kept us.bundle caps starts n (settled s (admitted caps s.receiving.held m r))
  kept_settled s m (Err e) w k z =
      record { places = k.places; held = k.held; header = omega arith; under_way = λ more. absurd (omega arith); long = k.long }
  kept_settled s m (Ok i) w k z =
      cond_cases (λ (a : Admission). Kept us.bundle caps starts n (settled s a)) (leb (get_or s.receiving.held i 0 + m) (get_or caps i 0))
      (λ t.
      record {
        places = k.places;
        held = k.held;
        header = omega arith;
        under_way = λ more.
            let some = ne_eqb m 0 (λ e. omega arith) in
            (refl, rw some w, rw some (leb-true (get_or s.receiving.held i 0 + m) (get_or caps i 0) t));
        long = k.long;
      })
      (λ t. record { places = k.places; held = k.held; header = omega arith; under_way = λ more. absurd (omega arith); long = k.long })

  kept_headed : (s : Reception) (x : ℕ) → Kept us.bundle caps starts n s → s.receiving.rest ≡ 0 → Kept us.bundle caps starts n (headed us caps s x)
  unfolding headed admission
  kept_headed s x k z =
      let h = added s.receiving.header x in
      let d = decoded h.bytes in
      cond_cases (Kept us.bundle caps starts n) (leb header_length h.count)
      (λ t. kept_settled s d.len (route_of us d.protocol d.mode) (route_within us d.protocol d.mode) k z)
      (λ t.
      record {
        places = k.places;
        held = k.held;
        header = leb-false header_length h.count t;
        under_way = λ more. absurd (omega arith);
        long = k.long;
      })

  kept_payload : (s : Reception) (x : ℕ) → Kept us.bundle caps starts n s → 0 < s.receiving.rest → Kept us.bundle caps starts n (kept caps s (x ∷ []))
  unfolding kept
  kept_payload s x k more =
      let r = s.receiving in
      let i = r.instance in
      let held = r.held in
      record {
        places = k.places;
        held = λ j l.
            by_test (eqb i j)
            (λ q.
            let e : i ≡ j = eqb-true i j q in
            let was = (k.under_way more).2 in
            rw (← e) (omega (arith, set_most held i (get_or held i 0 + 1), was)))
            (λ q. rw (get_or-set_other held i j (get_or held i 0 + 1) 0 (λ e. eqb-false i j q (sym e))) (k.held j l));
        header = k.header;
        under_way = λ still.
            let some = ne_eqb (r.rest - 1) 0 (λ e. omega arith) in
            let (none, inside, fit) = k.under_way more in
            (none, rw some inside, rw some (omega (arith, set_most held i (get_or held i 0 + 1), fit)));
        long = laid_length s.store (base_of caps i) (get_or caps i 0) (get_or r.starts i 0 + get_or held i 0) (x ∷ []) ∙ k.long;
      }

  kept_step : (s : Reception) (x : ℕ) → Kept us.bundle caps starts n s → Kept us.bundle caps starts n (step us caps s x)
  unfolding step
  kept_step s x k =
      cond_cases (Kept us.bundle caps starts n) (is_open s.gate)
      (λ o.
      cond_cases (Kept us.bundle caps starts n) (eqb s.receiving.rest 0) (λ t. kept_headed s x k (eqb-true s.receiving.rest 0 t))
      (λ t. let z = eqb-false s.receiving.rest 0 t in kept_payload s x k (omega arith)))
      (λ o. k)

  pub kept_fed : (s : Reception) (xs : List ℕ) → Kept us.bundle caps starts n s → Kept us.bundle caps starts n (fed us caps s xs)
  unfolding fed
  kept_fed s [] k = k
  kept_fed s (x ∷ xs) k = kept_fed (step us caps s x) xs (kept_step s x k)

-- ---- the range of the whole record

pub kept_given : (c : Connection) (st : List ℕ) → in_range c ≡ true
    → Kept c.settings.party.bundle c.settings.receive c.receiving.starts (length st) (given c st)
kept_given c st e =
    let k : Ranged c = ranged c e in
    record { places = refl; held = λ i l. (k.receiving i l).1; header = k.header; under_way = k.under_way; long = refl }

-- a record in range stays so with what feeding leaves and a closing that a fault leaves
pub range_with : (c : Connection) (n : ℕ) (s : Reception) → in_range c ≡ true
    → Kept c.settings.party.bundle c.settings.receive c.receiving.starts n s
    → gate_ok c.settings.party.bundle s.gate ≡ true → in_range (with_receiving c s.receiving s.gate) ≡ true
range_with c n s e k g =
    let was : Ranged c = ranged c e in
    is_in_range (with_receiving c s.receiving s.gate)
    (record {
      set = was.set;
      receiving = λ i l. (rw k.places (was.receiving i l).0, k.held i l);
      sending = was.sending;
      states = was.states;
      turn = was.turn;
      header = k.header;
      under_way = k.under_way;
      accepted = was.accepted;
      closing = g;
    })

-- ---- bytes

spelt_added : (h : Header) (x : ℕ) → Spelt h → x < 256 → Spelt (added h x)
unfolding added
spelt_added h x (l, s) t =
    cond_cases Spelt (ltb h.count header_length)
    (λ q. (length-set h.bytes h.count x ∙ l, bytes_set h.bytes h.count x s t))
    (λ q. (l, s))

pub spelt_empty : Spelt empty
spelt_empty = (refl, bytes_zeros header_length)

module _ (us : Party) (caps : List ℕ) where
  -- the closing is one that a fault leaves
  abbrev Proper : Reception → Type 0
  Proper s = Spelt s.receiving.header × (gate_ok us.bundle s.gate ≡ true)

  proper_settled : (s : Reception) (p m n : ℕ) → m < 2 → Proper s → Proper (settled s (admitted caps s.receiving.held n (route_of us p m)))
  proper_settled s p m n two k = go (route_of us p m) refl
    where
      go : (r : Route) → route_of us p m ≡ r → Proper (settled s (admitted caps s.receiving.held n r))
      go (Err Unknown) e = (spelt_empty, refl)
      go (Err (Wrong i)) e = let q = ((one_way us).wrong p m i two).0 e in (spelt_empty, rw (lt-ltb i (instances us.bundle) q.0, q.1))
      go (Ok i) e =
          cond_cases (λ (a : Admission). Proper (settled s a)) (leb (get_or s.receiving.held i 0 + n) (get_or caps i 0)) (λ t. (spelt_empty, k.1))
          (λ t. (spelt_empty, rw (lt-ltb i (instances us.bundle) (subst (Within us.bundle) e (route_within us p m)))))

  proper_step : (s : Reception) (x : ℕ) → Proper s → x < 256 → Proper (step us caps s x)
  unfolding step headed admission kept
  proper_step s x k l =
      let h : Header = added s.receiving.header x in
      let spelt : Spelt h = spelt_added s.receiving.header x k.0 l in
      let d = decoded h.bytes in
      cond_cases Proper (is_open s.gate)
      (λ o.
      cond_cases Proper (eqb s.receiving.rest 0)
      (λ t.
      cond_cases Proper (leb header_length h.count)
      (λ q. proper_settled s d.protocol d.mode d.len (round_trip.written_read h.bytes spelt.0 spelt.1).0.mode k)
      (λ q. (spelt, k.1)))
      (λ t. k))
      (λ o. k)

  pub proper_fed : (s : Reception) (xs : List ℕ) → Proper s → Bytes xs → Proper (fed us caps s xs)
  unfolding fed Bytes
  proper_fed s [] k bs = k
  proper_fed s (x ∷ xs) k (l, bs) = proper_fed (step us caps s x) xs (proper_step s x k l) bs
