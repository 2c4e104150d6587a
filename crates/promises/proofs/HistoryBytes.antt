-- What was received (T11 a), byte by byte: the division of the bytes so far stands as the record does, and what it has for an instance is what
-- was dropped and what is held.
-- Assumes nothing.
use Rattle.std.specs.Prelude.{Ok, Err}
use mathlib.Core.Path.{◌≡◌, refl, sym, ap, ◌∙◌}
use mathlib.Core.Bool.{true, false, true≢false, cond}
use mathlib.Core.List.{List, [], ◌∷◌, ◌++◌, append-nil, append_assoc}
use Prim.Native.Nat.{ℕ, suc, ◌+◌, ◌-◌, ◌≤◌, ◌<◌}
use native.Mathlib.Omega.{arith}
use borrow.Author.Tests.{ne_eqb, eqb-true, eqb-false, leb-true, leb-false}
use lib.Dec.{eqb, leb}
use lib.ListN.{length, get_or, take, length-set, length-append}
use Rattle.base.proofs.Conds.{by_test, cond_cases}
use Rattle.ring.specs.Ring.{base_of, stream}
use Rattle.ring.proofs.Streams.{queue_laid}
use Rattle.wire.specs.declared.segment.Header.{Header}
use Rattle.wire.specs.declared.instances.Party.{Party}
use Rattle.wire.specs.Instances.{Route}
use Rattle.wire.specs.declared.instances.RouteError.TheVariants.{Unknown, Wrong}
use Rattle.wire.specs.Segments.{header_length, empty, added, decoded, Carried, Divided, in_header, in_payload}
use Rattle.wire.specs.Instances.{instances, most, route_of}
use Rattle.wire.proofs.InstanceLaws.{at_most}
use Rattle.wire.proofs.SegmentLaws.{part, add_part, part_whole, divided_on, divided_whole}
use Rattle.connection.specs.declared.Receiving.{Receiving}
use Rattle.connection.specs.Closings.{is_open}
use Rattle.admitting.specs.Admitting.{Admission}
use Rattle.feeding.specs.Feeding.{Reception, admitted, admission, settled, headed, kept, step, fed, used}
use Rattle.feeding.proofs.Bytes.{step_headed, step_kept, fed_closed}
use Rattle.feeding.proofs.Keeping.{Kept, kept_fed}
use Rattle.promises.specs.History.{payload_for, received_in}
use Rattle.promises.proofs.HistoryLayout.{none_for, for_append, received_head, received_in_lem, received_whole}

-- the bytes held for instance i
abbrev pub held_in : List ℕ → Reception → ℕ → List ℕ
held_in caps s i =
    stream s.store (base_of caps i) (get_or caps i 0) (get_or s.receiving.starts i 0) (get_or s.receiving.held i 0)

-- what the record has of the bytes that are left: they are those of its header, or it waits for the rest of their payload
pub data Reading (us : Party) (r : Receiving) (left : List ℕ) : Type 0 where
  in_head : r.rest ≡ 0 → length left < header_length → r.header ≡ part left → Reading us r left
  in_pay : (h p : List ℕ) → left ≡ h ++ p → length h ≡ header_length → 0 < r.rest → length p + r.rest ≡ (decoded h).len → r.header ≡ empty
      → route_of us (decoded h).protocol (decoded h).mode ≡ Ok r.instance → Reading us r left

pub record Tied (us : Party) (caps : List ℕ) (dropped : ℕ → List ℕ) (bs : List ℕ) (s : Reception) : Type 0 where
  pub carried : List Carried
  pub left : List ℕ
  pub divided : Divided bs carried left
  pub received : (i : ℕ) → i < instances us.bundle → received_in us i carried left ≡ dropped i ++ held_in caps s i
  pub reading : is_open s.gate ≡ true → Reading us s.receiving left
  pub many : length s.receiving.held ≡ most

-- ---- the division with one byte more

module _ (us : Party) (bs : List ℕ) (b : ℕ) (cs : List Carried) (left : List ℕ) (d : Divided bs cs left) where
  abbrev H : List ℕ
  H = left ++ (b ∷ [])

  -- a header that is not whole with it
  head_part : length H < header_length → Divided (bs ++ (b ∷ [])) cs H
  head_part h = rw append-nil at (divided_on (b ∷ []) d (in_header h))

  head_part_for : (i : ℕ) → length H ≤ header_length → received_in us i cs H ≡ received_in us i cs left
  head_part_for i h =
      received_head us i cs H h ∙ sym (received_head us i cs left (omega (arith, length-append left (b ∷ []))))

  module _ (whole : length H ≡ header_length) where
    short : length left ≤ header_length
    short = omega (arith, length-append left (b ∷ []))

    -- a header that is whole with it, of an empty payload
    head_none : (decoded H).len ≡ 0 → Divided (bs ++ (b ∷ [])) (cs ++ (record { header = decoded H; payload = [] } ∷ [])) []
    head_none z = divided_on (b ∷ []) d (rw append-nil at (divided_whole H [] whole (sym z)))

    head_none_for : (i : ℕ) → received_in us i (cs ++ (record { header = decoded H; payload = [] } ∷ [])) [] ≡ received_in us i cs left
    head_none_for i = received_whole us i cs H [] ∙ rw (none_for us i (decoded H), append-nil) (sym (received_head us i cs left short))

    -- and of another
    head_some : 0 < (decoded H).len → Divided (bs ++ (b ∷ [])) cs H
    head_some p = rw append-nil at (divided_on (b ∷ []) d (rw append-nil at (in_payload H [] whole p)))

-- in a payload
module _ (us : Party) (bs : List ℕ) (b : ℕ) (cs : List Carried) (h p : List ℕ) (d : Divided bs cs (h ++ p)) (eight : length h ≡ header_length) where
  pay_long : length (p ++ (b ∷ [])) ≡ suc (length p)
  pay_long = length-append p (b ∷ []) ∙ omega arith

  -- its last byte
  pay_last : suc (length p) ≡ (decoded h).len → Divided (bs ++ (b ∷ [])) (cs ++ (record { header = decoded h; payload = p ++ (b ∷ []) } ∷ [])) []
  pay_last n = divided_on (b ∷ []) d (rw append_assoc (divided_whole h (p ++ (b ∷ [])) eight (pay_long ∙ n)))

  pay_last_for : (i : ℕ)
      → received_in us i (cs ++ (record { header = decoded h; payload = p ++ (b ∷ []) } ∷ [])) []
      ≡ received_in us i cs (h ++ p) ++ payload_for us i (decoded h) (b ∷ [])
  pay_last_for i =
      received_whole us i cs h (p ++ (b ∷ []))
      ∙ rw (for_append us i (decoded h) p (b ∷ []), received_in_lem us i cs h p eight, append_assoc)

  -- another byte
  pay_more : suc (length p) < (decoded h).len → Divided (bs ++ (b ∷ [])) cs (h ++ (p ++ (b ∷ [])))
  pay_more n =
      let whole-left : List ℕ = h ++ (p ++ (b ∷ [])) in
      let q : Divided ((h ++ p) ++ (b ∷ [])) [] whole-left = rw append_assoc (in_payload h (p ++ (b ∷ [])) eight (rw pay_long n)) in
      rw append-nil at (divided_on (b ∷ []) d q)

  pay_more_for : (i : ℕ) → received_in us i cs (h ++ (p ++ (b ∷ []))) ≡ received_in us i cs (h ++ p) ++ payload_for us i (decoded h) (b ∷ [])
  pay_more_for i =
      received_in_lem us i cs h (p ++ (b ∷ [])) eight
      ∙ rw (for_append us i (decoded h) p (b ∷ []), received_in_lem us i cs h p eight, append_assoc)

-- ---- one byte

module _ (us : Party) (caps : List ℕ) (dropped : ℕ → List ℕ) (some : (i : ℕ) → i < instances us.bundle → 0 < get_or caps i 0) where
  -- a whole header
  module _ (bs : List ℕ) (b : ℕ) (s : Reception) (t : Tied us caps dropped bs s) (short : length t.left < header_length)
      (eight : length (t.left ++ (b ∷ [])) ≡ header_length) where
    abbrev new : List ℕ
    new = t.left ++ (b ∷ [])

    -- the division, however long the payload, with what stands behind it
    tied_with : (s' : Reception) → s'.store ≡ s.store → s'.receiving.starts ≡ s.receiving.starts → s'.receiving.held ≡ s.receiving.held
        → ((decoded new).len ≡ 0 → is_open s'.gate ≡ true → Reading us s'.receiving [])
        → (0 < (decoded new).len → is_open s'.gate ≡ true → Reading us s'.receiving new)
        → Tied us caps dropped (bs ++ (b ∷ [])) s'
    tied_with s' e f g none more =
        by_test (eqb (decoded new).len 0)
        (λ q.
        let z : (decoded new).len ≡ 0 = eqb-true (decoded new).len 0 q in
        record {
          carried = t.carried ++ (record { header = decoded new; payload = [] } ∷ []);
          left = [];
          divided = head_none us bs b t.carried t.left t.divided eight z;
          received = λ i l. head_none_for us bs b t.carried t.left t.divided eight i ∙ t.received i l ∙ rw (e, f, g);
          reading = none z;
          many = rw g t.many;
        })
        (λ q.
        let z : 0 < (decoded new).len = let n = eqb-false (decoded new).len 0 q in omega arith in
        record {
          carried = t.carried;
          left = new;
          divided = head_some us bs b t.carried t.left t.divided eight z;
          received = λ i l. head_part_for us bs b t.carried t.left t.divided i (omega arith) ∙ t.received i l ∙ rw (e, f, g);
          reading = more z;
          many = rw g t.many;
        })

    never : {P : Type 0} → false ≡ true → P
    never e = absurd (true≢false (sym e))

    tied_settled : is_open s.gate ≡ true → (r : Route) → route_of us (decoded new).protocol (decoded new).mode ≡ r
        → Tied us caps dropped (bs ++ (b ∷ [])) (settled s (admitted caps s.receiving.held (decoded new).len r))
    tied_settled o (Err Unknown) e = tied_with _ refl refl refl (λ z q. never q) (λ z q. never q)
    tied_settled o (Err (Wrong i)) e = tied_with _ refl refl refl (λ z q. never q) (λ z q. never q)
    tied_settled o (Ok i) e =
        let n = (decoded new).len in
        cond_cases (λ (a : Admission). Tied us caps dropped (bs ++ (b ∷ [])) (settled s a)) (leb (get_or s.receiving.held i 0 + n) (get_or caps i 0))
        (λ q.
        tied_with _ refl refl refl (λ z y. in_head z (omega arith) refl)
        (λ z y. in_pay new [] (sym (append-nil new)) eight z (omega arith) refl (rw (ne_eqb n 0 (λ x. omega arith)) e)))
        (λ q. tied_with _ refl refl refl (λ z y. never y) (λ z y. never y))

  -- a byte of a header
  tied_headed : (bs : List ℕ) (b : ℕ) (s : Reception) (t : Tied us caps dropped bs s) → is_open s.gate ≡ true → s.receiving.rest ≡ 0
      → length t.left < header_length → s.receiving.header ≡ part t.left → Tied us caps dropped (bs ++ (b ∷ [])) (headed us caps s b)
  unfolding headed admission
  tied_headed bs b s t o z short e =
      let new : List ℕ = t.left ++ (b ∷ []) in
      let long : length new ≡ suc (length t.left) = length-append t.left (b ∷ []) ∙ omega arith in
      let f : added s.receiving.header b ≡ part new = ap (λ (h : Header). added h b) e ∙ add_part t.left b short in
      rw f
      (cond_cases (Tied us caps dropped (bs ++ (b ∷ []))) (leb header_length (length new))
      (λ q.
      let eight : length new ≡ header_length = omega (arith, leb-true header_length (length new) q) in
      rw (part_whole new eight) (tied_settled bs b s t short eight o (route_of us (decoded new).protocol (decoded new).mode) refl))
      (λ q.
      let less : length new < header_length = leb-false header_length (length new) q in
      record {
        carried = t.carried;
        left = new;
        divided = head_part us bs b t.carried t.left t.divided less;
        received = λ i l. head_part_for us bs b t.carried t.left t.divided i (omega arith) ∙ t.received i l;
        reading = λ y. in_head z less refl;
        many = t.many;
      }))

  -- what is held with a byte more of the payload under way
  held_more : (b : ℕ) (s : Reception) → length s.receiving.held ≡ most → length s.store ≡ base_of caps (instances us.bundle) → s.receiving.instance < instances us.bundle
      → get_or s.receiving.held s.receiving.instance 0 < get_or caps s.receiving.instance 0
      → (i : ℕ) → i < instances us.bundle → held_in caps (kept caps s (b ∷ [])) i ≡ held_in caps s i ++ cond (eqb s.receiving.instance i) (b ∷ []) []
  unfolding kept
  held_more b s many areas inside room i l =
      queue_laid s.store caps s.receiving.starts s.receiving.held s.receiving.instance (instances us.bundle) (b ∷ []) areas some
      inside (omega (arith, at_most us.bundle)) (omega arith) i l

  -- a byte of a payload
  module _ (bs : List ℕ) (b : ℕ) (s : Reception) (t : Tied us caps dropped bs s) (areas : length s.store ≡ base_of caps (instances us.bundle))
      (inside : s.receiving.instance < instances us.bundle)
      (room : get_or s.receiving.held s.receiving.instance 0 < get_or caps s.receiving.instance 0)
      (h p : List ℕ) (e : t.left ≡ h ++ p) (eight : length h ≡ header_length) (more : 0 < s.receiving.rest)
      (n : length p + s.receiving.rest ≡ (decoded h).len) (z : s.receiving.header ≡ empty)
      (to : route_of us (decoded h).protocol (decoded h).mode ≡ Ok s.receiving.instance) where
    abbrev after : Reception
    after = kept caps s (b ∷ [])

    was : Divided bs t.carried (h ++ p)
    was = rw e at t.divided

    -- what was received is what was dropped and what is then held
    grown : (i : ℕ) → i < instances us.bundle → (xs : List ℕ) → xs ≡ received_in us i t.carried (h ++ p) ++ payload_for us i (decoded h) (b ∷ [])
        → xs ≡ dropped i ++ held_in caps after i
    grown i l xs q =
        let r : received_in us i t.carried (h ++ p) ≡ dropped i ++ held_in caps s i = rw e at (t.received i l) in
        rw (q, r, to, held_more b s t.many areas inside room i l, append_assoc)

    many_after : length after.receiving.held ≡ most
    unfolding kept
    many_after = rw length-set t.many

    tied_kept : Tied us caps dropped (bs ++ (b ∷ [])) after
    unfolding kept
    tied_kept =
        by_test (eqb (s.receiving.rest - 1) 0)
        (λ q.
        let y : s.receiving.rest - 1 ≡ 0 = eqb-true (s.receiving.rest - 1) 0 q in
        record {
          carried = t.carried ++ (record { header = decoded h; payload = p ++ (b ∷ []) } ∷ []);
          left = [];
          divided = pay_last us bs b t.carried h p was eight (omega arith);
          received = λ i l. grown i l _ (pay_last_for us bs b t.carried h p was eight i);
          reading = λ o. in_head y (omega arith) z;
          many = many_after;
        })
        (λ q.
        let y = eqb-false (s.receiving.rest - 1) 0 q in
        record {
          carried = t.carried;
          left = h ++ (p ++ (b ∷ []));
          divided = pay_more us bs b t.carried h p was eight (omega arith);
          received = λ i l. grown i l _ (pay_more_for us bs b t.carried h p was eight i);
          reading = λ o.
              in_pay h (p ++ (b ∷ [])) refl eight (omega arith) (omega (arith, pay_long us bs b t.carried h p was eight)) z (rw q to);
          many = many_after;
        })

  tied_read : (bs : List ℕ) (b : ℕ) (s : Reception) (starts : List ℕ) (n : ℕ) (t : Tied us caps dropped bs s) → is_open s.gate ≡ true
      → Kept us.bundle caps starts n s → n ≡ base_of caps (instances us.bundle) → Reading us s.receiving t.left → Tied us caps dropped (bs ++ (b ∷ [])) (step us caps s b)
  tied_read bs b s starts n t o k long (in_head z short e) =
      rw (step_headed us caps s b o z) (tied_headed bs b s t o z short e)
  tied_read bs b s starts n t o k long (in_pay h p e eight more m z to) =
      let (none, inside, fit) = k.under_way more in
      rw (step_kept us caps s b o more) (tied_kept bs b s t (k.long ∙ long) inside (omega (arith, fit)) h p e eight more m z to)

  -- ---- a run: the bytes that are used
  pub tied_fed : (xs bs : List ℕ) (s : Reception) (starts : List ℕ) (n : ℕ) → Tied us caps dropped bs s → Kept us.bundle caps starts n s → n ≡ base_of caps (instances us.bundle)
      → Tied us caps dropped (bs ++ take (used us caps s xs) xs) (fed us caps s xs)
  unfolding fed used
  tied_fed [] bs s starts n t k long = rw append-nil t
  tied_fed (x ∷ xs) bs s starts n t k long =
      by_test (is_open s.gate)
      (λ o.
      let t' : Tied us caps dropped (bs ++ (x ∷ [])) (step us caps s x) = tied_read bs x s starts n t o k long (t.reading o) in
      let k' : Kept us.bundle caps starts n (step us caps s x) = kept_fed us caps starts n s (x ∷ []) k in
      rw (o, ← append_assoc bs (x ∷ []) (take (used us caps (step us caps s x) xs) xs))
      (tied_fed xs (bs ++ (x ∷ [])) (step us caps s x) starts n t' k' long))
      (λ o. rw (o, append-nil, fed_closed us caps s (x ∷ xs) o) t)
