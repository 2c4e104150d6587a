-- Which number put answers, and what a call leaves: `exactly`, `untouched` and `keeps`. What is said decides which "when" holds, up to the room; and each
-- "when" makes the call go one of three ways.
-- Assumes nothing.
use mathlib.Core.Path.{◌≡◌, refl, sym, ap, subst, ◌∙◌}
use mathlib.Core.Bool.{true, false, true≢false, ◌&&◌}
use mathlib.Core.List.{List}
use mathlib.Core.Logic.{◌≢◌}
use Prim.Native.Nat.{ℕ, ◌+◌, ◌<◌, ◌≤◌}
use native.Mathlib.Omega.{arith}
use lib.Dec.{eqb, ltb, leb}
use lib.ListN.{length, get_or, length-set}
use lib.Seq.{get_or-set_same, get_or-set_other}
use borrow.Author.Tests.{eq-eqb, lt-ltb, le-ltb, le-leb, lt-leb, eqb-true, eqb-false, ltb-true, ltb-false, leb-true, leb-false}
use Rattle.base.proofs.Conds.{by_test, equal_and, exactly_when}
use Rattle.wire.specs.Instances.{instances, handshake}
use Rattle.wire.proofs.InstanceLaws.{at_most}
use Rattle.messages.specs.declared.Message.{Message}
use Rattle.messages.specs.Reading.{flag_of}
use Rattle.ring.specs.Ring.{base_of}
use Rattle.ring.proofs.Stores.{laid_length}
use Rattle.connection.specs.declared.Sending.{Sending}
use Rattle.connection.specs.declared.Connection.{Connection}
use Rattle.connection.specs.Shapes.{Shaped}
use Rattle.connection.specs.Parts.{with_sending}
use Rattle.range.specs.Ranges.{sends}
use Rattle.range.specs.Besides.Ranges.{InSend}
use Rattle.range.proofs.RangeLaws as RangeLaws
use Rattle.range.proofs.RangeLaws.{ranged, is_in_range, sends_both}
use Rattle.judging.specs.declared.Judged.{Judged}
use Rattle.judging.specs.Judging.{Judgement, outcome_number, View, view_of, spoken, unjudged, leading, led, said}
use Rattle.judging.specs.Besides.Saying.{Moves, Utters, refusal, message}
use Rattle.judging.proofs.SayingLaws.{utters, said_exactly, unsaid_number}
use Rattle.judging.proofs.Moving.{moved_ranged, moved_shaped}
use Rattle.putting.specs.declared.Queued.{Queued}
use Rattle.putting.specs.Putting.{Told, told, refused, longer_of, queued, stored, put_of}
use Rattle.putting.specs.Besides.Numbers.{InOneSegment, When, Exactly, Untouched, Kept, Keeps}
use Rattle.putting.specs.Besides.Numbers.{out_of_range, no_instance, unsaid, above_limit, above_capacity, done}
use Rattle.putting.proofs.PuttingLaws.{put_range, put_instance, put_by, too_long, no_room, has_room}

module _ (c : Connection) (store : List ℕ) (i : ℕ) (xs : List ℕ) where
  abbrev out : Told
  out = put_of c store i xs

  abbrev view : View
  view = view_of c i xs

  abbrev Refuses : ℕ → Type 0
  Refuses n = told (refused c n) store ≡ out

  abbrev count : ℕ
  count = instances c.settings.party.bundle

  abbrev cap : ℕ
  cap = get_or c.settings.send i 0

  abbrev sum : ℕ
  sum = get_or c.sending.waiting i 0 + length xs

  -- what 0 leaves
  abbrev Queues : Message → ℕ → Type 0
  Queues m next = told (record { number = 0; connection = queued c i (length xs) (leading (length xs) m next) }) (stored c store i xs) ≡ out

  -- the ways of a call: 23; another refusal; or a message
  pub data Way : ℕ → Type 0 where
    unfit : sends c (length store) ≡ false → Refuses 23 → Way 23
    stays : (n : ℕ) → n ≢ 0 → n ≢ 23 → Refuses n → Way n
    gone : (m : Message) (next : ℕ) → InOneSegment c store i xs m next → sum ≤ cap → Queues m next → Way 0

  -- ---- where a "when" holds, the call goes that way

  said_as : {j : Judgement} → Utters view j → j ≡ said view
  said_as {j} u = sym ((said_exactly view j).1 u)

  -- a Handshake message is in one segment
  in_one : (i ≡ handshake → length xs ≤ c.settings.limit) → (eqb i handshake && ltb c.settings.limit (length xs)) ≡ false
  in_one l = by_test (eqb i 0) (λ q. rw (q, le-ltb c.settings.limit (length xs) (l (eqb-true i 0 q)))) (λ q. rw q)

  goes : {n : ℕ} → When c store i xs n → Way n
  goes (out_of_range r) = unfit r (put_range c store i xs r)
  goes (no_instance r h) = stays 10 (λ z. omega arith) (λ z. omega arith) (put_instance c store i xs r h)
  goes (unsaid {o = o} a u) =
      let (low, high) = unsaid_number u in
      stays (outcome_number o) (λ z. omega arith) (λ z. omega arith) (put_by c store i xs a (unjudged o) (said_as (refusal u)))
  goes (above_limit a v z l) =
      stays 24 (λ z. omega arith) (λ z. omega arith)
      (too_long c store i xs _ (rw (eq-eqb i 0 z, lt-ltb c.settings.limit (length xs) l)) ∙ put_by c store i xs a _ (said_as (message v)))
  goes (above_capacity v f) =
      stays 22 (λ z. omega arith) (λ z. omega arith)
      (no_room c store i xs _ (in_one v.short) (lt-leb sum cap f) ∙ put_by c store i xs v.asked _ (said_as (message v.moves)))
  goes (done {m = m} {next = next} v f) =
      gone m next v f
      (has_room c store i xs _ (in_one v.short) _ _ (le-leb sum cap f) refl refl
      ∙ put_by c store i xs v.asked _ (said_as (message v.moves)))

  -- ---- and one of them holds

  abbrev Some : Type 0
  Some = (n : ℕ) × When c store i xs n

  by_area : {m : Message} {next : ℕ} → InOneSegment c store i xs m next → Some
  by_area v = by_test (leb sum cap) (λ f. (0, done v (leb-true sum cap f))) (λ f. (22, above_capacity v (leb-false sum cap f)))

  by_length : InSend c store i → {m : Message} {next : ℕ} → Moves view m next → Some
  by_length a v =
      by_test (eqb i 0)
      (λ q.
      by_test (ltb c.settings.limit (length xs))
      (λ l. (24, above_limit a v (eqb-true i 0 q) (ltb-true c.settings.limit (length xs) l)))
      (λ l. by_area (record { asked = a; moves = v; short = λ z. ltb-false c.settings.limit (length xs) l })))
      (λ q. by_area (record { asked = a; moves = v; short = λ z. absurd (eqb-false i 0 q z) }))

  by_said : InSend c store i → {j : Judgement} → Utters view j → Some
  by_said a (refusal {o = o} u) = (outcome_number o, unsaid a u)
  by_said a (message v) = by_length a v

  when : Some
  when =
      by_test (sends c (length store))
      (λ r. by_test (ltb i count) (λ h. by_said (r, ltb-true i count h) (utters view)) (λ h. (10, no_instance r (ltb-false i count h))))
      (λ r. (23, out_of_range r))

  pub way : (n : ℕ) × Way n
  way = let (n, w) = when in (n, goes w)

  -- ---- so each number exactly then

  answered : {n : ℕ} → Way n → out.answer.number ≡ n
  answered (unfit r e) = ap (λ (t : Told). t.answer.number) (sym e)
  answered (stays n ne k e) = ap (λ (t : Told). t.answer.number) (sym e)
  answered (gone m next v f e) = ap (λ (t : Told). t.answer.number) (sym e)

  untouched_by : {n : ℕ} → Way n → (r : Queued) (after : List ℕ) → told r after ≡ out → (r.number ≡ 0 → ⊥)
      → (r.connection ≡ c) × (after ≡ store)
  untouched_by (unfit u e) r after q z =
      let p = q ∙ sym e in (ap (λ (t : Told). t.answer.connection) p, ap (λ (t : Told). t.store) p)
  untouched_by (stays n ne k e) r after q z =
      let p = q ∙ sym e in (ap (λ (t : Told). t.answer.connection) p, ap (λ (t : Told). t.store) p)
  untouched_by (gone m next v f e) r after q z = absurd (z (ap (λ (t : Told). t.answer.number) (q ∙ sym e)))

pub exactly : Exactly
exactly c store i xs n =
    let (k, w) = when c store i xs in
    let is : (n : ℕ) → When c store i xs n → (put_of c store i xs).answer.number ≡ n = λ n v. answered c store i xs (goes c store i xs v) in
    exactly_when (When c store i xs) (is k w) w (is n)

pub untouched : Untouched
untouched c store i xs = let (n, w) = way c store i xs in untouched_by c store i xs w

-- ---- the range

-- n bytes more of instance i leave the arrays as long as they are
longer_shaped : (c : Connection) (i n : ℕ) → Shaped c → Shaped (with_sending c (longer_of c.sending i n))
longer_shaped c i n s =
    record {
      receive = s.receive;
      send = s.send;
      receive_starts = s.receive_starts;
      held = s.held;
      header = s.header;
      send_starts = s.send_starts;
      waiting = rw length-set s.waiting;
      states = s.states;
    }

-- and, if there is room for them, every area in range
module _ (c : Connection) (s : Shaped c) (r : RangeLaws.Ranged c) (i n : ℕ) (inside : i < instances c.settings.party.bundle)
    (fits : get_or c.sending.waiting i 0 + n ≤ get_or c.settings.send i 0) where
  abbrev more : Sending
  more = longer_of c.sending i n

  longer_in : (j : ℕ) → j < instances c.settings.party.bundle
      → (get_or more.starts j 0 < get_or c.settings.send j 0) × (get_or more.waiting j 0 ≤ get_or c.settings.send j 0)
  longer_in j h =
      by_test (eqb j i)
      (λ q.
      rw (eqb-true j i q, get_or-set_same c.sending.waiting i (get_or c.sending.waiting i 0 + n) 0 (omega (arith, s.waiting, at_most c.settings.party.bundle)))
      ((r.sending i inside).0, fits))
      (λ q. rw (get_or-set_other c.sending.waiting i j (get_or c.sending.waiting i 0 + n) 0 (eqb-false j i q)) (r.sending j h))

  longer_ranged : RangeLaws.Ranged (with_sending c more)
  longer_ranged =
      record {
        set = r.set;
        receiving = r.receiving;
        sending = longer_in;
        states = r.states;
        turn = r.turn;
        header = r.header;
        under_way = r.under_way;
        accepted = r.accepted;
        closing = r.closing;
      }

-- the store is as long as it was
stored_long : (c : Connection) (store : List ℕ) (i : ℕ) (xs : List ℕ) → length (stored c store i xs) ≡ length store
stored_long c store i xs =
    let caps = c.settings.send in
    laid_length store (base_of caps i) (get_or caps i 0) (get_or c.sending.starts i 0 + get_or c.sending.waiting i 0) xs

-- the message is queued and the state moves: the record is in range after the first, and so after the second
module _ (c : Connection) (store : List ℕ) (i : ℕ) (xs : List ℕ) (s : Shaped c) (r : sends c (length store) ≡ true) where
  keeps_by : {n : ℕ} → Way c store i xs n → Kept c store (put_of c store i xs)
  keeps_by (unfit u e) = absurd (true≢false (sym r ∙ u))
  keeps_by (stays n ne k e) = subst (Kept c store) e (record { ranged = r; shaped = s; long = refl; set = refl })
  keeps_by (gone m next v f e) =
      let inside : i < instances c.settings.party.bundle = v.asked.1 in
      let p = sends_both c (length store) r in
      let fuller : Connection = with_sending c (longer_of c.sending i (length xs)) in
      let k = longer_ranged c s (ranged c p.0) i (length xs) inside f in
      let k' = moved_ranged fuller i m.kind (flag_of (spoken (view_of c i xs)) m) next inside s.states k v.moves.row in
      subst (Kept c store) e
      (record {
        ranged = equal_and (is_in_range (queued c i (length xs) (leading (length xs) m next)) k') (stored_long c store i xs ∙ p.1);
        shaped = moved_shaped fuller i m.kind next (longer_shaped c i (length xs) s);
        long = stored_long c store i xs;
        set = refl;
      })

pub keeps : Keeps
keeps c store i xs s r = let (n, w) = way c store i xs in keeps_by c store i xs s r w
