-- T14: what is held of an instance is what of its own bytes was not dropped, and its state is where its own puts and drops lead; so the view that look and
-- drop ask is the one that the history gives, and where the bytes held begin in the area is by how many were dropped.
-- Assumes nothing.
use mathlib.Core.Path.{◌≡◌, refl, sym, ap, subst, ◌∙◌}
use mathlib.Core.Bool.{Bool, true, false, cond, not}
use mathlib.Core.List.{List, ◌++◌, flatten}
use mathlib.Core.Logic.{◌≢◌}
use Prim.Native.Nat.{ℕ, ◌+◌, ◌%◌, ◌≤◌, ◌<◌}
use native.Mathlib.Omega.{arith}
use borrow.Author.Tests.{ne_eqb, eqb-true, ltb-true}
use lib.Dec.{eqb, leb, ltb}
use lib.ListN as lists
use lib.ListN.{length, get_or}
use lib.Seq.{drop_at}
use Rattle.std.specs.Prelude.{Result, Ok, Err}
use Rattle.base.proofs.Conds.{by_test, cond_cases}
use Rattle.ring.specs.Ring.{base_of}
use Rattle.wire.specs.declared.instances.Party.{Party}
use Rattle.wire.specs.Segments.{Carried, Divided}
use Rattle.wire.specs.Instances.{instances}
use Rattle.wire.proofs.SegmentLaws.{divided_once}
use Rattle.item.specs.declared.NotWhole.TheVariants.{Bad, Incomplete}
use Rattle.item.specs.Verdict.{verdict, Verdict}
use Rattle.rows.specs.declared.Protocol.{Protocol}
use Rattle.std.specs.Prelude.{Option}
use Rattle.rows.specs.Spoken.{speaks}
use Rattle.messages.specs.declared.Message.{Message}
use Rattle.messages.specs.declared.Unread.{Unread}
use Rattle.connection.specs.declared.Settings.{Settings}
use Rattle.connection.specs.declared.Connection.{Connection}
use Rattle.connection.specs.declared.Gate.{Gate}
use Rattle.connection.specs.declared.Gate.TheVariants.{Open, Closed}
use Rattle.connection.specs.Closings.{is_open, closing_of}
use Rattle.connection.specs.Parts.{held_of}
use Rattle.judging.specs.declared.Judged.{Judged}
use Rattle.judging.specs.declared.Outcome.TheVariants as outcome
use Rattle.judging.specs.Judging.{View, spoken, ours_now, barred, at_done, Judgement, outcome_number, unjudged, state_next, led, by_row, by_reading, by_verdict, heard}
use Rattle.judging.proofs.JudgingLaws.{Judges, not_read, not_led, message, judges}
use Rattle.hearing.specs.Hearing.{seen, hear_of, shown_by}
use Rattle.hearing.specs.declared.Shown.{Shown}
use Rattle.hearing.specs.Besides.Numbers.{Offset}
use Rattle.hearing.proofs.HearingLaws.{held_take}
use Rattle.hearing.proofs.NumberLaws.{found}
use Rattle.looking.specs.declared.Place.{Place}
use Rattle.looking.specs.declared.Place.TheVariants.{Store, Scratch, Nowhere}
use Rattle.looking.specs.Looking as looking
use Rattle.looking.specs.Looking.{place_of, joined, look_of}
use Rattle.looking.proofs.NumberLaws.{which_byte_looked}
use Rattle.dropping.specs.Dropping.{drop_of}
use Rattle.dropping.proofs.NumberLaws.{which_byte_dropped}
use Rattle.promises.specs.Calls as calls
use Rattle.promises.specs.Calls.{Said, Looked, said_by, looked, World, step, run, first}
use Rattle.promises.specs.Effects.{Act, read_in, Past, did, bytes_in}
use Rattle.promises.specs.Reached.{Reached}
use Rattle.promises.specs.History.{dropped_for, received_in, Moves, Walks, rests, moves, Tells}
use Rattle.promises.specs.Alone.{state_after, any_closing, seen_by, but, twenty_for_one, place_in, looked_in, Alone}
use Rattle.promises.specs.Besides.Alike.{Alike}
use Rattle.promises.specs.Besides.WhichByte.{WhichByteCame}
use Rattle.promises.proofs.Effects.{Good, good, reached_receives}
use Rattle.promises.proofs.Reached.{in_range_for_ever}
use Rattle.promises.proofs.HistoryItems.{spelled_long}
use Rattle.promises.proofs.History.{history}

-- ---- the functions

-- 10; then what is heard
judge : View → Judgement
judge v = cond (ltb v.instance (instances v.party.bundle)) (heard v) (unjudged outcome.NoInstance)

-- what drop answers of it
say : Judgement → ℕ × Said
say j = ((shown_by j).number, said_by (shown_by j))

-- what look answers: of a message with these bytes, at its place; and so of the bytes held, with the place where they begin
see_at : Judged → List ℕ → List ℕ → Place → ℕ × Looked
see_at j xs scratch p = let s = looking.shown_at p (shown_by (Ok j)) in (s.number, looked (said_by s) p (joined p xs scratch))

see : List ℕ → (capacity start : ℕ) → List ℕ → Judgement → ℕ × Looked
see bs capacity start scratch (Ok j) = see_at j (lists.take j.len bs) scratch (place_of 0 capacity start j.len (length scratch))
see bs capacity start scratch (Err o) = (outcome_number o, looked (said_by (shown_by (Err o))) Nowhere scratch)

abbrev drop_answer : View → ℕ × Said
drop_answer v = say (judge v)

abbrev look_answer : View → (capacity dropped : ℕ) → List ℕ → ℕ × Looked
look_answer v capacity dropped scratch = see v.bytes capacity (dropped % capacity) scratch (judge v)

-- ---- closed only turns 1 into 20

-- what is heard of a closed connection, and of an open one
data Turned : Judgement → Judgement → Type 0 where
  turned : Turned (unjudged outcome.Closed) (unjudged outcome.Waiting)
  alike : (j : Judgement) → (shown_by j).number ≢ 1 → Turned j j

judged_alike : {p : Protocol} {state : ℕ} {xs : List ℕ} {j : Judgement} → Judges p state xs j → Turned j j
judged_alike (not_read r e none) = alike (unjudged (outcome.NoMessage r)) (λ z. omega arith)
judged_alike (not_led m s x) = alike (unjudged outcome.NoRow) (λ z. omega arith)
judged_alike {xs = xs} (message m to s x) = alike (led (length xs) m to) (λ z. omega arith)

turned_by_verdict : (v : View) (d : Verdict)
    → Turned (by_verdict (spoken v) v.state true v.bytes d) (by_verdict (spoken v) v.state false v.bytes d)
turned_by_verdict v (Err Incomplete) = turned
turned_by_verdict v (Err (Bad at)) = alike (unjudged (outcome.BytesBad at)) (λ z. omega arith)
turned_by_verdict v (Ok n) = judged_alike (judges (spoken v) v.state (lists.take n v.bytes))

closed_turns : (v : View) → Turned (judge (but v true)) (judge (but v false))
unfolding judge heard
closed_turns v =
    by_test (ltb v.instance (instances v.party.bundle))
    (λ t.
    by_test (barred v) (λ b. rw (t, b) (alike (unjudged outcome.NoAccept) (λ z. omega arith)))
    (λ b.
    by_test (at_done v)
    (λ d.
    by_test (eqb (length v.bytes) 0) (λ z. rw (t, b, d, z) (alike (unjudged outcome.Finished) (λ q. omega arith)))
    (λ z. rw (t, b, d, z) (alike (unjudged outcome.AfterDone) (λ q. omega arith))))
    (λ d. by_test (ours_now v) (λ o. rw (t, b, d, o) (alike (unjudged outcome.OurTurn) (λ z. omega arith))) (λ o. rw (t, b, d, o) (turned_by_verdict v (verdict v.bytes))))))
    (λ t. rw t (alike (unjudged outcome.NoInstance) (λ z. omega arith)))

-- an answer that is not 1 stays
stays : {A : Type 0} (a : ℕ × A) → a.0 ≢ 1 → a ≡ twenty_for_one a
stays (n, a) h = rw (ne_eqb n 1 h)

say_turned : {j k : Judgement} → Turned j k → say j ≡ twenty_for_one (say k)
unfolding say
say_turned turned = refl
say_turned (alike j h) = stays (say j) h

module _ (bs : List ℕ) (capacity start : ℕ) (scratch : List ℕ) where
  see_at_other : (j : Judged) (xs : List ℕ) (p : Place) → (see_at j xs scratch p).0 ≢ 1
  unfolding see_at
  see_at_other j xs (Store at) = λ z. omega arith
  see_at_other j xs Scratch = λ z. omega arith
  see_at_other j xs Nowhere = λ z. omega arith

  see_other : (j : Judgement) → (shown_by j).number ≢ 1 → (see bs capacity start scratch j).0 ≢ 1
  unfolding see
  see_other (Ok j) h = see_at_other j _ _
  see_other (Err o) h = h

  see_turned : {j k : Judgement} → Turned j k → see bs capacity start scratch j ≡ twenty_for_one (see bs capacity start scratch k)
  unfolding see
  see_turned turned = refl
  see_turned (alike j h) = stays (see bs capacity start scratch j) (see_other j h)

-- ---- look and drop, by what is held

-- a place in the store is one in the area, behind those in front of it
place_moved : (base cap start n room : ℕ) → place_of base cap start n room ≡ place_in base (place_of 0 cap start n room)
unfolding place_of
place_moved base cap start n room =
    let at : base + start ≡ base + (0 + start) = omega arith in
    by_test (leb (start + n) cap) (λ t. rw t (ap Store at))
    (λ t. by_test (leb n room) (λ r. rw (t, r)) (λ r. rw (t, r)))

see_moved : (base : ℕ) (j : Judged) (xs scratch : List ℕ) (p : Place) → see_at j xs scratch (place_in base p) ≡ looked_in base (see_at j xs scratch p)
unfolding see_at
see_moved base j xs scratch (Store at) = refl
see_moved base j xs scratch Scratch = refl
see_moved base j xs scratch Nowhere = refl

abbrev answer_of : looking.Told → ℕ × Looked
answer_of t = (t.answer.shown.number, looked (said_by t.answer.shown) t.answer.place t.scratch)

module _ (w : World) (i : ℕ) where
  abbrev c : Connection
  c = w.connection

  abbrev held : List ℕ
  held = held_of c w.receive i

  abbrev base : ℕ
  base = base_of c.settings.receive i

  abbrev cap : ℕ
  cap = get_or c.settings.receive i 0

  abbrev start : ℕ
  start = get_or c.receiving.starts i 0

  heard_is : Good w → hear_of c w.receive i ≡ judge (seen c w.receive i)
  unfolding hear_of judge
  heard_is g = rw (reached_receives g)

  drop_is : Good w → (step w (calls.drop i)).answer ≡ drop_answer (seen c w.receive i)
  unfolding step drop_of say
  drop_is g = ap say (heard_is g)

  seen_so : (scratch : List ℕ) (k : Judgement) → ((j : Judged) → k ≡ Ok j → j.len ≤ get_or c.receiving.held i 0)
      → answer_of (looking.by_judged c w.receive i scratch k) ≡ looked_in base (see held cap start scratch k)
  unfolding see see_at
  seen_so scratch (Ok j) l =
      let n : ℕ = j.len in
      rw (held_take c w.receive i n (l j refl))
      (ap (see_at j (lists.take n held) scratch) (place_moved base cap start n (length scratch))
      ∙ see_moved base j (lists.take n held) scratch (place_of 0 cap start n (length scratch)))
  seen_so scratch (Err o) l = refl

  look_is : Good w → (scratch : List ℕ) → (step w (calls.look i scratch)).answer ≡ looked_in base (see held cap start scratch (judge (seen c w.receive i)))
  unfolding step look_of
  look_is g scratch =
      seen_so scratch (hear_of c w.receive i) (λ j e. (found c w.receive i j e).1)
      ∙ ap (λ (j : Judgement). looked_in base (see held cap start scratch j)) (heard_is g)

-- ---- by the history

led_is : {us : Party} {i state to : ℕ} {a : Act} → Moves us i state a to → state_next (by_reading (speaks us.bundle i) state 0 (read_in (speaks us.bundle i) a)) ≡ to
led_is {us} {i} {state} k =
    ap (λ (x : Result Message Unread). state_next (by_reading (speaks us.bundle i) state 0 x)) k.reads ∙ ap (λ (x : Option ℕ). state_next (by_row 0 k.message x)) k.row

state_is : {us : Party} {i from to : ℕ} {done : List Act} → Walks us i from done to → to ≡ state_after us i from done
unfolding state_after
state_is rests = refl
state_is (moves k more) = rw (led_is k) (state_is more)

-- closed, or there is no closing
closed_is : (g : Gate) → not (is_open g) ≡ any_closing (closing_of g)
closed_is Open = refl
closed_is (Closed x) = refl

same_view : {us us' : Party} (i : ℕ) {state state' : ℕ} {a a' c c' : Bool} {bs bs' : List ℕ} → us ≡ us' → state ≡ state' → a ≡ a' → c ≡ c' → bs ≡ bs'
    → ◌≡◌ {A = View} (record { party = us; instance = i; state = state; accepted = a; closed = c; bytes = bs })
    (record { party = us'; instance = i; state = state'; accepted = a'; closed = c'; bytes = bs' })
same_view i p q r t u = rw (p, q, r, t, u)

same_look : {v v' : View} {caps caps' : List ℕ} {start start' : ℕ} (i : ℕ) (scratch : List ℕ) → v ≡ v' → caps ≡ caps' → start ≡ start'
    → looked_in (base_of caps i) (see v.bytes (get_or caps i 0) start scratch (judge v))
    ≡ looked_in (base_of caps' i) (see v'.bytes (get_or caps' i 0) start' scratch (judge v'))
same_look i scratch p q r = rw (p, q, r)

-- of an instance that there is not, nothing is asked
judge_none : (v : View) → ltb v.instance (instances v.party.bundle) ≡ false → judge v ≡ unjudged outcome.NoInstance
unfolding judge
judge_none v y = rw y

see_none : (base : ℕ) (bs : List ℕ) (cap start : ℕ) (scratch : List ℕ) (v : View) → ltb v.instance (instances v.party.bundle) ≡ false
    → looked_in base (see bs cap start scratch (judge v)) ≡ (10, looked (said_by (shown_by (unjudged outcome.NoInstance))) Nowhere scratch)
unfolding see
see_none base bs cap start scratch v y = rw (judge_none v y)

module _ (s : Settings) (past : Past) (w : World) (k : Reached s w) (t : Tells s past w) (segments : List Carried) (left : List ℕ)
    (d : Divided (bytes_in past) segments left) (i : ℕ) where
  abbrev view : View
  view = seen_by s.party past segments left i

  -- what is held of an instance is what came for it and was not dropped
  held_seen : i < instances s.party.bundle → held_of w.connection w.receive i ≡ view.bytes
  held_seen l =
      let q = divided_once (bytes_in past) left t.receives.left segments t.receives.carried d t.receives.divided in
      let hs : List ℕ = held_of w.connection w.receive i in
      let m = t.receives.messages i l in
      let ms : List ℕ = flatten m.messages in
      let came : received_in s.party i segments left ≡ ms ++ hs = rw (q.0, q.1) m.split in
      sym (drop_at ms hs (dropped_for i past) (sym (spelled_long m.spelled))) ∙ ap (lists.drop (dropped_for i past)) (sym came)

  seen-is : i < instances s.party.bundle → seen w.connection w.receive i ≡ view
  seen-is l =
      same_view i (ap (λ (u : Settings). u.party) k.settings) (state_is (t.talks.states i l)) t.talks.accepted
      (closed_is w.connection.gate ∙ ap any_closing t.closes) (held_seen l)

  none_here : ltb i (instances s.party.bundle) ≡ false → ltb i (instances w.connection.settings.party.bundle) ≡ false
  none_here y = ap (λ (u : Settings). ltb i (instances u.party.bundle)) k.settings ∙ y

  -- a drop and a look in a world that the history tells of
  drop_seen : (step w (calls.drop i)).answer ≡ drop_answer view
  drop_seen =
      drop_is w i (good k)
      ∙ by_test (ltb i (instances s.party.bundle)) (λ y. ap drop_answer (seen-is (ltb-true i (instances s.party.bundle) y)))
      (λ y. ap say (judge_none (seen w.connection w.receive i) (none_here y) ∙ sym (judge_none view y)))

  look_seen : (scratch : List ℕ)
      → (step w (calls.look i scratch)).answer ≡ looked_in (base_of s.receive i) (look_answer view (get_or s.receive i 0) (dropped_for i past) scratch)
  look_seen scratch =
      look_is w i (good k) scratch
      ∙ by_test (ltb i (instances s.party.bundle))
      (λ y.
      let l : i < instances s.party.bundle = ltb-true i (instances s.party.bundle) y in
      same_look i scratch (seen-is l) (ap (λ (u : Settings). u.receive) k.settings) (t.receives.starts i l))
      (λ y.
      see_none _ _ _ _ scratch (seen w.connection w.receive i) (none_here y)
      ∙ sym (see_none (base_of s.receive i) view.bytes _ _ scratch view y))

  -- K3: where 14 may be answered, what is held is what came and was not dropped
  byte_seen : (r : Shown) → (ltb i (instances s.party.bundle) ≡ false → r.number ≡ 10) → Offset (held_of w.connection w.receive i) r → Offset view.bytes r
  byte_seen r ten o =
      by_test (ltb i (instances s.party.bundle))
      (λ y. subst (λ (bs : List ℕ). Offset bs r) (held_seen (ltb-true i (instances s.party.bundle) y)) o)
      (λ y. let e = ten y in record { before = λ z. absurd (omega arith); with_it = λ z. absurd (omega arith); else_none = o.else_none })

  which_byte_seen : (scratch : List ℕ)
      → Offset view.bytes (look_of w.connection w.receive i scratch).answer.shown × Offset view.bytes (drop_of w.connection w.receive i).shown
  unfolding step say
  which_byte_seen scratch =
      let c = w.connection in
      let store = w.receive in
      let v : View = seen c store i in (
        byte_seen (look_of c store i scratch).answer.shown
            (λ y. ap (λ (a : ℕ × Looked). a.0) (look_is w i (good k) scratch ∙ see_none _ _ _ _ scratch v (none_here y))) (which_byte_looked c store i scratch),
        byte_seen (drop_of c store i).shown (λ y. ap (λ (a : ℕ × Said). a.0) (drop_is w i (good k) ∙ ap say (judge_none v (none_here y))))
            (which_byte_dropped c store i),
      )

-- T14
pub alone : Alone
alone =
    record {
      drop_answer = drop_answer;
      look_answer = look_answer;
      drops = λ s receive send opened cs real.
          drop_seen s (did (first s receive send) cs) (run (first s receive send) cs) (in_range_for_ever s receive send opened cs real)
          (history s receive send opened cs real).0;
      looks = λ s receive send opened cs real.
          look_seen s (did (first s receive send) cs) (run (first s receive send) cs) (in_range_for_ever s receive send opened cs real)
          (history s receive send opened cs real).0;
      drop_closes = λ v. say_turned (closed_turns v);
      look_closes = λ v capacity dropped scratch. see_turned v.bytes capacity (dropped % capacity) scratch (closed_turns v);
    }

pub which_byte : WhichByteCame
which_byte s receive send opened cs real =
    which_byte_seen s (did (first s receive send) cs) (run (first s receive send) cs) (in_range_for_ever s receive send opened cs real)
    (history s receive send opened cs real).0

-- the one function, of the same or of what differs in the closing
pub two_alike : Alike
two_alike s s' receive send receive' send' o o' cs cs' r r' segments segments' left left' d d' i scratch =
    let a = alone.drops s receive send o cs r segments left d i in
    let a' = alone.drops s' receive' send' o' cs' r' segments' left' d' i in
    let l = alone.looks s receive send o cs r segments left d i scratch in
    let l' = alone.looks s' receive' send' o' cs' r' segments' left' d' i scratch in
    let v = seen_by s.party (did (first s receive send) cs) segments left i in
    let v' = seen_by s'.party (did (first s' receive' send') cs') segments' left' i in
    let cap = get_or s.receive i 0 in
    let n = dropped_for i (did (first s receive send) cs) in
    let base' = base_of s'.receive i in (
      λ e. a ∙ ap alone.drop_answer e ∙ sym a',
      λ e e'. a' ∙ ap alone.drop_answer e' ∙ alone.drop_closes v ∙ ap twenty_for_one (ap alone.drop_answer (sym (open_so v e)) ∙ sym a),
      λ p q.
          let same : (x : View) → looked_in base' (alone.look_answer x (get_or s'.receive i 0) (dropped_for i (did (first s' receive' send') cs')) scratch) ≡ looked_in base' (alone.look_answer x cap n scratch) =
          λ x. rw (← p, ← q) in (
            alone.look_answer v cap n scratch,
            l,
            λ e. l' ∙ same v' ∙ ap (λ (x : View). looked_in base' (alone.look_answer x cap n scratch)) (sym e),
            λ e e'.
                l' ∙ same v' ∙ ap (λ (x : View). looked_in base' (alone.look_answer x cap n scratch)) e'
                ∙ ap (looked_in base')
                (alone.look_closes v cap n scratch ∙ ap (λ (x : View). twenty_for_one (alone.look_answer x cap n scratch)) (sym (open_so v e))),
          ),
    )
  where
    open_so : (v : View) → v.closed ≡ false → v ≡ but v false
    open_so v e = ap (λ (b : Bool). but v b) e
