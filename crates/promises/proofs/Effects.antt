-- The effect of each call on a record in range with its stores, and what it leaves of them. Each call's ways are worked out in its own crate; what
-- goes over several calls is then proved once for each effect.
-- Assumes nothing.
use mathlib.Core.Path.{◌≡◌, refl, sym, ap, subst, ◌∙◌}
use mathlib.Core.Bool.{Bool, true, false, true≢false, cond, not}
use mathlib.Core.List.{List, []}
use mathlib.Core.Logic.{◌≢◌}
use Prim.Native.Nat.{ℕ, ◌+◌, ◌≤◌, ◌<◌}
use native.Mathlib.Omega.{arith}
use lib.ListN as lists
use lib.ListN.{length, get_or}
use borrow.Author.Tests.{eq-eqb, ne_eqb, eqb-true, not-false}
use Rattle.base.specs.Numbers.{Bytes}
use Rattle.base.proofs.Conds.{by_test, both_true}
use Rattle.wire.specs.declared.instances.Party.{Party}
use Rattle.wire.specs.Instances.{instances, role_of, initiates}
use Rattle.rows.specs.declared.Agency.{Agency}
use Rattle.rows.specs.declared.Agency.TheVariants.{Initiator, Responder, Nobody}
use Rattle.rows.specs.declared.Protocol.{Protocol}
use Rattle.std.specs.Prelude.{Some}
use Rattle.rows.specs.Rows.{next_of, agency_of}
use Rattle.rows.specs.Spoken.{speaks}
use Rattle.rows.proofs.RowLaws.{rows_say}
use Rattle.messages.specs.declared.Message.{Message}
use Rattle.messages.specs.Reading.{message_of, read, flag_of}
use Rattle.messages.proofs.Theorem.{reads_forms}
use Rattle.connection.specs.declared.Settings.{Settings}
use Rattle.connection.specs.declared.Connection.{Connection}
use Rattle.connection.specs.declared.Closing.TheVariants.{Of}
use Rattle.connection.specs.Shapes.{Shaped}
use Rattle.connection.specs.Closings.{is_open, closed_by, heard_fault}
use Rattle.connection.specs.Parts.{with_receiving, with_sending, with_gate, first_held, held_of}
use Rattle.range.specs.Ranges.{in_range, receive_length, send_length, receive_store_ok, receives, sends}
use Rattle.range.proofs.RangeLaws.{ranged}
use Rattle.telling.specs.Besides.Numbers as telling
use Rattle.telling.proofs.NumberLaws as telling_laws
use Rattle.judging.specs.declared.Outcome.{Outcome}
use Rattle.judging.specs.Judging.{view_of, Judgement, outcome_number, holds, ours, barred, leading}
use Rattle.judging.proofs.HearingLaws.{unheard_number}
use Rattle.judging.proofs.Moving.{leads_low}
use Rattle.feeding.specs.Feeding as feeding
use Rattle.feeding.specs.Feeding.{Reception, Spelt}
use Rattle.feeding.specs.Besides.Numbers.{When, out_of_range}
use Rattle.feeding.proofs.NumberLaws as feeding_laws
use Rattle.hearing.specs.Hearing as heard
use Rattle.hearing.specs.Besides.Numbers as hearing
use Rattle.hearing.specs.Besides.Numbers.{Unshown, Found, Tells, refusal, message}
use Rattle.hearing.proofs.HearingLaws.{held_within, held_take}
use Rattle.hearing.proofs.NumberLaws.{tells, unshown_number, not_fault}
use Rattle.looking.specs.declared.Place.{Place}
use Rattle.looking.specs.declared.Place.TheVariants.{Store, Scratch, Nowhere}
use Rattle.looking.specs.Looking as looking
use Rattle.looking.proofs.NumberLaws as looking_laws
use Rattle.dropping.specs.Dropping as dropping
use Rattle.dropping.proofs.NumberLaws as dropping_laws
use Rattle.putting.specs.Putting as putting
use Rattle.putting.proofs.NumberLaws as putting_laws
use Rattle.sending.specs.NextSegment as sending
use Rattle.sending.proofs.NumberLaws as sending_laws
use Rattle.promises.specs.Calls.{Call, feed, look, drop, put, next, status, said_by, looked, World, world, Out, step, Real}
use Rattle.promises.specs.Effects.{Act, gave, got, read_in, Effect, came, acted, sent, faulted, nothing, effect_of}
use Rattle.promises.specs.Reached.{Reached}
use Rattle.promises.specs.History.{theirs, allowed}
use Rattle.promises.proofs.ReachedFeed.{Tidy, tidy_fed, ends, uses}
use Rattle.promises.proofs.ReachedHandshake.{Row}
use Rattle.promises.proofs.SegmentMade.{Made, made_of}

-- ---- reached worlds

-- reached, with the settings that the record has
abbrev pub Good : World → Type 0
Good w = Reached w.connection.settings w

pub good : {s : Settings} {w : World} → Reached s w → Good w
good {w = w} r = subst (λ (u : Settings). Reached u w) (sym r.settings) r

pub reached_receives : {s : Settings} {w : World} → Reached s w → receives w.connection (length w.receive) ≡ true
reached_receives {w = w} r =
    rw (r.ranged, eq-eqb (length w.receive) (receive_length w.connection.settings) (r.receive ∙ ap receive_length (sym r.settings)))

pub reached_sends : {s : Settings} {w : World} → Reached s w → sends w.connection (length w.send) ≡ true
reached_sends {w = w} r =
    rw (r.ranged, eq-eqb (length w.send) (send_length w.connection.settings) (r.send ∙ ap send_length (sym r.settings)))

-- every capacity is some
pub receive_some : {w : World} → Good w → (i : ℕ) → i < instances w.connection.settings.party.bundle → 0 < get_or w.connection.settings.receive i 0
receive_some {w} g i l = let q = (ranged w.connection g.ranged).set.receive i l in omega arith

pub send_some : {w : World} → Good w → (i : ℕ) → i < instances w.connection.settings.party.bundle → 0 < get_or w.connection.settings.send i 0
send_some {w} g i l = let q = (ranged w.connection g.ranged).set.send i l in omega arith

-- ---- what an effect leaves

-- an act of instance i, whose message says m, leads from its state to another by a row
pub record Steps (w : World) (i : ℕ) (a : Act) (m : Message) (to : ℕ) : Type 0 where
  pub within : i < instances w.connection.settings.party.bundle
  pub reads : read_in (speaks w.connection.settings.party.bundle i) a ≡ read m
  pub agency : allowed w.connection.settings.party i (get_or w.connection.talk.states i 0) a ≡ true
  pub row : next_of (speaks w.connection.settings.party.bundle i) (get_or w.connection.talk.states i 0) m.kind
      (flag_of (speaks w.connection.settings.party.bundle i) m) ≡ Some to

pub row_of : {w : World} {i to : ℕ} {a : Act} {m : Message} → Steps w i a m to
    → Row (speaks w.connection.settings.party.bundle i) (get_or w.connection.talk.states i 0) to
row_of {w} {i} {m = m} q = (m.kind, flag_of (speaks w.connection.settings.party.bundle i) m, q.row)

module _ (w : World) where
  abbrev c : Connection
  c = w.connection

  -- the record and the receive store after bytes
  abbrev fed_world : Reception → World
  fed_world s = world (with_receiving c s.receiving s.gate) s.store w.send

  -- What each effect leaves. That the call can be made, `real`, is supposed only of the bytes of a header and of the time of a segment.
  pub data Leaves (real : Type 0) : Effect → World → Type 0 where
    -- nothing was done, or a closed connection fed
    still : Leaves real nothing w
    shut : is_open c.gate ≡ false → Leaves real (came 20 []) w
    -- bytes were fed to an open one
    feeds : (xs : List ℕ) → is_open c.gate ≡ true → (real → Spelt (ends c w.receive xs).receiving.header)
        → Leaves real (came (feeding.left (ends c w.receive xs).gate) (lists.take (uses c w.receive xs) xs)) (fed_world (ends c w.receive xs))
    -- an instance's bytes were at fault, which closes where no closing was
    faults : (n i : ℕ) → Leaves real (faulted n i) (world (with_gate c (closed_by c.gate (Of n i))) w.receive w.send)
    -- a message was dropped, which the first bytes held are
    drops : (i n to : ℕ) (m : Message) → Steps w i (got n m) m to → n ≤ get_or c.receiving.held i 0
        → message_of (speaks c.settings.party.bundle i) (first_held c w.receive i n) ≡ read m
        → Leaves real (acted i (got n m)) (world (dropping.handed c i (leading n m to)) w.receive w.send)
    -- a message was queued: of Handshake in one segment, of others after Accept, and there was room
    queues : (i to : ℕ) (m : Message) (xs : List ℕ) → Steps w i (gave xs) m to → is_open c.gate ≡ true → barred (view_of c i xs) ≡ false
        → (i ≡ 0 → length xs ≤ c.settings.limit) → get_or c.sending.waiting i 0 + length xs ≤ get_or c.settings.send i 0
        → Leaves real (acted i (gave xs)) (world (putting.queued c i (length xs) (leading (length xs) m to)) w.receive (putting.stored c w.send i xs))
    -- a segment was made of whoever was chosen
    serves : (i time : ℕ) (bs : List ℕ) → is_open c.gate ≡ true → sending.chosen_of c ≡ Some i → (real → Made w time i bs)
        → Leaves real (sent time bs)
        (world (with_sending c (sending.sent_of c.settings.party.bundle c.sending c.settings.send i (sending.much c i))) w.receive w.send)

-- the record is in range as before, and each store as long
pub record Fits (w w' : World) : Type 0 where
  pub ranged : in_range w'.connection ≡ true
  pub shaped : Shaped w'.connection
  pub receive : length w'.receive ≡ length w.receive
  pub send : length w'.send ≡ length w.send

-- so is it after a call, which answers no 23 and leaves what its effect leaves
pub record Done (w : World) (a : Call) (o : Out a) : Type 0 where
  pub known : o.answer.0 ≢ 23
  pub fits : Real a → Fits w o.world
  pub leaves : Leaves w (Real a) (effect_of a o.answer) o.world

-- ---- whose turn it is

-- where the one has no agency, and somebody has, the other has
other_holds : (b : Bool) (a : Agency) → holds b a ≡ false → a ≢ Nobody → holds (not b) a ≡ true
other_holds true Initiator e n = absurd (true≢false e)
other_holds false Initiator e n = refl
other_holds true Responder e n = refl
other_holds false Responder e n = absurd (true≢false e)
other_holds b Nobody e n = absurd (n refl)

their_turn : (us : Party) (i s k f n : ℕ) → ours us i s ≡ false → next_of (speaks us.bundle i) s k f ≡ Some n → theirs us i s ≡ true
unfolding ours
their_turn us i s k f n e q =
    other_holds (initiates us.side (role_of us.bundle i)) (agency_of (speaks us.bundle i) s) e
    (rows_say.going (speaks us.bundle i) s (leads_low (speaks us.bundle i) s k f n q).0)

-- ---- a message that was found

-- it is the first bytes held
module _ (c : Connection) (store : List ℕ) (i : ℕ) {n next : ℕ} {m : Message} (f : Found c store i n m next) where
  abbrev protocol : Protocol
  protocol = speaks c.settings.party.bundle i

  found_fits : n ≤ get_or c.receiving.held i 0
  found_fits = held_within c store i n f.spells.whole

  pub found_first : first_held c store i n ≡ lists.take n (held_of c store i)
  found_first = held_take c store i n found_fits

  pub found_reads : message_of protocol (first_held c store i n) ≡ read m
  found_reads = ap (message_of protocol) found_first ∙ (reads_forms protocol (lists.take n (held_of c store i)) m).1 f.spells.says

-- ---- each call

module _ (w : World) (g : Good w) where
  abbrev p : ℕ → Protocol
  p = speaks w.connection.settings.party.bundle

  -- the number and what is left
  abbrev Says : (a : Call) → Out a → Type 0
  Says a o = (o.answer.0 ≢ 23) × Leaves w (Real a) (effect_of a o.answer) o.world

  feed_unknown : (xs : List ℕ) → When w.connection w.receive xs 23 → ⊥
  feed_unknown xs (out_of_range out) = true≢false (sym (reached_receives g) ∙ out)

  -- what bytes fed leave of the arrays and of the header
  pub fed_tidy : (xs : List ℕ) → Tidy w.connection.receiving.starts (ends w.connection w.receive xs)
  fed_tidy xs =
      let s = w.connection.settings in
      tidy_fed s.party s.receive w.connection.receiving.starts (feeding.given w.connection w.receive) xs
      (record { places = refl; many = g.shaped.held; blank = g.blank; idle = g.idle })

  fed_shaped : (xs : List ℕ) → Spelt (ends w.connection w.receive xs).receiving.header
      → Shaped (fed_world w (ends w.connection w.receive xs)).connection
  fed_shaped xs spelt =
      record {
        receive = g.shaped.receive;
        send = g.shaped.send;
        receive_starts = rw (fed_tidy xs).places g.shaped.receive_starts;
        held = (fed_tidy xs).many;
        header = spelt.0;
        send_starts = g.shaped.send_starts;
        waiting = g.shaped.waiting;
        states = g.shaped.states;
      }

  unchanged : Fits w w
  unchanged = record { ranged = g.ranged; shaped = g.shaped; receive = refl; send = refl }

  feed_done : (xs : List ℕ)
      → let v = (step w (feed xs)).world in
      (feeding.feed_of w.connection w.receive xs).answer.number ≢ 23
      → (Bytes xs → (receives v.connection (length v.receive) ≡ true) × Spelt v.connection.receiving.header) → Done w (feed xs) (step w (feed xs))
  unfolding step feeding.feed_of feeding.feed_open
  feed_done xs =
      rw (reached_receives g)
      (by_test (is_open w.connection.gate)
      (λ o.
      rw o
      (λ known keeps.
      record {
        known = known;
        fits = λ real.
            let q = both_true (in_range _) (receive_store_ok w.connection.settings (length (ends w.connection w.receive xs).store)) (keeps real).0 in
            record { ranged = q.0; shaped = fed_shaped xs (keeps real).1; receive = eqb-true _ _ q.1 ∙ sym g.receive; send = refl };
        leaves = feeds xs o (λ real. (keeps real).1);
      }))
      (λ o. rw o (λ known keeps. record { known = known; fits = λ real. unchanged; leaves = shut o })))

  -- what is told without a message: no 23; a fault closes, and any other number does nothing
  no_23 : {i : ℕ} {o : Outcome} → Unshown w.connection w.receive i o → outcome_number o ≢ 23
  no_23 (hearing.out_of_range q) e = true≢false (sym (reached_receives g) ∙ q)
  no_23 (hearing.no_instance q h) e = omega arith
  no_23 (hearing.unheard a u) e = let (low, high) = unheard_number u in omega arith

  undone : (i n : ℕ) {real : Type 0} → Leaves w real (cond (heard_fault n) (faulted n i) nothing) (world (heard.shut w.connection i n) w.receive w.send)
  undone i n = by_test (heard_fault n) (λ f. rw f (faults n i)) (λ f. rw f still)

  -- a message that is shown at a place, or nowhere: nothing is done
  shown_at_lem : (i : ℕ) (scratch : List ℕ) (n : ℕ) (m : Message) (xs : List ℕ) (p : Place)
      → let s = looking.shown_at p (hearing.done n m) in
      Says (look i scratch) (record { world = w; answer = (s.number, looked (said_by s) p (looking.joined p xs scratch)) })
  shown_at_lem i scratch n m xs (Store at) = ((λ q. omega arith), rw not_fault.0 still)
  shown_at_lem i scratch n m xs Scratch = ((λ q. omega arith), rw not_fault.0 still)
  shown_at_lem i scratch n m xs Nowhere = ((λ q. omega arith), rw not_fault.2 still)

  look_says : (i : ℕ) (scratch : List ℕ) {j : Judgement} → Tells w.connection w.receive i j
      → let r = looking.by_judged w.connection w.receive i scratch j in
      Says (look i scratch)
      (record {
        world = world r.answer.connection w.receive w.send;
        answer = (r.answer.shown.number, looked (said_by r.answer.shown) r.answer.place r.scratch);
      })
  look_says i scratch (refusal {o = o} u) = (no_23 u, undone i (outcome_number o))
  look_says i scratch (message {n = n} {m = m} f) =
      shown_at_lem i scratch n m (first_held w.connection w.receive i n) (looking.message_place w.connection i n (length scratch))

  drop_says : (i : ℕ) {j : Judgement} → Tells w.connection w.receive i j
      → let r = dropping.by_judged w.connection i j in
      Says (drop i) (record { world = world r.connection w.receive w.send; answer = (r.shown.number, said_by r.shown) })
  drop_says i (refusal {o = o} u) =
      let low = unshown_number u in
      rw (ne_eqb (outcome_number o) 0 (λ q. omega arith)) (no_23 u, undone i (outcome_number o))
  drop_says i (message {n = n} {next = to} {m = m} f) =
      let s = f.spells in (
        λ q. omega arith,
        drops i n to m (record { within = f.asked.1; reads = refl; agency = their_turn _ i _ _ _ to s.awaited.theirs s.row; row = s.row })
            (found_fits w.connection w.receive i f) (found_reads w.connection w.receive i f),
      )

  put_says : (i : ℕ) (xs : List ℕ) {k : ℕ} → putting_laws.Way w.connection w.send i xs k
      → let r = putting.put_of w.connection w.send i xs in
      Says (put i xs) (record { world = world r.answer.connection w.receive r.store; answer = (r.answer.number, tt) })
  put_says i xs (putting_laws.unfit q e) = absurd (true≢false (sym (reached_sends g) ∙ q))
  put_says i xs (putting_laws.stays n z k e) = rw (← e) (k, rw (ne_eqb n 0 z) still)
  put_says i xs (putting_laws.gone m to v f e) =
      let t = v.moves.turn in
      rw (← e) (
        λ z. omega arith,
        queues i to m xs
            (record { within = v.asked.1; reads = (reads_forms (p i) xs m).1 v.moves.says; agency = t.ours; row = v.moves.row }) (not-false _ t.unclosed)
            t.allowed v.short f,
      )

  next_says : (time : ℕ) (buf : List ℕ) → sending_laws.Way w.connection w.send time buf
      → Says (next time buf) (step w (next time buf))
  unfolding step
  next_says time buf (sending_laws.stays n z k v e) = rw (← e) ((λ q. true≢false (sym (reached_sends g) ∙ k q)), rw (ne_eqb n 0 z) still)
  next_says time buf (sending_laws.gone i u who l e) =
      rw (← e) ((λ z. omega arith), serves i time _ u.1 who (λ real. made_of g time buf i real.0 who l))

  pub done : (a : Call) → Done w a (step w a)
  unfolding step looking.look_of dropping.drop_of
  done (feed xs) =
      feed_done xs (λ e. feed_unknown xs ((feeding_laws.exactly w.connection w.receive xs 23).0 e))
      (λ real. feeding_laws.keeps w.connection w.receive xs g.spelt real (reached_receives g))
  done (look i scratch) =
      let q = looking_laws.keeps w.connection w.receive i scratch g.shaped (reached_receives g) in
      let (known, leaves) = look_says i scratch (tells w.connection w.receive i) in
      record { known = known; fits = λ real. record { ranged = q.0; shaped = q.1; receive = refl; send = refl }; leaves = leaves }
  done (drop i) =
      let q = dropping_laws.keeps w.connection w.receive i g.shaped (reached_receives g) in
      let (known, leaves) = drop_says i (tells w.connection w.receive i) in
      record { known = known; fits = λ real. record { ranged = q.0; shaped = q.1; receive = refl; send = refl }; leaves = leaves }
  done (put i xs) =
      let q = putting_laws.keeps w.connection w.send i xs g.shaped (reached_sends g) in
      let (known, leaves) = put_says i xs (putting_laws.way w.connection w.send i xs).1 in
      record {
        known = known;
        fits = λ real. record { ranged = (both_true _ _ q.ranged).0; shaped = q.shaped; receive = refl; send = q.long };
        leaves = leaves;
      }
  done (next time buf) =
      let q = sending_laws.keeps w.connection w.send time buf g.shaped g.ranged in
      let (known, leaves) = next_says time buf (sending_laws.way w.connection w.send time buf) in
      record { known = known; fits = λ real. record { ranged = q.0; shaped = q.1; receive = refl; send = refl }; leaves = leaves }
  done status =
      record { known = λ e. omega (arith, telling_laws.answered w.connection (telling.done g.ranged)); fits = λ real. unchanged; leaves = still }
