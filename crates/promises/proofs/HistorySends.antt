-- What was put and sent (T11 b and d): each effect keeps that what was put of an instance is what was sent and what waits.
-- Assumes nothing.
use mathlib.Core.Path.{◌≡◌, refl, sym, ap, ◌∙◌, subst}
use mathlib.Core.Bool.{cond}
use mathlib.Core.List.{List, [], ◌∷◌, ◌++◌, append-nil, append_assoc, flat_map}
use Prim.Native.Nat.{ℕ, ◌%◌, ◌≤◌, ◌<◌}
use native.Mathlib.Omega.{arith}
use native.Mathlib.Nat.{zero-mod}
use borrow.Author.Tests.{eqb-true, eqb-false}
use lib.Dec.{eqb}
use lib.ListN.{length, get_or, get_or-replicate}
use Rattle.base.proofs.Conds.{by_test}
use Rattle.ring.specs.Ring.{base_of, stream}
use Rattle.ring.proofs.Stores.{stream_length}
use Rattle.ring.proofs.Streams.{stream_count, stream_place, queue_freed, starts_freed, queue_laid}
use Rattle.wire.specs.declared.segment.Segment.{Segment}
use Rattle.wire.specs.Instances.{instances, most, protocol_of, mode_of}
use Rattle.wire.proofs.InstanceLaws.{at_most}
use Rattle.connection.specs.declared.Settings.{Settings}
use Rattle.connection.specs.declared.Connection.{Connection}
use Rattle.range.proofs.RangeLaws.{ranged}
use Rattle.sending.specs.NextSegment as sending
use Rattle.promises.specs.Calls.{World, step, Real, Opened, first}
use Rattle.promises.specs.Reached.{Reached, waits}
use Rattle.promises.specs.Effects.{gave, got, Effect, came, acted, faulted, nothing, sent, Past, acts_by, acts, segment_of, segments}
use Rattle.promises.specs.Fairness.{queue, header, is_of, sent_by}
use Rattle.promises.specs.History.{put_by, put_for, sent_for, Sends, Segmented, Makes}
use Rattle.promises.proofs.FairSent.{of_same, of_other}
use Rattle.promises.proofs.SegmentMade.{Made}
use Rattle.promises.proofs.Effects.{Good, good, send_some, Leaves, still, shut, feeds, faults, drops, queues, serves, done}
use Rattle.promises.proofs.Reached.{opens_fresh}
use Rattle.promises.proofs.HistoryLaws.{act_adds, act_unseen, put_next, sent_next}

-- ---- whose segment it is

-- the payload of a segment of instance j, for i
payload_is : (w : World) (time j : ℕ) (bs : List ℕ) → Made w time j bs → (i : ℕ) → i < instances w.connection.settings.party.bundle
    → sent_by w.connection.settings.party i (bs ∷ []) ≡ cond (eqb j i) (sending.payload_of w.connection w.send j) []
unfolding sent_by flat_map
payload_is w time j bs m i l =
    let us = w.connection.settings.party in
    let mode : (header bs).mode ≡ mode_of us j = ap (λ (h : Segment). h.mode) m.reads in
    let number : (header bs).protocol ≡ protocol_of us.bundle j = ap (λ (h : Segment). h.protocol) m.reads in
    let of : is_of us i bs ≡ eqb j i =
    by_test (eqb j i)
    (λ q. let e : j ≡ i = eqb-true j i q in of_same us i bs (mode ∙ ap (mode_of us) e) (number ∙ ap (protocol_of us.bundle) e) ∙ sym q)
    (λ q. of_other us i j bs l m.within (λ e. eqb-false j i q (sym e)) mode number ∙ sym q) in
    rw (of, m.carries, append-nil)

-- ---- what a call puts and sends

-- what was put is what was sent and what waits, and where the first waiting byte is
pub record Waits (s : Settings) (past : Past) (w : World) : Type 0 where
  pub put : (i : ℕ) → i < instances s.party.bundle → put_for i past ≡ sent_for s.party i past ++ queue w i
  pub starts : (i : ℕ) → i < instances s.party.bundle → get_or w.connection.sending.starts i 0 ≡ length (sent_for s.party i past) % get_or s.send i 0

module _ (w : World) (g : Good w) (past : Past) (t : Waits w.connection.settings past w) where
  abbrev c : Connection
  c = w.connection

  abbrev s : Settings
  s = w.connection.settings

  -- an effect that changes nothing of sending, and puts and sends nothing
  waits_same : (e : Effect) {w' : World} → segment_of e ≡ [] → ((i : ℕ) → flat_map put_by (acts_by i e) ≡ []) → w'.connection.sending ≡ c.sending
      → w'.connection.settings ≡ c.settings → w'.send ≡ w.send → Waits s (past ++ (e ∷ [])) w'
  unfolding sent_by flat_map
  waits_same e none unput f k h =
      let puts-same : (i : ℕ) → put_for i (past ++ (e ∷ [])) ≡ put_for i past = λ i. put_next past e i ∙ rw (unput i, append-nil) in
      let sent-same : (i : ℕ) → sent_for s.party i (past ++ (e ∷ [])) ≡ sent_for s.party i past =
      λ i. sent_next past e i s.party ∙ rw (none, append-nil) in
      record { put = λ i l. rw (puts-same i, sent-same i, f, k, h) (t.put i l); starts = λ i l. rw (sent-same i, f) (t.starts i l) }

  pub waits_by : {real : Type 0} {e : Effect} {w' : World} → real → Leaves w real e w' → Waits s (past ++ (e ∷ [])) w'
  unfolding sent_by flat_map
  waits_by real still = waits_same nothing refl (λ i. refl) refl refl refl
  waits_by real (shut o) = waits_same (came 20 []) refl (λ i. refl) refl refl refl
  waits_by {e = e} real (feeds xs o spelt) = waits_same e refl (λ i. refl) refl refl refl
  waits_by real (faults n j) = waits_same (faulted n j) refl (λ i. refl) refl refl refl
  waits_by real (drops j n to m q fits reads) = waits_same (acted j (got n m)) refl (λ i. act_unseen put_by (eqb j i) (got n m) refl) refl refl refl
  waits_by {e = e} real (queues j to m xs q o free short room) =
      let now : (i : ℕ) → put_for i (past ++ (e ∷ [])) ≡ put_for i past ++ cond (eqb j i) xs [] =
      λ i. put_next past e i ∙ rw (act_adds put_by (eqb j i) (gave xs)) in
      let sent-same : (i : ℕ) → sent_for s.party i (past ++ (e ∷ [])) ≡ sent_for s.party i past =
      λ i. sent_next past e i s.party ∙ append-nil (sent_for s.party i past) in
      record {
        put = λ i l.
            rw (now i, sent-same i, t.put i l, append_assoc)
            (ap (λ (r : List ℕ). sent_for s.party i past ++ r)
            (sym
            (queue_laid w.send s.send c.sending.starts c.sending.waiting j (instances s.party.bundle) xs g.send (send_some g) q.within
            (omega (arith, q.within, g.shaped.waiting, at_most s.party.bundle)) room i l)));
        starts = λ i l. rw (sent-same i) (t.starts i l);
      }
  waits_by {e = e} real (serves j time bs o who q) =
      let n : ℕ = sending.much c j in
      let xs : List ℕ = sending.payload_of c w.send j in
      let m : Made w time j bs = q real in
      let sent_now : (i : ℕ) → i < instances s.party.bundle → sent_for s.party i (past ++ (e ∷ [])) ≡ sent_for s.party i past ++ cond (eqb j i) xs [] =
      λ i k. sent_next past e i s.party ∙ ap (λ (r : List ℕ). sent_for s.party i past ++ r) (payload_is w time j bs m i k) in
      let puts-same : (i : ℕ) → put_for i (past ++ (e ∷ [])) ≡ put_for i past = λ i. put_next past e i ∙ append-nil (put_for i past) in
      let waiting = c.sending.waiting in
      let start = c.sending.starts in
      let in-starts : j < length start = omega (arith, m.within, g.shaped.send_starts, at_most s.party.bundle) in
      record {
        put = λ i k.
            rw (puts-same i, sent_now i k, t.put i k, append_assoc)
            (ap (λ (r : List ℕ). sent_for s.party i past ++ r)
            (queue_freed w.send s.send start waiting j n in-starts (omega (arith, m.within, g.shaped.waiting, at_most s.party.bundle)) (omega arith) i));
        starts = λ i k.
            rw (sent_now i k)
            (starts_freed w.send s.send start waiting j n in-starts (sent_for s.party i past) xs (stream_length _ _ _ _ n) i (t.starts i k));
      }

pub waits_first : {s : Settings} {receive send : List ℕ} → Opened s receive send → Waits s [] (first s receive send)
unfolding put_for acts segments sent_by flat_map stream
waits_first {s} {receive} {send} o =
    rw (opens_fresh o)
    (record {
      put = λ i l. rw (get_or-replicate {A = ℕ} most i 0 0 (omega (arith, at_most s.party.bundle)));
      starts = λ i l. rw (get_or-replicate {A = ℕ} most i 0 0 (omega (arith, at_most s.party.bundle))) (sym (zero-mod _));
    })

-- ---- T11 (b) and (d)

pub sends_of : (past : Past) (w : World) → Waits w.connection.settings past w → Sends w.connection.settings past w
sends_of past w t =
    let caps = w.connection.settings.send in
    let q = w.connection.sending in
    let sent : ℕ → List ℕ = λ i. sent_for w.connection.settings.party i past in
    record {
      put = t.put;
      waiting = λ i l.
          stream_count w.send (base_of caps i) (get_or caps i 0) (get_or q.starts i 0) (get_or q.waiting i 0) (put_for i past) (sent i) (t.put i l);
      starts = t.starts;
      places = λ i n l.
          stream_place w.send (base_of caps i) (get_or caps i 0) (get_or q.starts i 0) (get_or q.waiting i 0) (put_for i past) (sent i)
          (t.put i l) (t.starts i l) n;
    }

-- a segment that is made
pub segmented_by : (w : World) → Good w → {real : Type 0} {time : ℕ} {bs : List ℕ} {w' : World} → real → Leaves w real (sent time bs) w'
    → Segmented w.connection.settings w time bs
segmented_by w g real (serves j time bs o who q) =
    let m : Made w time j bs = q real in
    let limit = (ranged w.connection g.ranged).set.limit in
    record {
      instance = j;
      within = m.within;
      reads = m.reads;
      some = omega (arith, m.some);
      carries = m.first;
      whole = λ z. m.carries ∙ ap (sending.payload_of w.connection w.send) z ∙ rw (all g.single);
    }
  where
    -- what waits of Handshake is no more than S
    all : waits w 0 ≤ w.connection.settings.limit → sending.much w.connection 0 ≡ waits w 0
    all h = omega arith

pub makes : (s : Settings) (w : World) → Reached s w → Makes s w
makes s w k c real time bs e =
    subst (λ (u : Settings). Segmented u w time bs) k.settings
    (segmented_by w (good k) real (subst (λ (x : Effect). Leaves w (Real c) x (step w c).world) e (done w (good k) c).leaves))
