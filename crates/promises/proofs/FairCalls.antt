-- What each effect does to the queues: it is no segment, and they grow at their ends; or one of whoever is chosen, from its queue's front.
-- Assumes nothing.
use mathlib.Core.Path.{◌≡◌, refl, sym, ap, ◌∙◌}
use mathlib.Core.Bool.{cond}
use mathlib.Core.List.{List, [], ◌∷◌, ◌++◌, append-nil}
use mathlib.Core.Logic.{◌≢◌}
use Prim.Native.Nat.{ℕ, ◌≤◌, ◌<◌, min}
use native.Mathlib.Omega.{arith}
use lib.Dec.{eqb}
use lib.ListN.{length, drop}
use lib.ListN as list
use lib.Seq.{drop_at}
use borrow.Author.Tests.{eq-eqb, ne_eqb}
use Rattle.ring.proofs.Stores.{stream_length}
use Rattle.ring.proofs.Streams.{queue_freed, queue_laid}
use Rattle.wire.specs.declared.segment.Segment.{Segment}
use Rattle.wire.specs.Instances.{instances, protocol_of, mode_of}
use Rattle.wire.proofs.InstanceLaws.{at_most}
use Rattle.ready.specs.Ready.{turn_after}
use Rattle.std.specs.Prelude.{Some}
use Rattle.connection.specs.declared.Settings.{Settings}
use Rattle.connection.specs.declared.Connection.{Connection}
use Rattle.connection.specs.Parts.{with_sending}
use Rattle.range.specs.Ranges.{send_length}
use Rattle.sending.specs.NextSegment as sending
use Rattle.promises.specs.Calls.{World, world}
use Rattle.promises.specs.Effects.{Effect, segment_of}
use Rattle.promises.specs.Reached.{waits, Reached}
use Rattle.promises.specs.Fairness.{queue, header, payload}
use Rattle.promises.proofs.Effects.{good, send_some, row_of, Leaves, still, shut, feeds, faults, drops, queues, serves}
use Rattle.promises.proofs.Reached.{handshake, Sound, moved, put_bound}
use Rattle.promises.proofs.SegmentMade.{Made}

-- no segment: every queue stays or grows at its end, and no more of Handshake is to come
pub record Quiet (s : Settings) (w w' : World) : Type 0 where
  pub turn : w'.connection.sending.turn ≡ w.connection.sending.turn
  pub grows : (i : ℕ) → i < instances s.party.bundle → (xs : List ℕ) × (queue w' i ≡ queue w i ++ xs)
  pub bound : handshake s w' ≤ handshake s w

-- what is sent of instance j
abbrev pub share : Settings → World → ℕ → ℕ
share s w j = min s.limit (waits w j)

-- a segment: of whoever is chosen, with the front of its queue
pub record Served (s : Settings) (w w' : World) (j : ℕ) (bs : List ℕ) : Type 0 where
  pub who : sending.chosen_of w.connection ≡ Some j
  pub mode : (header bs).mode ≡ mode_of s.party j
  pub protocol : (header bs).protocol ≡ protocol_of s.party.bundle j
  pub whole : (header bs).len ≡ length (payload bs)
  pub front : payload bs ≡ list.take (share s w j) (queue w j)
  pub rest : queue w' j ≡ drop (share s w j) (queue w j)
  pub others : (i : ℕ) → i ≢ j → queue w' i ≡ queue w i
  pub turn : w'.connection.sending.turn ≡ turn_after (instances s.party.bundle) j w.connection.sending.turn
  pub talk : w'.connection.talk ≡ w.connection.talk

pub data Moves (s : Settings) (w : World) : World → List (List ℕ) → Type 0 where
  quiet : {w' : World} → Quiet s w w' → Moves s w w' []
  served : {w' : World} (j : ℕ) (bs : List ℕ) → Served s w w' j bs → Moves s w w' (bs ∷ [])

-- a queue that stays grows by nothing
no_more : (xs : List ℕ) → (ys : List ℕ) × (xs ≡ xs ++ ys)
no_more xs = ([], sym (append-nil xs))

module _ (s : Settings) (w : World) (k : Sound s w) where
  abbrev c : Connection
  c = w.connection

  abbrev r : Reached s w
  r = k.reached

  abbrev caps : List ℕ
  caps = c.settings.send

  unmoved : Quiet s w w
  unmoved = record { turn = refl; grows = λ i l. no_more (queue w i); bound = omega arith }

  -- ---- next segment

  module _ (time j : ℕ) (bs : List ℕ) (who : sending.chosen_of c ≡ Some j) (one : Made w time j bs) where
    abbrev n : ℕ
    n = sending.much c j

    abbrev left : World
    left = world (with_sending c (sending.sent_of c.settings.party.bundle c.sending caps j n)) w.receive w.send

    same_share : n ≡ share s w j
    same_share = ap (λ (x : Settings). min x.limit (waits w j)) r.settings

    -- what goes of each queue
    goes : (i : ℕ) → queue w i ≡ cond (eqb j i) (sending.payload_of c w.send j) [] ++ queue left i
    goes =
        queue_freed w.send caps c.sending.starts c.sending.waiting j n (omega (arith, one.within, r.shaped.send_starts, at_most c.settings.party.bundle))
        (omega (arith, one.within, r.shaped.waiting, at_most c.settings.party.bundle)) (omega arith)

    rest : queue left j ≡ drop n (queue w j)
    rest =
        let mine : queue w j ≡ sending.payload_of c w.send j ++ queue left j = rw (eq-eqb j j refl) at (goes j) in
        sym (ap (drop n) mine ∙ drop_at (sending.payload_of c w.send j) (queue left j) n (stream_length w.send _ _ _ n))

    serving : Served s w left j bs
    serving =
        record {
          who = who;
          mode = ap (λ (h : Segment). h.mode) one.reads ∙ ap (λ (x : Settings). mode_of x.party j) r.settings;
          protocol = ap (λ (h : Segment). h.protocol) one.reads ∙ ap (λ (x : Settings). protocol_of x.party.bundle j) r.settings;
          whole = ap (λ (h : Segment). h.len) one.reads ∙ sym (ap {A = List ℕ} length one.carries ∙ stream_length w.send _ _ _ n);
          front = one.first ∙ ap (λ (m : ℕ). list.take m (queue w j)) same_share;
          rest = rest ∙ ap (λ (m : ℕ). drop m (queue w j)) same_share;
          others = λ i ne. sym (rw (ne_eqb j i (λ e. ne (sym e))) at (goes i));
          turn = ap (λ (x : Settings). turn_after (instances x.party.bundle) j c.sending.turn) r.settings;
          talk = refl;
        }

  -- ---- every effect

  pub moves : {real : Type 0} {e : Effect} {w' : World} → real → Leaves w real e w' → Moves s w w' (segment_of e)
  moves real still = quiet unmoved
  moves real (shut o) = quiet unmoved
  moves {w' = w'} real (feeds xs o spelt) = quiet {w' = w'} (record { turn = refl; grows = λ i l. no_more (queue w i); bound = omega arith })
  moves {w' = w'} real (faults n i) = quiet {w' = w'} (record { turn = refl; grows = λ i l. no_more (queue w i); bound = omega arith })
  moves {w' = w'} real (drops i n to m q fits reads) =
      quiet {w' = w'} (record { turn = refl; grows = λ i l. no_more (queue w i); bound = omega (arith, moved s w k i to (row_of q)) })
  -- a message follows what waits
  moves real (queues i to m xs q o free short room) =
      quiet
      (record {
        turn = refl;
        grows = λ j h. (
          cond (eqb i j) xs [],
          queue_laid w.send caps c.sending.starts c.sending.waiting i (instances c.settings.party.bundle) xs
              (r.send ∙ ap send_length (sym r.settings)) (send_some (good r)) q.within (omega (arith, q.within, r.shaped.waiting, at_most c.settings.party.bundle)) room j
              (rw r.settings h),
        );
        bound = put_bound s w k i to (length xs) q.agency (row_of q) short;
      })
  moves real (serves j time bs o who q) = served j bs (serving time j bs who (q real))
