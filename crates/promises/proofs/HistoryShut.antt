-- After a fault (T15): a closed connection answers 20 and stays closed by the same closing.
-- Assumes nothing.
use mathlib.Core.Path.{◌≡◌, refl, sym, ap, ◌∙◌}
use mathlib.Core.Bool.{true, false, true≢false, cond}
use mathlib.Core.List.{List, [], ◌∷◌, ◌++◌, flat_map}
use mathlib.Core.Option.{Option, some}
use Prim.Native.Nat.{ℕ}
use lib.Dec.{eqb, ltb}
use Rattle.base.proofs.Conds.{by_test}
use Rattle.wire.specs.Instances.{instances}
use Rattle.connection.specs.declared.Closing.TheVariants.{Of}
use Rattle.connection.specs.declared.Gate.{Gate}
use Rattle.connection.specs.Closings.{closing_of, is_open}
use Rattle.connection.specs.Parts.{with_gate}
use Rattle.connection.proofs.ClosingLaws.{closed_stays, closed_so}
use Rattle.feeding.specs.Feeding as feeding
use Rattle.judging.specs.Judging.{said}
use Rattle.putting.specs.Putting as putting
use Rattle.sending.specs.NextSegment as sending
use Rattle.promises.specs.Calls.{feed, put, next, made, World, step, run, first}
use Rattle.promises.specs.Effects.{Act, got, Effect, acted, Past, did, used_by, bytes_in, acts_by, acts, segment_of, segments}
use Rattle.promises.specs.History.{put_by, put_for, Shut, Nothing, AfterFault}
use Rattle.promises.proofs.Effects.{Good, good, reached_receives, reached_sends, Leaves, still, shut, feeds, faults, drops, queues, serves, done}
use Rattle.promises.proofs.HistoryLaws.{act_unseen, bytes_next, put_next, segments_next}
use Rattle.promises.proofs.Reached.{Sound, sound_first, sound_run}
use Rattle.promises.proofs.HistoryRuns.{on}

module _ (w : World) (g : Good w) (closed : is_open w.connection.gate ≡ false) where
  shut_feeds : (xs : List ℕ) → step w (feed xs) ≡ record { world = w; answer = (20, 0) }
  unfolding step feeding.feed_of
  shut_feeds xs = rw (reached_receives g, closed)

  shut_puts : (i : ℕ) (xs : List ℕ) → step w (put i xs) ≡ record { world = w; answer = (cond (ltb i (instances w.connection.settings.party.bundle)) 20 10, tt) }
  unfolding step putting.put_of said
  shut_puts i xs = rw (reached_sends g) (by_test (ltb i (instances w.connection.settings.party.bundle)) (λ t. rw (t, closed)) (λ t. rw t))

  shut_makes : (time : ℕ) (buf : List ℕ) → step w (next time buf) ≡ record { world = w; answer = (20, made 0 buf) }
  unfolding step sending.next_of
  shut_makes time buf = rw (reached_sends g, closed)

  -- what an effect on it does, and the world that it leaves
  record Idle (e : Effect) (w' : World) : Type 0 where
    comes : used_by e ≡ []
    put : (i : ℕ) → flat_map put_by (acts_by i e) ≡ []
    sent : segment_of e ≡ []
    leaves : (w'.receive ≡ w.receive) × (w'.send ≡ w.send) × (w'.connection.sending ≡ w.connection.sending)
        × (closing_of w'.connection.gate ≡ closing_of w.connection.gate)
    refuses : ((i : ℕ) (a : Act) → e ≡ acted i a → ⊥) → w' ≡ w

  at_rest : {e : Effect} {w' : World} → used_by e ≡ [] → ((i : ℕ) → acts_by i e ≡ []) → segment_of e ≡ [] → w' ≡ w → Idle e w'
  unfolding flat_map
  at_rest c p s q =
      record {
        comes = c;
        put = λ i. rw (p i);
        sent = s;
        leaves = (ap (λ (v : World). v.receive) q, ap (λ (v : World). v.send) q, ap (λ (v : World). v.connection.sending) q, ap (λ (v : World). closing_of v.connection.gate) q);
        refuses = λ ne. q;
      }

  never : {P : Type 0} → is_open w.connection.gate ≡ true → P
  never o = absurd (true≢false (sym o ∙ closed))

  idle : {real : Type 0} {e : Effect} {w' : World} → Leaves w real e w' → Idle e w'
  idle still = at_rest refl (λ i. refl) refl refl
  idle (shut o) = at_rest refl (λ i. refl) refl refl
  idle (feeds xs o spelt) = never o
  idle (faults n i) =
      at_rest refl (λ i. refl) refl
      (ap (λ (q : Gate). record { connection = with_gate w.connection q; receive = w.receive; send = w.send }) (closed_stays w.connection.gate (Of n i) closed))
  idle (drops i n to m q fits reads) =
      record {
        comes = refl;
        put = λ j. act_unseen put_by (eqb i j) (got n m) refl;
        sent = refl;
        leaves = (refl, refl, refl, refl);
        refuses = λ ne. absurd (ne i (got n m) refl);
      }
  idle (queues i to m xs q o free short room) = never o
  idle (serves i time bs o who q) = never o

  shut_all : Shut w
  shut_all =
      record {
        feeds = shut_feeds;
        puts = shut_puts;
        makes = shut_makes;
        leaves = λ c. (idle (done w g c).leaves).leaves;
        refuses = λ c. (idle (done w g c).leaves).refuses;
      }

-- ---- calls on a closed connection

-- the closing is this, and nothing came in, was put or was sent since
record Since (closing : ℕ × Option ℕ) (past : Past) (w : World) : Type 0 where
  same : closing_of w.connection.gate ≡ some closing
  nothing : Nothing past

since_next : (x : ℕ × Option ℕ) (past : Past) (w : World) → Good w → (real : Type 0) (e : Effect) (w' : World) → real → Leaves w real e w'
    → Since x past w → Since x (past ++ (e ∷ [])) w'
since_next x past w g real e w' r l t =
    let n = idle w g (closed_so w.connection.gate x t.same) l in
    record {
      same = n.leaves.3 ∙ t.same;
      nothing =
          record {
            comes = rw (bytes_next past e, t.nothing.comes) n.comes;
            put = λ i. rw (put_next past e i, t.nothing.put i) (n.put i);
            sent = rw (segments_next past e, t.nothing.sent) n.sent;
          };
    }

nothing_yet : Nothing []
unfolding bytes_in put_for acts segments flat_map
nothing_yet = record { comes = refl; put = λ i. refl; sent = refl }

-- T15
pub after_fault : AfterFault
after_fault s receive send opened cs ds r q x e =
    let w : World = run (first s receive send) cs in
    let k : Sound s w = sound_run s (first s receive send) cs r (sound_first s receive send opened) in
    let t : Since x (did w ds) (run w ds) = on (λ s. Since x) (since_next x) s ds [] w q k (record { same = e; nothing = nothing_yet }) in
    (shut_all w (good k.reached) (closed_so w.connection.gate x e), t.nothing, t.same)
