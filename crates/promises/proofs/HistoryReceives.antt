-- What was received (T11 a and d): each effect keeps that what came for an instance is what was dropped and what is held.
-- Assumes nothing.
use mathlib.Core.Path.{◌≡◌, refl, sym, ap, subst, ◌∙◌}
use mathlib.Core.Bool.{true, true≢false, cond}
use mathlib.Core.List.{List, [], ◌∷◌, ◌++◌, append-nil, append_assoc, flat_map, flatten}
use Prim.Native.Nat.{ℕ, ◌%◌, ◌<◌}
use native.Mathlib.Omega.{arith}
use native.Mathlib.Nat.{zero-mod}
use borrow.Author.Tests.{eqb-true}
use lib.Dec.{eqb}
use lib.ListN.{length, get_or, take, length-set, get_or-replicate}
use Rattle.ring.specs.Ring.{base_of, stream}
use Rattle.ring.proofs.Stores.{stream_length}
use Rattle.ring.proofs.Streams.{stream_count, stream_place, queue_freed, starts_freed}
use Rattle.wire.specs.declared.instances.Party.{Party}
use Rattle.wire.specs.Segments.{decoded, in_header}
use Rattle.wire.specs.Instances.{instances, most}
use Rattle.wire.proofs.InstanceLaws.{at_most}
use Rattle.rows.specs.Spoken.{speaks}
use Rattle.connection.specs.declared.Settings.{Settings}
use Rattle.connection.specs.declared.Receiving.{Receiving}
use Rattle.connection.specs.declared.Closing.{Closing}
use Rattle.connection.specs.declared.Closing.TheVariants.{Of}
use Rattle.connection.specs.declared.Gate.{Gate}
use Rattle.connection.specs.declared.Gate.TheVariants.{Open, Closed}
use Rattle.connection.specs.declared.Connection.{Connection}
use Rattle.connection.specs.Closings.{is_open, closed_by}
use Rattle.feeding.specs.Feeding.{Reception, given, fed, used}
use Rattle.feeding.proofs.Keeping.{kept_given, kept_fed}
use Rattle.connection.specs.Parts.{first_held}
use Rattle.dropping.specs.Dropping as dropping
use Rattle.promises.specs.Calls.{World, Opened, first}
use Rattle.promises.specs.Effects.{gave, Effect, came, acted, sent, faulted, nothing, Past, used_by, bytes_in, acts_by, acts}
use Rattle.promises.specs.History.{dropped_for, received_in, Spells, Spelled, no_act, Receives}
use Rattle.promises.proofs.Effects.{Good, receive_some, Leaves, still, shut, feeds, faults, drops, queues, serves}
use Rattle.promises.proofs.Reached.{opens_fresh}
use Rattle.promises.proofs.HistoryLaws.{flatten_append, flatten_one, bytes_next, acts_next}
use Rattle.promises.proofs.HistoryItems.{message_item, spelled_append, spelled_put, spelled_drop, spelled_long, messages}
use Rattle.promises.proofs.HistoryLayout.{none_for}
use Rattle.promises.proofs.HistoryBytes.{held_in, Reading, in_head, in_pay, Tied, tied_fed}

-- the messages dropped of each instance, the tie of the bytes, and where each instance's first held byte is
pub record Held (s : Settings) (past : Past) (w : World) : Type 0 where
  pub messages : ℕ → List (List ℕ)
  pub spelled : (i : ℕ) → Spelled (speaks s.party.bundle i) (acts i past) (messages i)
  pub tied : Tied s.party s.receive (λ i. flatten (messages i)) (bytes_in past) (given w.connection w.receive)
  pub starts : (i : ℕ) → i < instances s.party.bundle → get_or w.connection.receiving.starts i 0 ≡ length (flatten (messages i)) % get_or s.receive i 0

-- ---- ties that stay

-- with what is then dropped and held, and a record that stands as it stood
tied_to : {us : Party} {caps : List ℕ} {dropped dropped' : ℕ → List ℕ} {bs bs' : List ℕ} {s : Reception} (s' : Reception)
    → (t : Tied us caps dropped bs s) → bs' ≡ bs → ((i : ℕ) → i < instances us.bundle → dropped i ++ held_in caps s i ≡ dropped' i ++ held_in caps s' i)
    → (is_open s'.gate ≡ true → Reading us s'.receiving t.left) → length s'.receiving.held ≡ most → Tied us caps dropped' bs' s'
tied_to s' t e f g n =
    record {
      carried = t.carried;
      left = t.left;
      divided = rw e t.divided;
      received = λ i l. t.received i l ∙ f i l;
      reading = g;
      many = n;
    }

-- a closed gate is not open
not_open : (g : Gate) (x : Closing) → is_open (closed_by g x) ≡ true → ⊥
not_open Open x e = true≢false (sym e)
not_open (Closed y) x e = true≢false (sym e)

-- freeing bytes leaves the header and the payload under way
reading_freed : {us : Party} {r : Receiving} {left : List ℕ} (caps : List ℕ) (i n : ℕ) → Reading us r left
    → Reading us (dropping.freed_of r caps i n) left
reading_freed caps i n (in_head z h e) = in_head z h e
reading_freed caps i n (in_pay h p e eight more m z to) = in_pay h p e eight more m z to

module _ (w : World) (g : Good w) (past : Past) (t : Held w.connection.settings past w) where
  abbrev c : Connection
  c = w.connection

  abbrev s : Settings
  s = w.connection.settings

  -- an effect without a drop leaves the messages
  spelled_same : (e : Effect) → ((i : ℕ) → Spelled (speaks s.party.bundle i) (acts_by i e) []) → (i : ℕ)
      → Spelled (speaks s.party.bundle i) (acts i (past ++ (e ∷ []))) (t.messages i)
  spelled_same e none i =
      rw (acts_next past e i)
      (subst (Spelled (speaks s.party.bundle i) (acts i past ++ acts_by i e)) (append-nil (t.messages i)) (spelled_append (t.spelled i) (none i)))

  -- and one that changes nothing of receiving
  held_same : (e : Effect) {w' : World} → used_by e ≡ [] → ((i : ℕ) → Spelled (speaks s.party.bundle i) (acts_by i e) [])
      → w'.connection.receiving ≡ c.receiving → w'.receive ≡ w.receive → (is_open w'.connection.gate ≡ true → is_open c.gate ≡ true)
      → Held s (past ++ (e ∷ [])) w'
  held_same e {w'} unused none f k open' =
      record {
        messages = t.messages;
        spelled = spelled_same e none;
        tied =
            tied_to (given w'.connection w'.receive) t.tied (bytes_next past e ∙ rw (unused, append-nil)) (λ i l. rw (f, k))
            (λ y. rw f (t.tied.reading (open' y))) (rw f g.shaped.held);
        starts = λ i l. rw f (t.starts i l);
      }

  pub held_by : {real : Type 0} {e : Effect} {w' : World} → Leaves w real e w' → Held s (past ++ (e ∷ [])) w'
  held_by still = held_same nothing refl (λ i. no_act) refl refl (λ q. q)
  held_by (shut o) = held_same (came 20 []) refl (λ i. no_act) refl refl (λ q. q)
  held_by {e = e} (feeds xs o spelt) =
      let before : ℕ → List ℕ = λ i. flatten (t.messages i) in
      let st : Reception = given c w.receive in
      let n : ℕ = used s.party s.receive st xs in
      let q : Tied s.party s.receive before (bytes_in past ++ take n xs) (fed s.party s.receive st xs) =
      tied_fed s.party s.receive before (receive_some g) xs (bytes_in past) st c.receiving.starts (length w.receive) t.tied
      (kept_given c w.receive g.ranged) g.receive in
      let k = kept_fed s.party s.receive c.receiving.starts (length w.receive) st xs (kept_given c w.receive g.ranged) in
      record {
        messages = t.messages;
        spelled = spelled_same e (λ i. no_act);
        tied = tied_to (fed s.party s.receive st xs) q (bytes_next past e) (λ i l. refl) q.reading q.many;
        starts = λ i l. rw k.places (t.starts i l);
      }
  held_by (faults n i) = held_same (faulted n i) refl (λ i. no_act) refl refl (λ q. absurd (not_open c.gate (Of n i) q))
  held_by {e = e} {w' = w'} (drops j n to m q fits reads) =
      let xs : List ℕ = first_held c w.receive j n in
      let says : Spells (speaks s.party.bundle j) n m xs =
      record { long = stream_length _ _ _ _ n; item = message_item _ xs m reads; reads = reads } in
      let ms : ℕ → List (List ℕ) = λ i. t.messages i ++ cond (eqb j i) (xs ∷ []) [] in
      let now : (i : ℕ) → flatten (ms i) ≡ flatten (t.messages i) ++ cond (eqb j i) xs [] =
      λ i. flatten_append (t.messages i) _ ∙ ap (λ (r : List ℕ). flatten (t.messages i) ++ r) (flatten_one (eqb j i) xs) in
      let held = c.receiving.held in
      let start = c.receiving.starts in
      let in-starts : j < length start = omega (arith, q.within, g.shaped.receive_starts, at_most s.party.bundle) in
      record {
        messages = ms;
        spelled = λ i.
            rw (acts_next past e i)
            (spelled_append (t.spelled i)
            (spelled_drop _ n m xs (eqb j i) (λ y. subst (λ (k : ℕ). Spells (speaks s.party.bundle k) n m xs) (eqb-true j i y) says)));
        tied =
            tied_to (given w'.connection w.receive) t.tied (bytes_next past e ∙ append-nil (bytes_in past))
            (λ i l.
            rw (now i, append_assoc)
            (ap (λ (r : List ℕ). flatten (t.messages i) ++ r)
            (queue_freed w.receive s.receive start held j n in-starts (omega (arith, q.within, g.shaped.held, at_most s.party.bundle)) fits i)))
            (λ y. reading_freed s.receive j n (t.tied.reading y)) (rw length-set g.shaped.held);
        starts = λ i l.
            rw (now i) (starts_freed w.receive s.receive start held j n in-starts (flatten (t.messages i)) xs (stream_length _ _ _ _ n) i (t.starts i l));
      }
  held_by (queues j to m xs q o free short fit) = held_same (acted j (gave xs)) refl (λ i. spelled_put _ xs (eqb j i)) refl refl (λ p. p)
  held_by (serves j time bs o who q) = held_same (sent time bs) refl (λ i. no_act) refl refl (λ p. p)

pub held_first : {s : Settings} {receive send : List ℕ} → Opened s receive send → Held s [] (first s receive send)
unfolding bytes_in acts flat_map flatten received_in stream
held_first {s} {receive} {send} o =
    rw (opens_fresh o)
    (record {
      messages = λ i. [];
      spelled = λ i. no_act;
      tied =
          record {
            carried = [];
            left = [];
            divided = in_header {bs = []} (omega arith);
            received = λ i l. rw (get_or-replicate {A = ℕ} most i 0 0 (omega (arith, at_most s.party.bundle))) (none_for s.party i (decoded []));
            reading = λ q. in_head refl (omega arith) refl;
            many = refl;
          };
      starts = λ i l. rw (get_or-replicate {A = ℕ} most i 0 0 (omega (arith, at_most s.party.bundle))) (sym (zero-mod _));
    })

-- ---- T11 (a) and (d)

pub receives_of : (past : Past) (w : World) → Held w.connection.settings past w → Receives w.connection.settings past w
receives_of past w t =
    let caps = w.connection.settings.receive in
    let r = w.connection.receiving in
    let came : ℕ → List ℕ = λ i. received_in w.connection.settings.party i t.tied.carried t.tied.left in
    let ms : ℕ → List ℕ = λ i. flatten (t.messages i) in
    let long : (i : ℕ) → dropped_for i past ≡ length (ms i) = λ i. spelled_long (t.spelled i) in
    record {
      carried = t.tied.carried;
      left = t.tied.left;
      divided = t.tied.divided;
      messages = λ i l. messages (t.messages i) (t.spelled i) (t.tied.received i l);
      held = λ i l.
          rw (long i)
          (stream_count w.receive (base_of caps i) (get_or caps i 0) (get_or r.starts i 0) (get_or r.held i 0) (came i) (ms i) (t.tied.received i l));
      starts = λ i l. rw (long i) (t.starts i l);
      places = λ i n l h.
          stream_place w.receive (base_of caps i) (get_or caps i 0) (get_or r.starts i 0) (get_or r.held i 0) (came i) (ms i)
          (t.tied.received i l) (t.starts i l) n (rw (long i) at h);
    }
