-- What a history says, and that record and stores say the same (document 01, "What the front holds" and "Segments"): after any calls from open on.
use Rattle.std.specs.Prelude.{ℕ, ◌+◌, ◌-◌, ◌/◌, ◌%◌, ◌^◌, ◌≤◌, ◌<◌, min, ◌≡◌, Bool, true, false, cond, not, ◌&&◌, eqb, leb, ltb, length, get_or, take, drop, Ok, Err, Some}
use mathlib.Core.List.{List, [], ◌∷◌, ◌++◌, flat_map, flatten}
use Rattle.std.proofs.Math.Option.{Option, none, some, or_else}
use Rattle.std.specs.Int.Count.{ones}
use Rattle.ring.specs.Ring as ring
use Rattle.ring.specs.Ring.{base_of, place}
use Rattle.wire.specs.declared.segment.Segment.{Segment}
use Rattle.wire.specs.declared.instances.Party.{Party}
use Rattle.wire.specs.Instances.{Route}
use Rattle.wire.specs.declared.instances.RouteError.TheVariants.{Unknown, Wrong}
use Rattle.wire.specs.Segments.{header_length, decoded, Carried, Divided}
use Rattle.wire.specs.Instances.{instances, most, role_of, initiates, protocol_of, mode_of, route_of}
use Rattle.item.specs.Grammar.{Item, nesting}
use Rattle.rows.specs.declared.Protocol.{Protocol}
use Rattle.rows.specs.declared.Protocol.TheVariants.{Handshake}
use Rattle.rows.specs.Rows.{next_of, agency_of}
use Rattle.rows.specs.Spoken.{speaks}
use Rattle.messages.specs.declared.Message.{Message}
use Rattle.messages.specs.Reading.{message_of, read, said_in, flag_of}
use Rattle.connection.specs.declared.Settings.{Settings}
use Rattle.telling.specs.declared.Report.{Report}
use Rattle.connection.specs.Closings.{closing_of}
use Rattle.judging.specs.Judging.{holds, ours}
use Rattle.looking.specs.declared.Place.{Place}
use Rattle.looking.specs.declared.Place.TheVariants.{Store, Scratch, Nowhere}
use Rattle.looking.specs.Looking.{joined}
use Rattle.connection.specs.Parts.{held_of}
use Rattle.promises.specs.Calls as calls
use Rattle.promises.specs.Calls.{Call, World, step, answers, run, Real, All, AllReal, Opened, first}
use Rattle.promises.specs.Effects as effects
use Rattle.promises.specs.Effects.{Act, gave, got, read_in, Effect, does, Past, did, used_by, bytes_in, acts, segments}
use Rattle.promises.specs.Reached.{waits}
use Rattle.promises.specs.Fairness.{queue, header, payload, sent_by}

-- ---- what was put, and what was dropped

-- the messages of instance i that were put, end to end
abbrev pub put_by : Act → List ℕ
put_by (gave xs) = xs
put_by (got len m) = []

unfoldable pub put_for : ℕ → Past → List ℕ
put_for i past = flat_map put_by (acts i past)

-- how many bytes were dropped of it
unfoldable pub dropped : List Act → ℕ
dropped [] = 0
dropped (gave xs ∷ more) = dropped more
dropped (got len m ∷ more) = len + dropped more

abbrev pub dropped_for : ℕ → Past → ℕ
dropped_for i past = dropped (acts i past)

-- ---- T11 (a) and (d): what was received

abbrev pub is_for : ℕ → Route → Bool
is_for i (Err Unknown) = false
is_for i (Err (Wrong j)) = false
is_for i (Ok j) = eqb j i

-- what of a payload is for instance i: protocol number and mode together choose the instance
abbrev pub payload_for : Party → ℕ → Segment → List ℕ → List ℕ
payload_for us i h xs = cond (is_for i (route_of us h.protocol h.mode)) xs []

-- the payload for instance i of whole segments, and of the bytes that are left behind them, in which a payload may have begun
unfoldable pub received_in : Party → ℕ → List Carried → List ℕ → List ℕ
received_in us i cs left =
    flat_map (λ c. payload_for us i c.header c.payload) cs
    ++ payload_for us i (decoded (take header_length left)) (drop header_length left)

-- Bytes are the message that an answer told: one item, as long as it told, which reads as it told: kind, numbers and places.
pub record Spells (p : Protocol) (len : ℕ) (m : Message) (bs : List ℕ) : Type 0 where
  pub long : length bs ≡ len
  pub item : Item nesting bs
  pub reads : message_of p bs ≡ read m

-- messages, one for each drop among acts, in order, each as its drop answered
pub data Spelled (p : Protocol) : List Act → List (List ℕ) → Type 0 where
  no_act : Spelled p [] []
  a_put : {xs : List ℕ} {more : List Act} {ms : List (List ℕ)} → Spelled p more ms → Spelled p (gave xs ∷ more) ms
  a_drop : {len : ℕ} {m : Message} {bs : List ℕ} {more : List Act} {ms : List (List ℕ)} → Spells p len m bs → Spelled p more ms
      → Spelled p (got len m ∷ more) (bs ∷ ms)

-- Demand 2, of instance i: what was received of it is the messages dropped, end to end, each as its drop answered, and then what is held; and into
-- as many items and a rest it is split in no other way.
pub record Messages (p : Protocol) (past : Past) (i : ℕ) (received held : List ℕ) : Type 0 where
  pub messages : List (List ℕ)
  pub spelled : Spelled p (acts i past) messages
  pub split : received ≡ flatten messages ++ held
  pub only : (ms : List (List ℕ)) (rest : List ℕ) → All (Item nesting) ms → length ms ≡ length messages → received ≡ flatten ms ++ rest
      → (ms ≡ messages) × (rest ≡ held)

-- The bytes that feeds used, divided by the layout (of a refused segment only the header is used), and of each instance its messages among them. A byte
-- that is held, the n-th from 0 at open on, is at place n mod capacity.
pub record Receives (s : Settings) (past : Past) (w : World) : Type 0 where
  pub carried : List Carried
  pub left : List ℕ
  pub divided : Divided (bytes_in past) carried left
  pub messages : (i : ℕ) → i < instances s.party.bundle
      → Messages (speaks s.party.bundle i) past i (received_in s.party i carried left) (held_of w.connection w.receive i)
  pub held : (i : ℕ) → i < instances s.party.bundle
      → length (received_in s.party i carried left) ≡ dropped_for i past + get_or w.connection.receiving.held i 0
  pub starts : (i : ℕ) → i < instances s.party.bundle → get_or w.connection.receiving.starts i 0 ≡ dropped_for i past % get_or s.receive i 0
  pub places : (i n : ℕ) → i < instances s.party.bundle → dropped_for i past ≤ n → n < length (received_in s.party i carried left)
      → get_or w.receive (place (base_of s.receive i) (get_or s.receive i 0) n) 0 ≡ get_or (received_in s.party i carried left) n 0

-- ---- T11 (b) and (d): what was put and sent

-- the payloads of instance i end to end, in the segments that were made, read back by their layout
abbrev pub sent_for : Party → ℕ → Past → List ℕ
sent_for us i past = sent_by us i (segments past)

-- What was put of an instance is what was sent and then what waits. A byte that waits, the n-th from 0 at open on, is at place n mod capacity.
pub record Sends (s : Settings) (past : Past) (w : World) : Type 0 where
  pub put : (i : ℕ) → i < instances s.party.bundle → put_for i past ≡ sent_for s.party i past ++ queue w i
  pub waiting : (i : ℕ) → i < instances s.party.bundle → length (put_for i past) ≡ length (sent_for s.party i past) + waits w i
  pub starts : (i : ℕ) → i < instances s.party.bundle → get_or w.connection.sending.starts i 0 ≡ length (sent_for s.party i past) % get_or s.send i 0
  pub places : (i n : ℕ) → i < instances s.party.bundle → length (sent_for s.party i past) ≤ n → n < length (put_for i past)
      → get_or w.send (place (base_of s.send i) (get_or s.send i 0) n) 0 ≡ get_or (put_for i past) n 0

-- A segment that is made reads back as it was written: the given time, mode and protocol number of what we send as an instance, the smaller of S
-- and the bytes waiting, at least one; and the first of these bytes. Of Handshake that is all that waits: a message is always in one segment.
pub record Segmented (s : Settings) (w : World) (time : ℕ) (bs : List ℕ) : Type 0 where
  pub instance : ℕ
  pub within : instance < instances s.party.bundle
  pub reads : header bs
      ≡ record { time = time; mode = mode_of s.party instance; protocol = protocol_of s.party.bundle instance; len = min s.limit (waits w instance) }
  pub some : 1 ≤ min s.limit (waits w instance)
  pub carries : payload bs ≡ take (min s.limit (waits w instance)) (queue w instance)
  pub whole : instance ≡ 0 → payload bs ≡ queue w 0

-- ---- T11 (c): the states

-- whether the peer has agency in a state of instance i
abbrev pub theirs : Party → ℕ → ℕ → Bool
theirs us i state = holds (not (initiates us.side (role_of us.bundle i))) (agency_of (speaks us.bundle i) state)

-- a put wants our agency, a drop the peer's
abbrev pub allowed : Party → ℕ → ℕ → Act → Bool
allowed us i state (gave xs) = ours us i state
allowed us i state (got len m) = theirs us i state

-- An act is one of the rows: a message of the protocol, at the agency that it wants, leads from the one state to the other.
pub record Moves (us : Party) (i state : ℕ) (a : Act) (to : ℕ) : Type 0 where
  pub message : Message
  pub reads : read_in (speaks us.bundle i) a ≡ read message
  pub agency : allowed us i state a ≡ true
  pub row : next_of (speaks us.bundle i) state message.kind (flag_of (speaks us.bundle i) message) ≡ Some to

-- acts one after the other lead from a state to a state
pub data Walks (us : Party) (i : ℕ) : ℕ → List Act → ℕ → Type 0 where
  rests : {state : ℕ} → Walks us i state [] state
  moves : {state via to : ℕ} {a : Act} {more : List Act} → Moves us i state a via → Walks us i via more to → Walks us i state (a ∷ more) to

-- the last act is message 1
unfoldable pub ends_in_accept : List Act → Bool
ends_in_accept [] = false
ends_in_accept (a ∷ []) = eqb (said_in (read_in Handshake a)).kind 1
ends_in_accept (a ∷ b ∷ more) = ends_in_accept (b ∷ more)

-- The state of each instance is where its own accepted puts and its drops lead from the first state, and Accept is marked exactly if Handshake ended in it.
pub record Talks (s : Settings) (past : Past) (w : World) : Type 0 where
  pub states : (i : ℕ) → i < instances s.party.bundle → Walks s.party i 0 (acts i past) (get_or w.connection.talk.states i 0)
  pub accepted : w.connection.talk.accepted ≡ ends_in_accept (acts 0 past)

-- ---- T11 (e): the closing

-- where the last header among the bytes leads
abbrev pub last_route : Party → List ℕ → Route
last_route us bs =
    let d = decoded (drop (length bs - header_length) bs) in
    route_of us d.protocol d.mode

-- the instance that a route names, where there is one
abbrev pub routed : Route → Option ℕ
routed (Err Unknown) = none
routed (Err (Wrong j)) = some j
routed (Ok j) = some j

-- The closing of a fault that a call answered, if it answered one, where bs are the bytes so far: of 11 to 13 from feed, whose last used bytes are
-- the refused header, with the instance that it names; and of 14 to 17 from look and drop.
abbrev pub fault_by : Party → List ℕ → Effect → Option (ℕ × Option ℕ)
fault_by us bs (effects.came n xs) = cond (leb 11 n && leb n 13) (some (n, routed (last_route us bs))) none
fault_by us bs (effects.acted j a) = none
fault_by us bs (effects.sent time xs) = none
fault_by us bs (effects.faulted n j) = some (n, some j)
fault_by us bs effects.nothing = none

-- the closing of the first fault answered, with bs the bytes before
unfoldable pub first_fault : Party → List ℕ → Past → Option (ℕ × Option ℕ)
first_fault us bs [] = none
first_fault us bs (e ∷ past) =
    let now = bs ++ used_by e in
    or_else (fault_by us now e) (first_fault us now past)

-- The connection is closed by the first fault answered, and open if none was.
abbrev pub Closes : Settings → Past → World → Type 0
Closes s past w = closing_of w.connection.gate ≡ first_fault s.party [] past

-- ---- T11

-- what the history tells, record and stores tell
pub record Tells (s : Settings) (past : Past) (w : World) : Type 0 where
  pub receives : Receives s past w
  pub sends : Sends s past w
  pub talks : Talks s past w
  pub closes : Closes s past w

-- and a segment that is made there is of what waited
abbrev pub Makes : Settings → World → Type 0
Makes s w = (c : Call) → Real c → (time : ℕ) (bs : List ℕ) → does w c ≡ effects.sent time bs → Segmented s w time bs

-- the n bytes at a place of the store, or at scratch's front, which `part` hands out (`Determined.Tied`): none, if there are not so many
abbrev pub cut_of : List ℕ → ℕ → ℕ → List ℕ
cut_of bs at n = cond (leb (at + n) (length bs)) (ring.run bs at n) []

abbrev pub part_at : Place → ℕ → List ℕ → List ℕ → List ℕ
part_at (Store at) n store scratch = cut_of store at n
part_at Scratch n store scratch = cut_of scratch 0 n
part_at Nowhere n store scratch = []

-- What a look that answers 0 shows: the first message held, as it answered, which is the part at the place that it told; and nothing has changed but
-- scratch, where the message was joined.
pub record Sees (s : Settings) (w : World) (i : ℕ) (scratch : List ℕ) (l : calls.Looked) : Type 0 where
  pub within : i < instances s.party.bundle
  pub bytes : List ℕ
  pub front : bytes ≡ take l.said.len (held_of w.connection w.receive i)
  pub spells : Spells (speaks s.party.bundle i) l.said.len l.said.message bytes
  pub part : part_at l.place l.said.len w.receive l.scratch ≡ bytes
  pub written : l.scratch ≡ joined l.place bytes scratch
  pub same : (step w (calls.look i scratch)).world ≡ w

-- without a message the part is empty, and scratch is as it was
abbrev pub SeesNothing : World → List ℕ → calls.Looked → Type 0
SeesNothing w scratch l = (part_at l.place l.said.len w.receive l.scratch ≡ []) × (l.scratch ≡ scratch)

abbrev pub Looks : Settings → World → Type 0
Looks s w =
    (i : ℕ) (scratch : List ℕ)
    → let l = (step w (calls.look i scratch)).answer.1 in
    let n = answers w (calls.look i scratch) in (n ≡ 0 → Sees s w i scratch l) × ((n ≡ 0 → ⊥) → SeesNothing w scratch l)

-- after every list of calls from open on
abbrev pub History : Type 0
History =
    (s : Settings) (receive send : List ℕ) → Opened s receive send → (cs : List Call) → AllReal cs
    → let w = run (first s receive send) cs in Tells s (did (first s receive send) cs) w × Makes s w × Looks s w

-- ---- T13: status

-- Status tells the counts of the history, and its closing. The word's bit i is set if bytes of i wait, and no other; how many are ready is how many
-- bits it has; and the lowest is the first that is ready, or 255 if none is.
pub record Reports (s : Settings) (past : Past) (r : Report) : Type 0 where
  pub number : r.number ≡ 0
  pub held : (cs : List Carried) (left : List ℕ) → Divided (bytes_in past) cs left → (i : ℕ) → i < instances s.party.bundle
      → length (received_in s.party i cs left) ≡ dropped_for i past + get_or r.held i 0
  pub waiting : (i : ℕ) → i < instances s.party.bundle → length (put_for i past) ≡ length (sent_for s.party i past) + get_or r.waiting i 0
  pub many : (length r.held ≡ most) × (length r.waiting ≡ most)
  pub above : (i : ℕ) → instances s.party.bundle ≤ i → (get_or r.held i 0 ≡ 0) × (get_or r.waiting i 0 ≡ 0)
  pub bits : (i : ℕ) → i < instances s.party.bundle → r.ready.word / 2 ^ i % 2 ≡ cond (eqb (get_or r.waiting i 0) 0) 0 1
  pub small : r.ready.word < 2 ^ instances s.party.bundle
  pub count : r.ready.count ≡ ones r.ready.word
  pub lowest : (i : ℕ) → i < instances s.party.bundle → 0 < get_or r.waiting i 0 → ((j : ℕ) → j < i → get_or r.waiting j 0 ≡ 0) → r.ready.lowest ≡ i
  pub none : ((i : ℕ) → i < instances s.party.bundle → get_or r.waiting i 0 ≡ 0) → r.ready.lowest ≡ 255
  pub closing : closing_of r.gate ≡ first_fault s.party [] past

abbrev pub StatusTells : Type 0
StatusTells =
    (s : Settings) (receive send : List ℕ) → Opened s receive send → (cs : List Call) → AllReal cs
    → Reports s (did (first s receive send) cs) (step (run (first s receive send) cs) calls.status).answer.1

-- ---- T15: after a fault

-- A closed connection: feed, put and next segment answer 20, but put to an instance that there is not 10, and change nothing. No call writes to
-- a store, or changes what is to be sent or the closing; and it changes nothing at all if it drops nothing: look and drop answer as before, but 20 for 1
-- (`Alone.drop_closes`).
pub record Shut (w : World) : Type 0 where
  pub feeds : (xs : List ℕ) → step w (calls.feed xs) ≡ record { world = w; answer = (20, 0) }
  pub puts : (i : ℕ) (xs : List ℕ) → step w (calls.put i xs) ≡ record { world = w; answer = (cond (ltb i (instances w.connection.settings.party.bundle)) 20 10, tt) }
  pub makes : (time : ℕ) (buf : List ℕ) → step w (calls.next time buf) ≡ record { world = w; answer = (20, calls.made 0 buf) }
  pub leaves : (c : Call)
      → let v = (step w c).world in
      (v.receive ≡ w.receive) × (v.send ≡ w.send) × (v.connection.sending ≡ w.connection.sending)
      × (closing_of v.connection.gate ≡ closing_of w.connection.gate)
  pub refuses : (c : Call) → ((i : ℕ) (a : Act) → does w c ≡ effects.acted i a → ⊥) → (step w c).world ≡ w

-- nothing comes in, nothing is put and nothing is sent
pub record Nothing (past : Past) : Type 0 where
  pub comes : bytes_in past ≡ []
  pub put : (i : ℕ) → put_for i past ≡ []
  pub sent : segments past ≡ []

-- From the first closing on the connection is closed, by that closing, and nothing more comes in, is put or is sent.
abbrev pub AfterFault : Type 0
AfterFault =
    (s : Settings) (receive send : List ℕ) → Opened s receive send → (cs ds : List Call) → AllReal cs → AllReal ds
    → let w = run (first s receive send) cs in
    (closing : ℕ × Option ℕ) → closing_of w.connection.gate ≡ some closing
    → Shut w × Nothing (did w ds) × (closing_of (run w ds).connection.gate ≡ some closing)
