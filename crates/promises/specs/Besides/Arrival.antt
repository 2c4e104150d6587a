-- T9 (c): what one end builds and puts is what the other end is shown and drops, in whatever segments it was sent and in whatever runs it was fed.
use Rattle.std.specs.Prelude.{ℕ, zero, suc, ◌+◌, ◌*◌, ◌^◌, ◌≤◌, ◌<◌, ◌≡◌, Bool, length, get_or, take, Some}
use mathlib.Core.List.{List, [], ◌∷◌, ◌++◌, flat_map, flatten}
use Rattle.ring.specs.Ring as ring
use Rattle.wire.specs.Instances.{instances}
use Rattle.wire.specs.Besides.Instances.{other_of, pair_of}
use Rattle.std.specs.Prelude.{Some}
use Rattle.rows.specs.Spoken.{speaks}
use Rattle.messages.specs.declared.Message.{Message}
use Rattle.messages.specs.Reading.{message_of, said_in}
use Rattle.build.specs.Building.{Told, given, build_of}
use Rattle.connection.specs.declared.Settings.{Settings}
use Rattle.range.specs.Besides.Ranges.{InReceive}
use Rattle.judging.specs.Besides.Judging.{leads_to}
use Rattle.judging.specs.Besides.Hearing.{Awaited}
use Rattle.connection.specs.Parts.{held_of}
use Rattle.hearing.specs.Hearing.{seen}
use Rattle.looking.specs.declared.Place.{Place}
use Rattle.looking.specs.Looking.{joined}
use Rattle.promises.specs.Calls as calls
use Rattle.promises.specs.Calls.{Call, World, step, run, AllReal, Opened, first}
use Rattle.promises.specs.Effects.{Act, gave, Past, did, bytes_in, acts, segments}
use Rattle.promises.specs.Fairness.{queue}
use Rattle.promises.specs.History.{put_by, put_for, dropped_for, Spelled, part_at}

-- ---- two ends

-- a connection after calls of its own, from an open answered 0 on
pub record End : Type 0 where
  pub settings : Settings
  pub receive : List ℕ
  pub send : List ℕ
  pub opened : Opened settings receive send
  pub calls : List Call
  pub real : AllReal calls

-- the world that open left, what was asked and answered from there on, and the world that it left
abbrev pub start : End → World
start e = first e.settings e.receive e.send

abbrev pub past_of : End → Past
past_of e = did (start e) e.calls

abbrev pub world_of : End → World
world_of e = run (start e) e.calls

-- the bytes of instance i that are held, in a world
abbrev pub holding : World → ℕ → List ℕ
holding w i = held_of w.connection w.receive i

-- the instance of the other end that instance i talks with
abbrev pub facing : End → ℕ → ℕ
facing e i = pair_of e.settings.party.bundle i

-- The second end is the other party, of the same bundle and the other side, and its feeds used the first's segments, end to end: all but the bytes
-- that are on the way.
pub record Joined (a b : End) (way : List ℕ) : Type 0 where
  pub parties : b.settings.party ≡ other_of a.settings.party
  pub bytes : flatten (segments (past_of a)) ≡ bytes_in (past_of b) ++ way

-- What was put of an instance is, in order: the messages that the other end dropped of the instance that it talks with, each as its drop answered; what
-- it holds of it; what is in flight; and what still waits.
pub record Arrives (a b : End) (i : ℕ) (flight : List ℕ) : Type 0 where
  pub messages : List (List ℕ)
  pub spelled : Spelled (speaks a.settings.party.bundle i) (acts (facing a i) (past_of b)) messages
  pub put : put_for i (past_of a) ≡ ((flatten messages ++ holding (world_of b) (facing a i)) ++ flight) ++ queue (world_of a) i

-- no more bytes are in flight than are on the way
abbrev pub Glued : Type 0
Glued =
    (a b : End) (way : List ℕ) → Joined a b way → (i : ℕ) → i < instances a.settings.party.bundle
    → (flight : List ℕ) × Arrives a b i flight × (length flight ≤ length way)

-- so with nothing on the way: what was put is what the other end dropped and holds, and what still waits
abbrev pub AllThere : Type 0
AllThere = (a b : End) → Joined a b [] → (i : ℕ) → i < instances a.settings.party.bundle → Arrives a b i []

-- ---- a built message is shown and dropped

-- the parts of a message, as build is given them: its kind, whether its list is asked to be of indefinite length, its numbers, and so many runs, of
-- which there are two at the most
pub record Parts : Type 0 where
  pub kind : ℕ
  pub asked : Bool
  pub numbers : List ℕ
  pub runs : ℕ
  pub one : List ℕ
  pub two : List ℕ

-- build of these parts for instance i of a bundle, with this buffer lent
abbrev pub build_with : ℕ → ℕ → Parts → List ℕ → Told
build_with b i p lent = build_of b i p.kind p.asked p.numbers p.runs p.one p.two lent

-- Build of these parts for instance i answered 0, and the message bs was at the front of its buffer. Runs are slices: their lengths are numbers of
-- 64 bits.
pub record Builds (b i : ℕ) (p : Parts) (bs : List ℕ) : Type 0 where
  pub slices : (length p.one < 2 ^ 64) × (length p.two < 2 ^ 64)
  pub lent : List ℕ
  pub done : (build_with b i p lent).answer.number ≡ 0
  pub front : take (build_with b i p lent).answer.len (build_with b i p lent).buffer ≡ bs

-- A look or drop on instance i is awaited, the bytes held begin with bs, and the message that these are has a row in the present state.
pub record Awaits (w : World) (i : ℕ) (bs : List ℕ) : Type 0 where
  pub asked : InReceive w.connection w.receive i
  pub awaited : Awaited (seen w.connection w.receive i)
  pub held : take (length bs) (holding w i) ≡ bs
  pub next : ℕ
  pub row : leads_to (seen w.connection w.receive i) (said_in (message_of (speaks w.connection.settings.party.bundle i) bs)) ≡ Some next

-- the numbers that a message says, and the bytes at its places, of which each is a start and a length
abbrev pub numbers_in : Message → List ℕ
numbers_in m = take m.count m.numbers

unfoldable pub runs_at : List ℕ → List ℕ → ℕ → List (List ℕ)
runs_at bs places zero = []
runs_at bs places (suc n) = runs_at bs places n ++ (ring.run bs (get_or places (n * 2) 0) (get_or places (n * 2 + 1) 0) ∷ [])

abbrev pub runs_in : List ℕ → Message → List (List ℕ)
runs_in bs m = runs_at bs m.places m.parts

-- what is said of bytes that are a message
abbrev pub said_of : List ℕ → Message → calls.Said
said_of bs m = record { len = length bs; offset = 0; message = m }

-- a look on instance i answers 0, and bs is the part at its place, in the store or in scratch
pub record ShownAs (bs : List ℕ) (m : Message) (w : World) (i : ℕ) (scratch : List ℕ) : Type 0 where
  pub place : Place
  pub answer : (step w (calls.look i scratch)).answer ≡ (0, calls.looked (said_of bs m) place (joined place bs scratch))
  pub part : part_at place (length bs) w.receive (joined place bs scratch) ≡ bs

-- So does every look with room for bs in scratch; a drop answers 0, and the same of the message; and what they say of it are the parts that build was
-- given: kind, numbers, and the runs at its places.
pub record ArrivesAs (p : Parts) (bs : List ℕ) (w : World) (i : ℕ) : Type 0 where
  pub message : Message
  pub looks : (scratch : List ℕ) → length bs ≤ length scratch → ShownAs bs message w i scratch
  pub drops : (step w (calls.drop i)).answer ≡ (0, said_of bs message)
  pub kind : message.kind ≡ p.kind
  pub numbers : numbers_in message ≡ p.numbers
  pub runs : Some (runs_in bs message) ≡ given p.runs p.one p.two

-- what is built for an instance is shown and dropped on one that speaks the same protocol
abbrev pub BuiltArrives : Type 0
BuiltArrives =
    (b i : ℕ) (p : Parts) (bs : List ℕ) → Builds b i p bs → (w : World) (j : ℕ) → speaks w.connection.settings.party.bundle j ≡ speaks b i → Awaits w j bs
    → ArrivesAs p bs w j

-- ---- the journey

-- Two ends are joined, and a message is due at the second: build made bs of these parts for instance i; the first end put it to i, and what it put
-- to i before has as many bytes as the second dropped of the instance that i talks with; all of bs has come there, a look or drop on that instance is
-- awaited, and in its state the message has a row.
pub record Due (a b : End) (way : List ℕ) (i : ℕ) (p : Parts) (bs : List ℕ) : Type 0 where
  pub joined : Joined a b way
  pub within : i < instances a.settings.party.bundle
  pub built : Builds a.settings.party.bundle i p bs
  pub before : List Act
  pub behind : List Act
  pub put : acts i (past_of a) ≡ before ++ (gave bs ∷ behind)
  pub dropped : length (flat_map put_by before) ≡ dropped_for (facing a i) (past_of b)
  pub come : length bs ≤ length (holding (world_of b) (facing a i))
  pub asked : InReceive (world_of b).connection (world_of b).receive (facing a i)
  pub awaited : Awaited (seen (world_of b).connection (world_of b).receive (facing a i))
  pub next : ℕ
  pub row : leads_to (seen (world_of b).connection (world_of b).receive (facing a i)) (said_in (message_of (speaks a.settings.party.bundle i) bs)) ≡ Some next

-- then this is what look shows and drop frees
abbrev pub Journey : Type 0
Journey = (a b : End) (way : List ℕ) (i : ℕ) (p : Parts) (bs : List ℕ) → Due a b way i p bs → ArrivesAs p bs (world_of b) (facing a i)
