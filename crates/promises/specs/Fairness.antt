-- T12, demand 3: a byte that waits is sent, and within how many segments. Segments are read back from the lent buffers by their layout.
use Rattle.std.specs.Prelude.{ℕ, ◌+◌, ◌*◌, ◌/◌, ◌≤◌, ◌<◌, ◌≡◌, Bool, true, cond, ◌&&◌, ◌↔◌, eqb, length, get_or, drop}
use mathlib.Core.List.{List, [], ◌∷◌, ◌++◌, flat_map}
use Rattle.std.proofs.Math.ListN as list
use Rattle.wire.specs.declared.segment.Segment.{Segment}
use Rattle.wire.specs.declared.instances.Party.{Party}
use Rattle.wire.specs.Segments.{header_length, decoded}
use Rattle.wire.specs.Instances.{instances, protocol_of, mode_of}
use Rattle.connection.specs.declared.Settings.{Settings}
use Rattle.connection.specs.Closings.{is_open}
use Rattle.connection.specs.Parts.{waiting_of}
use Rattle.promises.specs.Calls.{Call, next, World, answers, run, AllReal, Opened, first}
use Rattle.promises.specs.Reached.{waits}
use Rattle.promises.specs.Effects.{did, segments}

-- the bytes of instance i that wait: those of its stream from its start place on
abbrev pub queue : World → ℕ → List ℕ
queue w i = waiting_of w.connection w.send i

-- ---- segments

-- what a segment's header says, and what follows it
abbrev pub header : List ℕ → Segment
header bs = decoded (list.take header_length bs)

abbrev pub payload : List ℕ → List ℕ
payload bs = drop header_length bs

-- by its mode and protocol number, a segment that a side sends as instance i of a bundle
abbrev pub is_of : Party → ℕ → List ℕ → Bool
is_of us i bs = eqb (header bs).mode (mode_of us i) && eqb (header bs).protocol (protocol_of us.bundle i)

-- the bytes of instance i in segments, end to end
unfoldable pub sent_by : Party → ℕ → List (List ℕ) → List ℕ
sent_by us i ss = flat_map (λ bs. cond (is_of us i bs) (payload bs) []) ss

-- One of the segments, for instance i and as long as its header says, carries byte x, in front of which there are p bytes of i:
-- those in the segments in front of it, and those in front of x in its own payload.
pub record Sent (us : Party) (i p x : ℕ) (ss : List (List ℕ)) : Type 0 where
  pub front : List (List ℕ)
  pub segment : List ℕ
  pub back : List (List ℕ)
  pub split : ss ≡ front ++ (segment ∷ back)
  pub of : is_of us i segment ≡ true
  pub whole : (header segment).len ≡ length (payload segment)
  pub place : ℕ
  pub behind : p ≡ length (sent_by us i front) + place
  pub within : place < length (payload segment)
  pub byte : get_or (payload segment) place 0 ≡ x

-- ---- the promises

-- of the segments to come, how many are enough for a byte with p bytes of its instance in front of it: "nine" is the bundle's number of instances (K1)
abbrev pub enough : Settings → ℕ → ℕ
enough s p = instances s.party.bundle * (p / s.limit + 1)

-- A byte of instance i that waits with p bytes of i in front of it is in one of so many next segments, once they are made, whatever is called.
-- Nothing need be said of the gate: where it is closed no segment is made.
abbrev pub FairFrom : Settings → World → Type 0
FairFrom s w =
    (i p : ℕ) → i < instances s.party.bundle → p < waits w i → (cs : List Call) → AllReal cs
    → let ss = segments (did w cs) in
    enough s p ≤ length ss → Sent s.party i p (get_or (queue w i) p 0) (list.take (enough s p) ss)

-- While the gate is open and a byte waits, a segment is made by every call of next segment that lends room for header and S bytes;
-- and notice 4 is given exactly if the gate is open and nothing waits.
pub record Serves (s : Settings) (w : World) : Type 0 where
  pub made : (i : ℕ) → i < instances s.party.bundle → 0 < waits w i → is_open w.connection.gate ≡ true
      → (time : ℕ) (buf : List ℕ) → header_length + s.limit ≤ length buf → answers w (next time buf) ≡ 0
  pub nothing : (time : ℕ) (buf : List ℕ)
      → (answers w (next time buf) ≡ 4) ↔ ((is_open w.connection.gate ≡ true) × ((i : ℕ) → i < instances s.party.bundle → waits w i ≡ 0))

-- both, after every list of calls from open on
abbrev pub Fair : Type 0
Fair =
    (s : Settings) (receive send : List ℕ) → Opened s receive send → (cs : List Call) → AllReal cs
    → let w = run (first s receive send) cs in FairFrom s w × Serves s w
