-- What a call did, read off the call and its answer; and what calls did, one after the other.
use Rattle.std.specs.Prelude.{ℕ, cond, eqb, take, Result}
use mathlib.Core.List.{List, [], ◌∷◌, flat_map}
use Rattle.rows.specs.declared.Protocol.{Protocol}
use Rattle.messages.specs.declared.Message.{Message}
use Rattle.messages.specs.declared.Unread.{Unread}
use Rattle.messages.specs.Reading.{message_of, read}
use Rattle.connection.specs.Closings.{heard_fault}
use Rattle.promises.specs.Calls as calls
use Rattle.promises.specs.Calls.{Call, Answer, World, step}

-- an accepted put, with its message; and a drop answered 0, with the length that it answered and what it said of the message
pub data Act : Type 0 where
  gave : List ℕ → Act
  got : (len : ℕ) (message : Message) → Act

-- what is read of its message: of a put's bytes, and as a drop answered
abbrev pub read_in : Protocol → Act → Result Message Unread
read_in p (gave xs) = message_of p xs
read_in p (got len m) = read m

-- What a call did: bytes came, with the number that feed answered; an instance acted; a segment was sent, with its time; an instance's bytes were at
-- fault, with its number; or nothing.
pub data Effect : Type 0 where
  came : (number : ℕ) (bytes : List ℕ) → Effect
  acted : (instance : ℕ) → Act → Effect
  sent : (time : ℕ) (segment : List ℕ) → Effect
  faulted : (number instance : ℕ) → Effect
  nothing : Effect

-- It is read off the call and its answer, and off nothing else. What a feed used is the front of what it was given, and a segment is at the front of
-- the lent buffer. Whether a feed closed, its number tells (`History.fault_by`); a put never closes. A look does nothing but close: what it shows is said of
-- the call (`History.Looks`).
abbrev pub effect_of : (c : Call) → Answer c → Effect
effect_of (calls.feed xs) (n, used) = came n (take used xs)
effect_of (calls.look i scratch) (n, a) = cond (heard_fault n) (faulted n i) nothing
effect_of (calls.drop i) (n, s) = cond (eqb n 0) (acted i (got s.len s.message)) (cond (heard_fault n) (faulted n i) nothing)
effect_of (calls.put i xs) (n, tt) = cond (eqb n 0) (acted i (gave xs)) nothing
effect_of (calls.next time buf) (n, calls.made len after) = cond (eqb n 0) (sent time (take len after)) nothing
effect_of calls.status (n, r) = nothing

abbrev pub does : World → Call → Effect
does w c = effect_of c (step w c).answer

-- ---- a history

-- what was done, in order
abbrev pub Past : Type 0
Past = List Effect

unfoldable pub did : World → List Call → Past
did w [] = []
did w (c ∷ cs) = does w c ∷ did (step w c).world cs

-- the bytes that feeds used, end to end
abbrev pub used_by : Effect → List ℕ
used_by (came n bs) = bs
used_by (acted j a) = []
used_by (sent time bs) = []
used_by (faulted n j) = []
used_by nothing = []

unfoldable pub bytes_in : Past → List ℕ
bytes_in past = flat_map used_by past

-- the accepted puts and the drops answered 0 of instance i, in order
abbrev pub acts_by : ℕ → Effect → List Act
acts_by i (came n bs) = []
acts_by i (acted j a) = cond (eqb j i) (a ∷ []) []
acts_by i (sent time bs) = []
acts_by i (faulted n j) = []
acts_by i nothing = []

unfoldable pub acts : ℕ → Past → List Act
acts i past = flat_map (acts_by i) past

-- the segments made, in order
abbrev pub segment_of : Effect → List (List ℕ)
segment_of (came n bs) = []
segment_of (acted j a) = []
segment_of (sent time bs) = bs ∷ []
segment_of (faulted n j) = []
segment_of nothing = []

unfoldable pub segments : Past → List (List ℕ)
segments past = flat_map segment_of past
