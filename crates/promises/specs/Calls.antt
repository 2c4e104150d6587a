-- Calls on one connection, from open on: the caller hands record and stores back untouched.
use Rattle.std.specs.Prelude.{ℕ, ◌<◌, ◌^◌, ◌≡◌, List, [], ◌∷◌, length}
use Rattle.base.specs.Numbers.{Bytes}
use Rattle.wire.specs.Instances.{most}
use Rattle.messages.specs.declared.Message.{Message}
use Rattle.connection.specs.declared.Settings.{Settings}
use Rattle.connection.specs.declared.Connection.{Connection}
use Rattle.telling.specs.declared.Report.{Report}
use Rattle.hearing.specs.declared.Shown.{Shown}
use Rattle.looking.specs.declared.Place.{Place}
use Rattle.opening.specs.Openings.{open_of}
use Rattle.telling.specs.Statuses.{status_of}
use Rattle.feeding.specs.Feeding.{feed_of}
use Rattle.looking.specs.Looking.{look_of}
use Rattle.dropping.specs.Dropping.{drop_of}
use Rattle.putting.specs.Putting.{put_of}
use Rattle.sending.specs.NextSegment.{next_of}

-- A call, with what the caller lends or gives: bytes; an instance and a scratch buffer; an instance; an instance and a message; a time and a buffer.
-- Build has neither record nor store, and so no part in what follows.
pub data Call : Type 0 where
  feed : List ℕ → Call
  look : ℕ → List ℕ → Call
  drop : ℕ → Call
  put : ℕ → List ℕ → Call
  next : ℕ → List ℕ → Call
  status : Call

-- What the caller sees: the number, and what comes with it. Of feed the bytes used; of look and drop a message's length or the offset of a bad byte, and what
-- the message says, and of look also where the message is and scratch after the call; of put nothing; of next segment a segment's length and the lent
-- buffer; of status the report.
pub record Said : Type 0 where
  pub len : ℕ
  pub offset : ℕ
  pub message : Message

pub record Looked : Type 0 where
  pub said : Said
  pub place : Place
  pub scratch : List ℕ

pub data Made : Type 0 where
  made : (len : ℕ) (buffer : List ℕ) → Made

abbrev pub With : Call → Type 0
With (feed xs) = ℕ
With (look i scratch) = Looked
With (drop i) = Said
With (put i xs) = Unit {0}
With (next time buf) = Made
With status = Report

abbrev pub Answer : Call → Type 0
Answer c = ℕ × With c

-- Record and stores, which are handed on from call to call.
pub record World : Type 0 where
  pub connection : Connection
  pub receive : List ℕ
  pub send : List ℕ

abbrev pub world : Connection → List ℕ → List ℕ → World
world c receive send = record { connection = c; receive = receive; send = send }

-- what a call gives
pub record Out (c : Call) : Type 0 where
  pub world : World
  pub answer : Answer c

-- what look and drop say besides the number, and what a look tells
abbrev pub said_by : Shown → Said
said_by s = record { len = s.len; offset = s.offset; message = s.message }

abbrev pub looked : Said → Place → List ℕ → Looked
looked said place scratch = record { said = said; place = place; scratch = scratch }

-- One call, by the definitions that the operations' contracts equal (`Determined.Tied`).
unfoldable pub step : World → (c : Call) → Out c
step w (feed xs) =
    let r = feed_of w.connection w.receive xs in
    record { world = world r.answer.connection r.store w.send; answer = (r.answer.number, r.answer.used) }
step w (look i scratch) =
    let r = look_of w.connection w.receive i scratch in
    record {
      world = world r.answer.connection w.receive w.send;
      answer = (r.answer.shown.number, looked (said_by r.answer.shown) r.answer.place r.scratch);
    }
step w (drop i) =
    let r = drop_of w.connection w.receive i in
    record { world = world r.connection w.receive w.send; answer = (r.shown.number, said_by r.shown) }
step w (put i xs) =
    let r = put_of w.connection w.send i xs in
    record { world = world r.answer.connection w.receive r.store; answer = (r.answer.number, tt) }
step w (next time buf) =
    let r = next_of w.connection w.send time buf in
    record { world = world r.answer.connection w.receive w.send; answer = (r.answer.number, made r.answer.len r.buffer) }
step w status = let r = status_of w.connection in record { world = w; answer = (r.number, r) }

-- the number that a call answers
abbrev pub answers : World → Call → ℕ
answers w c = (step w c).answer.0

-- the world that calls, one after the other, leave
unfoldable pub run : World → List Call → World
run w [] = w
run w (c ∷ cs) = run (step w c).world cs

-- What every call is that can be made: its bytes are bytes, and the time has 32 bits.
abbrev pub Real : Call → Type 0
Real (feed xs) = Bytes xs
Real (look i scratch) = Bytes scratch
Real (drop i) = Unit {0}
Real (put i xs) = Bytes xs
Real (next time buf) = (time < 2 ^ 32) × Bytes buf
Real status = Unit {0}

-- each of a list
abbrev pub All : {A : Type 0} → (A → Type 0) → List A → Type 0
All P [] = Unit {0}
All P (x ∷ xs) = P x × All P xs

unfoldable pub AllReal : List Call → Type 0
AllReal cs = All Real cs

-- An open answered 0, with what every call of open has: arrays with room for the largest bundle.
pub record Opened (s : Settings) (receive send : List ℕ) : Type 0 where
  pub receives : length s.receive ≡ most
  pub sends : length s.send ≡ most
  pub done : (open_of s (length receive) (length send)).number ≡ 0

-- the world that open leaves
abbrev pub first : Settings → List ℕ → List ℕ → World
first s receive send = world (open_of s (length receive) (length send)).connection receive send
