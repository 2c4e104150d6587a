-- What look, drop and put ask, of one instance (document 01, "Messages and transitions" and "Numbers and their order", where look and drop are take;
-- document 02, K1, K3 and K4). They apply it to the view that the record gives of the instance.
use Rattle.std.specs.Prelude.{ℕ, Bool, false, cond, not, ◌&&◌, ◌||◌, List, eqb, length, get_or, set, take, Result, Ok, Err}
use Rattle.wire.specs.declared.instances.Party.{Party}
use Rattle.wire.specs.Instances.{handshake, role_of, initiates}
use Rattle.item.specs.declared.NotWhole.TheVariants.{Bad, Incomplete}
use Rattle.item.specs.Verdict.{verdict, Verdict}
use Rattle.rows.specs.declared.Protocol.{Protocol}
use Rattle.rows.specs.declared.Agency.{Agency}
use Rattle.rows.specs.declared.Agency.TheVariants.{Initiator, Responder, Nobody}
use Rattle.std.specs.Prelude.{Option, Some, None}
use Rattle.rows.specs.Rows.{next_of, agency_of, done_of}
use Rattle.rows.specs.Spoken.{speaks}
use Rattle.messages.specs.declared.Message.{Message}
use Rattle.messages.specs.declared.Unread.{Unread}
use Rattle.messages.specs.Reading.{message_of, flag_of}
use Rattle.connection.specs.declared.Talk.{Talk}
use Rattle.connection.specs.declared.Connection.{Connection}
use Rattle.connection.specs.Closings.{is_open, bytes_bad, no_message, no_row, after_done}
use Rattle.judging.specs.declared.Outcome.{Outcome}
use Rattle.judging.specs.declared.Outcome.TheVariants.{Waiting, OurTurn, Finished, BytesBad, NoMessage, NoRow, AfterDone, NoAccept, Closed, NotOurTurn, OutOfRange, NoInstance, NoRoom}
use Rattle.judging.specs.declared.Judged.{Judged}

-- ---- the view

-- What an answer may rest on: which end we are, of which bundle; the instance, and its state; whether Handshake ended in Accept; whether the connection
-- is closed; and the bytes: those held, for look and drop, and the message, for put.
pub record View : Type 0 where
  pub party : Party
  pub instance : ℕ
  pub state : ℕ
  pub accepted : Bool
  pub closed : Bool
  pub bytes : List ℕ

-- the view that a record gives of instance i, with these bytes
abbrev pub view_of : Connection → ℕ → List ℕ → View
view_of c i bs =
    record {
      party = c.settings.party;
      instance = i;
      state = get_or c.talk.states i 0;
      accepted = c.talk.accepted;
      closed = not (is_open c.gate);
      bytes = bs;
    }

-- ---- what is asked of it

-- the protocol that the instance speaks
abbrev pub spoken : View → Protocol
spoken v = speaks v.party.bundle v.instance

-- C marks initiator agency, S responder agency: whether it is ours, who are initiator or not
abbrev pub holds : Bool → Agency → Bool
holds initiator Initiator = initiator
holds initiator Responder = not initiator
holds initiator Nobody = false

-- whether we have agency in a state of instance i, and in the present one
unfoldable pub ours : Party → ℕ → ℕ → Bool
ours us i state = holds (initiates us.side (role_of us.bundle i)) (agency_of (speaks us.bundle i) state)

abbrev pub ours_now : View → Bool
ours_now v = ours v.party v.instance v.state

-- from instance 1 up, if Handshake hasn't ended in Accept
abbrev pub barred : View → Bool
barred v = not (eqb v.instance handshake) && not v.accepted

-- the protocol has ended
abbrev pub at_done : View → Bool
at_done v = eqb v.state (done_of (spoken v))

-- ---- what comes of it

-- document 01's number of each notice and refusal
abbrev pub outcome_number : Outcome → ℕ
outcome_number Waiting = 1
outcome_number OurTurn = 2
outcome_number Finished = 3
outcome_number (BytesBad at) = bytes_bad
outcome_number (NoMessage why) = no_message
outcome_number NoRow = no_row
outcome_number AfterDone = after_done
outcome_number NoAccept = 19
outcome_number Closed = 20
outcome_number NotOurTurn = 21
outcome_number OutOfRange = 23
outcome_number NoInstance = 10
outcome_number NoRoom = 18

-- K3: with 14 goes the offset of the first byte after which no item is possible, and with every other number 0
abbrev pub outcome_offset : Outcome → ℕ
outcome_offset Waiting = 0
outcome_offset OurTurn = 0
outcome_offset Finished = 0
outcome_offset (BytesBad at) = at
outcome_offset (NoMessage why) = 0
outcome_offset NoRow = 0
outcome_offset AfterDone = 0
outcome_offset NoAccept = 0
outcome_offset Closed = 0
outcome_offset NotOurTurn = 0
outcome_offset OutOfRange = 0
outcome_offset NoInstance = 0
outcome_offset NoRoom = 0

-- ---- judging bytes

-- a message that moves the state, or a notice or refusal
abbrev pub Judgement : Type 0
Judgement = Result Judged Outcome

-- a refusal or a notice; and a message of n bytes that leads to a state
abbrev pub unjudged : Outcome → Judgement
unjudged o = Err o

abbrev pub leading : ℕ → Message → ℕ → Judged
leading n m to = record { len = n; message = m; next = to }

abbrev pub led : ℕ → Message → ℕ → Judgement
led n m to = Ok (leading n m to)

-- the state that it leads to, and 0 without a message
abbrev pub state_next : Judgement → ℕ
state_next (Ok j) = j.next
state_next (Err o) = 0

-- a message of n bytes, by its row in the present state
abbrev pub by_row : ℕ → Message → Option ℕ → Judgement
by_row n m (Some next) = led n m next
by_row n m None = unjudged NoRow

-- what was read, or why nothing was
abbrev pub by_reading : Protocol → ℕ → ℕ → Result Message Unread → Judgement
by_reading p state n (Ok m) = by_row n m (next_of p state m.kind (flag_of p m))
by_reading p state n (Err why) = unjudged (NoMessage why)

-- what bytes are in a state of the protocol: no message; one without a row; or the message that they are, and where it leads
unfoldable pub judged_of : Protocol → ℕ → List ℕ → Judgement
judged_of p state bs = by_reading p state (length bs) (message_of p bs)

-- ---- look, drop and put, up to 16

-- the bytes held, by the verdict on them: incomplete, notice 1, or 20 if closed; bad, 14 and which byte; else 15, 16 or a message
abbrev pub by_verdict : Protocol → ℕ → Bool → List ℕ → Verdict → Judgement
by_verdict p state closed bs (Err Incomplete) = unjudged (cond closed Closed Waiting)
by_verdict p state closed bs (Err (Bad at)) = unjudged (BytesBad at)
by_verdict p state closed bs (Ok n) = judged_of p state (take n bs)

-- look and drop: 19; at Done, notice 3 with nothing held, else 17; our agency, notice 2; and then the bytes decide
unfoldable pub heard : View → Judgement
heard v =
    cond (barred v) (unjudged NoAccept)
    (cond (at_done v) (unjudged (cond (eqb (length v.bytes) 0) Finished AfterDone))
    (cond (ours_now v) (unjudged OurTurn) (by_verdict (spoken v) v.state v.closed v.bytes (verdict v.bytes))))

-- put: 20; 19; 21, not our agency, or Done, where nobody has it; and then the bytes decide, which are one message: 15; 16
unfoldable pub said : View → Judgement
said v =
    cond v.closed (unjudged Closed)
    (cond (barred v) (unjudged NoAccept)
    (cond (ours_now v) (judged_of (spoken v) v.state v.bytes) (unjudged NotOurTurn)))

-- ---- the move

-- whether Handshake has ended in Accept, its message 1, once a message of this kind has moved instance i
abbrev pub marks : Bool → ℕ → ℕ → Bool
marks accepted i kind = accepted || (eqb i handshake && eqb kind 1)

-- the state moves, and Accept is marked
abbrev pub moved_by : Talk → ℕ → ℕ → ℕ → Talk
moved_by t i kind next = record { states = set t.states i next; accepted = marks t.accepted i kind }
