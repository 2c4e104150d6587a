-- Transitions (document 01, "Messages and transitions"; for K1's protocols document 000, 3.11 and 3.12, as docs/DECISIONS.md reads them): the
-- rows, by the names of their states, and what they say by number.
use Rattle.std.specs.Prelude.{ℕ, suc, Bool, cond, ◌&&◌, List, [], ◌∷◌, map, eqb, Option, Some, None}
use Rattle.rows.specs.declared.Protocol.{Protocol}
use Rattle.rows.specs.declared.Protocol.TheVariants.{Handshake, ChainSync, BlockFetch, TxSubmission, KeepAlive, LocalTxSubmission, LocalStateQuery}
use Rattle.rows.specs.declared.Agency.{Agency}
use Rattle.rows.specs.declared.Agency.TheVariants.{Initiator, Responder, Nobody}
use Rattle.rows.specs.declared.Row.{Row}

pub data State : Type 0 where
  Propose Confirm Idle CanAwait MustReply Intersect Busy Streaming Init Blocking NonBlocking Txs Client Server Acquiring Acquired Querying Done : State

-- C marks initiator agency, S responder agency.
abbrev C : Agency
C = Initiator

abbrev S : Agency
S = Responder

-- In a state, whose agency it is, the message of this number leads to the next state. The flag is a bool's value, and 0 for a message without one.
pub record Move : Type 0 where
  pub state : State
  pub agency : Agency
  pub kind : ℕ
  pub flag : ℕ
  pub next : State

abbrev pub move : State → Agency → ℕ → State → Move
move s a k n = record { state = s; agency = a; kind = k; flag = 0; next = n }

abbrev pub move_if : State → Agency → ℕ → ℕ → State → Move
move_if s a k f n = record { state = s; agency = a; kind = k; flag = f; next = n }

-- the rows, in document 01's order, and then K1's
abbrev pub moves : Protocol → List Move
-- Propose(C) 0 to Confirm; Confirm(S) 1 or 2 to Done
moves Handshake = move Propose C 0 Confirm ∷ move Confirm S 1 Done ∷ move Confirm S 2 Done ∷ []
-- Idle(C) 0 to CanAwait, 4 to Intersect, 7 to Done; CanAwait(S) 1 to MustReply, 2 or 3 to Idle; MustReply(S) 2 or 3 to Idle; Intersect(S) 5 or 6 to Idle
moves ChainSync =
    move Idle C 0 CanAwait ∷ move Idle C 4 Intersect ∷ move Idle C 7 Done
    ∷ move CanAwait S 1 MustReply ∷ move CanAwait S 2 Idle ∷ move CanAwait S 3 Idle
    ∷ move MustReply S 2 Idle ∷ move MustReply S 3 Idle
    ∷ move Intersect S 5 Idle ∷ move Intersect S 6 Idle ∷ []
-- Idle(C) 0 to Busy, 1 to Done; Busy(S) 2 to Streaming, 3 to Idle; Streaming(S) 4 stays, 5 to Idle
moves BlockFetch =
    move Idle C 0 Busy ∷ move Idle C 1 Done
    ∷ move Busy S 2 Streaming ∷ move Busy S 3 Idle
    ∷ move Streaming S 4 Streaming ∷ move Streaming S 5 Idle ∷ []
-- Init(C) 6 to Idle; Idle(S) 0 with true to Blocking, 0 with false to NonBlocking, 2 to Txs; Blocking(C) 1 to Idle, 4 to Done; NonBlocking(C) 1 to Idle; Txs(C) 3 to Idle
moves TxSubmission =
    move Init C 6 Idle
    ∷ move_if Idle S 0 1 Blocking ∷ move_if Idle S 0 0 NonBlocking ∷ move Idle S 2 Txs
    ∷ move Blocking C 1 Idle ∷ move Blocking C 4 Done
    ∷ move NonBlocking C 1 Idle
    ∷ move Txs C 3 Idle ∷ []
-- Client(C) 0 to Server, 2 to Done; Server(S) 1 to Client
moves KeepAlive = move Client C 0 Server ∷ move Client C 2 Done ∷ move Server S 1 Client ∷ []
-- Idle(C) 0 to Busy, 3 to Done; Busy(S) 1 or 2 to Idle
moves LocalTxSubmission = move Idle C 0 Busy ∷ move Idle C 3 Done ∷ move Busy S 1 Idle ∷ move Busy S 2 Idle ∷ []
-- Idle(C) 0 or 8 to Acquiring, 7 to Done; Acquiring(S) 1 to Acquired, 2 to Idle; Acquired(C) 3 to Querying, 6 or 9 to Acquiring, 5 to Idle;
-- Querying(S) 4 to Acquired
moves LocalStateQuery =
    move Idle C 0 Acquiring ∷ move Idle C 8 Acquiring ∷ move Idle C 7 Done
    ∷ move Acquiring S 1 Acquired ∷ move Acquiring S 2 Idle
    ∷ move Acquired C 3 Querying ∷ move Acquired C 6 Acquiring ∷ move Acquired C 9 Acquiring ∷ move Acquired C 5 Idle
    ∷ move Querying S 4 Acquired ∷ []

-- States are numbered in row order, Done last.
abbrev pub states : Protocol → List State
states Handshake = Propose ∷ Confirm ∷ Done ∷ []
states ChainSync = Idle ∷ CanAwait ∷ MustReply ∷ Intersect ∷ Done ∷ []
states BlockFetch = Idle ∷ Busy ∷ Streaming ∷ Done ∷ []
states TxSubmission = Init ∷ Idle ∷ Blocking ∷ NonBlocking ∷ Txs ∷ Done ∷ []
states KeepAlive = Client ∷ Server ∷ Done ∷ []
states LocalTxSubmission = Idle ∷ Busy ∷ Done ∷ []
states LocalStateQuery = Idle ∷ Acquiring ∷ Acquired ∷ Querying ∷ Done ∷ []

-- a number for each name, so that names can be told apart
abbrev pub order : State → ℕ
order Propose = 0
order Confirm = 1
order Idle = 2
order CanAwait = 3
order MustReply = 4
order Intersect = 5
order Busy = 6
order Streaming = 7
order Init = 8
order Blocking = 9
order NonBlocking = 10
order Txs = 11
order Client = 12
order Server = 13
order Acquiring = 14
order Acquired = 15
order Querying = 16
order Done = 17

-- the place of a state in a list of states
unfoldable pub place_in : State → List State → ℕ
place_in s [] = 0
place_in s (t ∷ ts) = cond (eqb (order s) (order t)) 0 (suc (place_in s ts))

abbrev pub state_number : Protocol → State → ℕ
state_number p s = place_in s (states p)

-- the state that every protocol ends in
abbrev pub done_of : Protocol → ℕ
done_of p = state_number p Done

-- a row by number
abbrev pub row_of : Protocol → Move → Row
row_of p m = record { state = state_number p m.state; agency = m.agency; kind = m.kind; flag = m.flag; next = state_number p m.next }

-- the rows of a protocol by number
abbrev pub rows_of : Protocol → List Row
rows_of p = map (row_of p) (moves p)

-- the row of a message in a state
abbrev pub fits : ℕ → ℕ → ℕ → Row → Bool
fits s k f r = eqb r.state s && (eqb r.kind k && eqb r.flag f)

unfoldable pub next_in : ℕ → ℕ → ℕ → List Row → Option ℕ
next_in s k f [] = None
next_in s k f (r ∷ rs) = cond (fits s k f r) (Some r.next) (next_in s k f rs)

-- where a message leads in a state: no transition outside the rows
abbrev pub next_of : Protocol → ℕ → ℕ → ℕ → Option ℕ
next_of p s k f = next_in s k f (rows_of p)

unfoldable pub agency_in : ℕ → List Row → Agency
agency_in s [] = Nobody
agency_in s (r ∷ rs) = cond (eqb r.state s) r.agency (agency_in s rs)

-- who may send in a state; nobody at Done
abbrev pub agency_of : Protocol → ℕ → Agency
agency_of p s = agency_in s (rows_of p)
