-- T8: what the rows say, as a statement, with dialogues through every row.
use Rattle.std.specs.Prelude.{ℕ, ◌+◌, ◌≤◌, ◌<◌, ◌≡◌, true, List, [], ◌∷◌, map, length, get_or, Option, Some, None}
use Rattle.rows.specs.declared.Protocol.{Protocol}
use Rattle.rows.specs.declared.Protocol.TheVariants.{Handshake, ChainSync, BlockFetch, TxSubmission, KeepAlive, LocalTxSubmission, LocalStateQuery}
use Rattle.rows.specs.declared.Agency.TheVariants.{Nobody}
use Rattle.rows.specs.declared.Row.{Row}
use Rattle.rows.specs.Rows.{moves, done_of, rows_of, fits, next_of, agency_of}

-- row i of a protocol
abbrev pub row_in : Protocol → ℕ → Row
row_in p i = get_or (rows_of p) i (record { state = 0; agency = Nobody; kind = 0; flag = 0; next = 0 })

-- where messages lead that are said one after the other, each by its kind and flag, from a state on
abbrev pub on_next : Option ℕ → (ℕ → Option ℕ) → Option ℕ
on_next (Some n) k = k n
on_next None k = None

unfoldable pub talk : Protocol → ℕ → List (ℕ × ℕ) → Option ℕ
talk p s [] = Some s
talk p s (m ∷ ms) = on_next (next_of p s m.0 m.1) (λ n. talk p n ms)

abbrev pub plain : List ℕ → List (ℕ × ℕ)
plain ks = map (λ k. (k, 0)) ks

-- Dialogues from the first state on, through every row.
abbrev pub dialogues : Protocol → List (List (ℕ × ℕ))
-- Propose, Accept; Propose, Refuse
dialogues Handshake = plain (0 ∷ 1 ∷ []) ∷ plain (0 ∷ 2 ∷ []) ∷ []
-- RequestNext, AwaitReply, RollForward; RequestNext, AwaitReply, RollBackward; RequestNext, RollForward; RequestNext, RollBackward;
-- FindIntersect, IntersectFound; FindIntersect, IntersectNotFound; Done
dialogues ChainSync = plain (0 ∷ 1 ∷ 2 ∷ 0 ∷ 1 ∷ 3 ∷ 0 ∷ 2 ∷ 0 ∷ 3 ∷ 4 ∷ 5 ∷ 4 ∷ 6 ∷ 7 ∷ []) ∷ []
-- RequestRange, NoBlocks; RequestRange, StartBatch, Block, Block, BatchDone; ClientDone
dialogues BlockFetch = plain (0 ∷ 3 ∷ 0 ∷ 2 ∷ 4 ∷ 4 ∷ 5 ∷ 1 ∷ []) ∷ []
-- Init; RequestTxIds with true, ReplyTxIds; RequestTxIds with false, ReplyTxIds; RequestTxs, ReplyTxs; RequestTxIds with true, Done
dialogues TxSubmission = ((6, 0) ∷ (0, 1) ∷ (1, 0) ∷ (0, 0) ∷ (1, 0) ∷ (2, 0) ∷ (3, 0) ∷ (0, 1) ∷ (4, 0) ∷ []) ∷ []
-- KeepAlive, Response; Done
dialogues KeepAlive = plain (0 ∷ 1 ∷ 2 ∷ []) ∷ []
-- Submit, Accept; Submit, Reject; Done
dialogues LocalTxSubmission = plain (0 ∷ 1 ∷ 0 ∷ 2 ∷ 3 ∷ []) ∷ []
-- Acquire, Failure; Acquire of no item, Acquired; Query, Result; ReAcquire, Acquired; ReAcquire of no item, Acquired; Release; Done
dialogues LocalStateQuery = plain (0 ∷ 2 ∷ 8 ∷ 1 ∷ 3 ∷ 4 ∷ 6 ∷ 1 ∷ 9 ∷ 1 ∷ 5 ∷ 7 ∷ []) ∷ []

-- T8: what the rows say, thirty of node to node and fourteen more.
pub record RowsSay : Type 0 where
  pub thirty : length (moves Handshake) + length (moves ChainSync) + length (moves BlockFetch) + length (moves TxSubmission) + length (moves KeepAlive) ≡ 30
  pub fourteen : length (moves LocalTxSubmission) + length (moves LocalStateQuery) ≡ 14
  -- no two rows of a protocol agree in state and message
  pub one : (p : Protocol) (i j : ℕ) → i < length (rows_of p) → j < length (rows_of p)
      → fits (row_in p i).state (row_in p i).kind (row_in p i).flag (row_in p j) ≡ true → i ≡ j
  -- who has agency depends on protocol and state alone
  pub agreed : (p : Protocol) (i : ℕ) → i < length (rows_of p) → agency_of p (row_in p i).state ≡ (row_in p i).agency
  -- a message leads where its row says, and nowhere without a row
  pub leads : (p : Protocol) (i : ℕ) → i < length (rows_of p) → next_of p (row_in p i).state (row_in p i).kind (row_in p i).flag ≡ Some (row_in p i).next
  pub only : (p : Protocol) (s k f n : ℕ) → next_of p s k f ≡ Some n
      → (i : ℕ) × (i < length (rows_of p)) × (fits s k f (row_in p i) ≡ true) × ((row_in p i).next ≡ n)
  -- every state but Done has an agent; Done, which is the last, has none, and no row leaves it
  pub last : (p : Protocol) (i : ℕ) → i < length (rows_of p) → ((row_in p i).state < done_of p) × ((row_in p i).next ≤ done_of p)
  pub ended : (p : Protocol) → agency_of p (done_of p) ≡ Nobody
  pub going : (p : Protocol) (s : ℕ) → s < done_of p → agency_of p s ≡ Nobody → ⊥
  -- each dialogue ends at Done
  pub talked : (p : Protocol) (i : ℕ) → i < length (dialogues p) → talk p 0 (get_or (dialogues p) i []) ≡ Some (done_of p)
