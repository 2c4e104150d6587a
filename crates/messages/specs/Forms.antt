-- The forms (document 01, "Messages and transitions"; for K1's protocols document 000, 3.11 and 3.12, as docs/DECISIONS.md reads them): what
-- stands behind each message number of each protocol.
use Rattle.std.specs.Prelude.{ℕ, cond, List, [], ◌∷◌, eqb, Option, Some, None}
use Rattle.rows.specs.declared.Protocol.{Protocol}
use Rattle.rows.specs.declared.Protocol.TheVariants.{Handshake, ChainSync, BlockFetch, TxSubmission, KeepAlive, LocalTxSubmission, LocalStateQuery}
use Rattle.elements.specs.declared.Element.TheVariants as element
use Rattle.elements.specs.declared.Field.{Field}
use Rattle.elements.specs.declared.Field.TheVariants as field
use Rattle.elements.specs.Matching.{versions, words, failures}

-- A message is an array of its number and these fields.
pub record Form : Type 0 where
  pub kind : ℕ
  pub fields : List Field

abbrev pub form : ℕ → List Field → Form
form k fs = record { kind = k; fields = fs }

-- what the forms name: an item; a list of items, and of pairs [item, size]; the version map; w, a version and failure, each below its limit; a bool
abbrev pub item : Field
item = field.Item

abbrev pub list : Field
list = field.List element.Item

abbrev pub pairs : Field
pairs = field.List element.Pair

abbrev pub map : Field
map = field.List element.Version

abbrev pub w : Field
w = field.Below words

abbrev pub version : Field
version = field.Below versions

abbrev pub failure : Field
failure = field.Below failures

abbrev pub bool : Field
bool = field.Bool

-- the forms, in document 01's order, and then K1's
abbrev pub forms : Protocol → List Form
-- 0 Propose [0, map]; 1 Accept [1, version, item]; 2 Refuse [2, item]
forms Handshake = form 0 (map ∷ []) ∷ form 1 (version ∷ item ∷ []) ∷ form 2 (item ∷ []) ∷ []
-- 0 RequestNext; 1 AwaitReply; 2 RollForward [2, item, item]; 3 RollBackward [3, item, item]; 4 FindIntersect [4, list];
-- 5 IntersectFound [5, item, item]; 6 IntersectNotFound [6, item]; 7 Done
forms ChainSync =
    form 0 [] ∷ form 1 [] ∷ form 2 (item ∷ item ∷ []) ∷ form 3 (item ∷ item ∷ []) ∷ form 4 (list ∷ [])
    ∷ form 5 (item ∷ item ∷ []) ∷ form 6 (item ∷ []) ∷ form 7 [] ∷ []
-- 0 RequestRange [0, item, item]; 1 ClientDone; 2 StartBatch; 3 NoBlocks; 4 Block [4, item]; 5 BatchDone
forms BlockFetch =
    form 0 (item ∷ item ∷ []) ∷ form 1 [] ∷ form 2 [] ∷ form 3 [] ∷ form 4 (item ∷ []) ∷ form 5 [] ∷ []
-- 6 Init; 0 RequestTxIds [0, bool, w, w]; 1 ReplyTxIds [1, list of [item, size]]; 2 RequestTxs [2, list]; 3 ReplyTxs [3, list]; 4 Done
forms TxSubmission =
    form 6 [] ∷ form 0 (bool ∷ w ∷ w ∷ []) ∷ form 1 (pairs ∷ []) ∷ form 2 (list ∷ []) ∷ form 3 (list ∷ []) ∷ form 4 [] ∷ []
-- 0 KeepAlive [0, w]; 1 Response [1, w]; 2 Done
forms KeepAlive = form 0 (w ∷ []) ∷ form 1 (w ∷ []) ∷ form 2 [] ∷ []
-- 0 Submit [0, item]; 1 Accept; 2 Reject [2, item]; 3 Done
forms LocalTxSubmission = form 0 (item ∷ []) ∷ form 1 [] ∷ form 2 (item ∷ []) ∷ form 3 [] ∷ []
-- 0 Acquire [0, item]; 8 Acquire; 1 Acquired; 2 Failure [2, failure]; 3 Query [3, item]; 4 Result [4, item]; 6 ReAcquire [6, item];
-- 9 ReAcquire; 5 Release; 7 Done
forms LocalStateQuery =
    form 0 (item ∷ []) ∷ form 8 [] ∷ form 1 [] ∷ form 2 (failure ∷ []) ∷ form 3 (item ∷ []) ∷ form 4 (item ∷ []) ∷ form 6 (item ∷ [])
    ∷ form 9 [] ∷ form 5 [] ∷ form 7 [] ∷ []

unfoldable pub form_in : ℕ → List Form → Option (List Field)
form_in k [] = None
form_in k (f ∷ fs) = cond (eqb f.kind k) (Some f.fields) (form_in k fs)

-- the fields of a message of a kind, if the protocol has it
abbrev pub form_of : Protocol → ℕ → Option (List Field)
form_of p k = form_in k (forms p)
