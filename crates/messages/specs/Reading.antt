-- What reading a message answers, in phases.
use Rattle.std.specs.Prelude.{ℕ, ◌+◌, Bool, false, cond, List, [], ◌∷◌, eqb, length, get_or, Result, Ok, Err, Option, Some, None}
use Rattle.item.specs.Verdict.{verdict, Verdict}
use Rattle.rows.specs.declared.Protocol.{Protocol}
use Rattle.rows.specs.declared.Protocol.TheVariants.{Handshake, ChainSync, BlockFetch, TxSubmission, KeepAlive, LocalTxSubmission, LocalStateQuery}
use Rattle.elements.specs.declared.Element.TheVariants as element
use Rattle.elements.specs.declared.Extent.{Extent}
use Rattle.elements.specs.declared.Extent.TheVariants.{Counted, Open, Rest}
use Rattle.elements.specs.declared.Field.{Field}
use Rattle.elements.specs.declared.Part.{Part}
use Rattle.elements.specs.declared.Part.TheVariants as part
use Rattle.messages.specs.declared.Message.{Message}
use Rattle.messages.specs.declared.Unread.{Unread}
use Rattle.messages.specs.declared.Unread.TheVariants.{NotArray, UnknownKind, WrongCount, WrongField}
use Rattle.messages.specs.Forms.{form_of}
use Rattle.elements.specs.Matching.{array, in_message}
use Rattle.elements.specs.Reading.{on_pair, unsigned_at, opens_at, elements_of, part_of}
use Rattle.messages.specs.Matching.{begun, with_number, with_place}

abbrev pub read : Message → Result Message Unread
read m = Ok m

-- What is said, and where the bytes are no message, nothing.
abbrev pub said_in : Result Message Unread → Message
said_in (Ok m) = m
said_in (Err why) = begun 0

-- The message so far with what a field says.
abbrev pub with_part : Message → Part → Message
with_part m (part.Number v) = with_number m v
with_part m (part.Place a l) = with_place m a l

-- The fields from left to right, the first of them, element i, at place p.
unfoldable pub fields_of : List ℕ → List Field → ℕ → ℕ → Message → Result Message Unread
fields_of bs [] i p m = read m
fields_of bs (f ∷ fs) i p m = on_pair (Err (WrongField i)) (part_of bs f p) (λ x q. fields_of bs fs (i + 1) q (with_part m x))

-- The count of elements, the kind's own included.
abbrev pub counted : List ℕ → ℕ → ℕ → ℕ → Option (List Field) → Result Message Unread
counted bs n kind p None = Err UnknownKind
counted bs n kind p (Some fs) = cond (eqb n (length fs + 1)) (fields_of bs fs 1 p (begun kind)) (Err WrongCount)

-- The kind, which opens an array of n elements.
unfoldable pub numbered_of : Protocol → List ℕ → ℕ → ℕ → Result Message Unread
numbered_of p bs n a = on_pair (Err NotArray) (unsigned_at bs a) (λ kind b. counted bs n kind b (form_of p kind))

-- How many elements the array has, the first of them at place a: as many as its head says, or as stand in front of its break.
abbrev pub count_from : List ℕ → Extent → ℕ → ℕ
count_from bs (Counted n) a = n
count_from bs Open a = on_pair 0 (elements_of bs in_message element.Item Open a) (λ k q. k)
count_from bs Rest a = 0

-- The bytes are exactly one item. Where they are bad, the verdict has the offset; put and build have no use for it (K3).
abbrev pub wholly : Verdict → ℕ → Bool
wholly (Ok q) n = eqb q n
wholly (Err e) n = false

-- What reading answers: exactly one item; an array that an unsigned number opens; of a kind that the protocol has; with
-- as many elements as the form; and these are the form's.
unfoldable pub message_of : Protocol → List ℕ → Result Message Unread
message_of p bs =
    cond (wholly (verdict bs) (length bs))
    (on_pair (Err NotArray) (opens_at bs array 0) (λ x a. numbered_of p bs (count_from bs x a) a))
    (Err NotArray)

-- RequestTxIds counts as two messages by its bool: the flag by which the rows tell them apart.
unfoldable pub flag_of : Protocol → Message → ℕ
flag_of Handshake m = 0
flag_of ChainSync m = 0
flag_of BlockFetch m = 0
flag_of TxSubmission m = cond (eqb m.kind 0) (get_or m.numbers 0 0) 0
flag_of KeepAlive m = 0
flag_of LocalTxSubmission m = 0
flag_of LocalStateQuery m = 0
