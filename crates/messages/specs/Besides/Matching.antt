-- What it is for bytes to match a form, field by field, and what the message then says. Places are counted from the
-- message's first byte, which is at place 0.
use Rattle.std.specs.Prelude.{ℕ, ◌+◌, ◌≡◌, List, [], ◌∷◌, length, Some}
use Rattle.elements.specs.declared.Extent.{Extent}
use Rattle.elements.specs.declared.Field.{Field}
use Rattle.elements.specs.Besides.Matching.{Value, number, place, UnsignedAt, Opens, Closes, FieldAt}
use Rattle.elements.specs.Matching.{past, array}
use Rattle.rows.specs.declared.Protocol.{Protocol}
use Rattle.messages.specs.declared.Message.{Message}
use Rattle.messages.specs.Forms.{form_of}
use Rattle.messages.specs.Matching.{begun, with_number, with_place}

-- The fields stand one after the other.
pub data FieldsAt (bs : List ℕ) : List Field → ℕ → List Value → ℕ → Type 0 where
  no_field : {p : ℕ} → FieldsAt bs [] p [] p
  a_field : {f : Field} {fs : List Field} {p q r : ℕ} {x : Value} {xs : List Value} → FieldAt bs f p x q → FieldsAt bs fs q xs r
      → FieldsAt bs (f ∷ fs) p (x ∷ xs) r

-- The bytes are the protocol's message of this kind, whose fields say xs: an array of the kind and the form's fields, of definite or of
-- indefinite length, with nothing behind.
pub record Matches (p : Protocol) (bs : List ℕ) (kind : ℕ) (xs : List Value) : Type 0 where
  pub fields : List Field
  pub extent : Extent
  pub first : ℕ
  pub second : ℕ
  pub last : ℕ
  pub form : form_of p kind ≡ Some fields
  pub opens : Opens bs array 0 extent first
  pub named : UnsignedAt bs first kind second
  pub matched : FieldsAt bs fields second xs last
  pub closes : Closes bs extent (length fields + 1) last
  pub whole : past extent last ≡ length bs

abbrev pub saying : Message → Value → Message
saying m (number v) = with_number m v
saying m (place start size) = with_place m start size

-- The message in which the values are said, in their order.
unfoldable pub said_all : Message → List Value → Message
said_all m [] = m
said_all m (x ∷ xs) = said_all (saying m x) xs

abbrev pub message_from : ℕ → List Value → Message
message_from kind xs = said_all (begun kind) xs
