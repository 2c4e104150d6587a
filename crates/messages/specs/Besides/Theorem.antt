-- Reading finds exactly the messages (T7), as statements; the proofs are in proofs/Theorem.antt.
use Rattle.std.specs.Prelude.{ℕ, ◌≡◌, ◌↔◌, List}
use Rattle.item.specs.Grammar.{Item, nesting}
use Rattle.rows.specs.declared.Protocol.{Protocol}
use Rattle.messages.specs.declared.Message.{Message}
use Rattle.elements.specs.Besides.Matching.{Value}
use Rattle.messages.specs.Besides.Matching.{Matches, message_from}
use Rattle.messages.specs.Reading.{message_of, read}

-- The bytes are a message of the protocol that says this.
abbrev pub Says : Protocol → List ℕ → Message → Type 0
Says p bs m = (kind : ℕ) × (xs : List Value) × Matches p bs kind xs × (m ≡ message_from kind xs)

-- Reading answers a message if and only if the bytes match the form of its kind, with these numbers and places.
abbrev pub ReadsForms : Type 0
ReadsForms = (p : Protocol) (bs : List ℕ) (m : Message) → (message_of p bs ≡ read m) ↔ Says p bs m

-- Bytes match in one way only.
abbrev pub OneMatch : Type 0
OneMatch =
    (p : Protocol) (bs : List ℕ) (kind other : ℕ) (xs ys : List Value) → Matches p bs kind xs → Matches p bs other ys
    → (kind ≡ other) × (xs ≡ ys)

-- A message is one well-formed item within the nesting.
abbrev pub MessageIsItem : Type 0
MessageIsItem = (p : Protocol) (bs : List ℕ) (kind : ℕ) (xs : List Value) → Matches p bs kind xs → Item nesting bs
