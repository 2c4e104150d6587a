-- A message of which nothing is said yet, and one in which a number or a place more is said.
use Rattle.std.specs.Prelude.{ℕ, ◌+◌, ◌*◌, [], ◌∷◌, set}
use Rattle.messages.specs.declared.Message.{Message}

-- A message of a kind of which nothing is said yet.
abbrev pub begun : ℕ → Message
begun k = record { kind = k; numbers = 0 ∷ 0 ∷ 0 ∷ []; count = 0; places = 0 ∷ 0 ∷ 0 ∷ 0 ∷ []; parts = 0 }

-- One number more, or one place more.
abbrev pub with_number : Message → ℕ → Message
with_number m v =
    record { kind = m.kind; numbers = set m.numbers m.count v; count = m.count + 1; places = m.places; parts = m.parts }

abbrev pub with_place : Message → ℕ → ℕ → Message
with_place m start size =
    record {
      kind = m.kind;
      numbers = m.numbers;
      count = m.count;
      places = set (set m.places (m.parts * 2) start) (m.parts * 2 + 1) size;
      parts = m.parts + 1;
    }
