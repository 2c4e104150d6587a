-- Which number next segment answers, exactly when (document 01, "Numbers and their order"), and what a refusal leaves, as statements.
use Rattle.std.specs.Prelude.{ℕ, ◌+◌, ◌<◌, ◌≤◌, ◌≡◌, true, false, List, ◌↔◌, length, get_or}
use Rattle.wire.specs.Segments.{header_length}
use Rattle.wire.specs.Instances.{instances}
use Rattle.std.specs.Prelude.{Some}
use Rattle.connection.specs.declared.Connection.{Connection}
use Rattle.connection.specs.Shapes.{Shaped}
use Rattle.connection.specs.Closings.{is_open}
use Rattle.range.specs.Ranges.{in_range, sends}
use Rattle.sending.specs.declared.Made.{Made}
use Rattle.sending.specs.NextSegment.{told, much, chosen_of, next_of}

-- a record in range with its send store, and not closed
abbrev pub Unclosed : Connection → List ℕ → Type 0
Unclosed c store = (sends c (length store) ≡ true) × (is_open c.gate ≡ true)

-- T2: when each number is answered, in document 01's order
pub data When (c : Connection) (store : List ℕ) (buf : List ℕ) : ℕ → Type 0 where
  out_of_range : sends c (length store) ≡ false → When c store buf 23
  closed : sends c (length store) ≡ true → is_open c.gate ≡ false → When c store buf 20
  all_empty : Unclosed c store → ((i : ℕ) → i < instances c.settings.party.bundle → get_or c.sending.waiting i 0 ≡ 0) → When c store buf 4
  -- the buffer is shorter than header and payload
  no_room : {i : ℕ} → Unclosed c store → chosen_of c ≡ Some i → length buf < header_length + much c i
      → When c store buf 18
  done : {i : ℕ} → Unclosed c store → chosen_of c ≡ Some i → header_length + much c i ≤ length buf
      → When c store buf 0

abbrev pub Exactly : Type 0
Exactly = (c : Connection) (store : List ℕ) (time : ℕ) (buf : List ℕ) → Shaped c → (n : ℕ)
    → ((next_of c store time buf).answer.number ≡ n) ↔ When c store buf n

-- T3: with any number but 0, record and buffer are as they were
abbrev pub Untouched : Type 0
Untouched =
    (c : Connection) (store : List ℕ) (time : ℕ) (buf : List ℕ) (m : Made) (after : List ℕ) → told m after ≡ next_of c store time buf
    → (m.number ≡ 0 → ⊥) → (m.connection ≡ c) × (m.len ≡ 0) × (after ≡ buf)

-- a record in range stays in range (for T10)
abbrev pub Keeps : Type 0
Keeps =
    (c : Connection) (store : List ℕ) (time : ℕ) (buf : List ℕ) → Shaped c → in_range c ≡ true
    → (in_range (next_of c store time buf).answer.connection ≡ true) × Shaped (next_of c store time buf).answer.connection
