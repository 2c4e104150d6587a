-- Which number put answers, exactly when (document 01, "Numbers and their order"), and what a call leaves, as statements.
use Rattle.std.specs.Prelude.{ℕ, ◌+◌, ◌<◌, ◌≤◌, ◌≡◌, true, false, List, ◌↔◌, length, get_or}
use Rattle.wire.specs.Instances.{instances, handshake}
use Rattle.messages.specs.declared.Message.{Message}
use Rattle.connection.specs.declared.Connection.{Connection}
use Rattle.connection.specs.Shapes.{Shaped}
use Rattle.range.specs.Ranges.{sends}
use Rattle.range.specs.Besides.Ranges.{InSend}
use Rattle.judging.specs.declared.Outcome.{Outcome}
use Rattle.judging.specs.Judging.{view_of, outcome_number}
use Rattle.judging.specs.Besides.Saying.{Moves, Unsaid}
use Rattle.putting.specs.declared.Queued.{Queued}
use Rattle.putting.specs.Putting.{Told, told, put_of}

-- An instance of a record in range with its send store, and a message with a row in the present state, that is not a Handshake message above S.
pub record InOneSegment (c : Connection) (store : List ℕ) (i : ℕ) (xs : List ℕ) (m : Message) (next : ℕ) : Type 0 where
  pub asked : InSend c store i
  pub moves : Moves (view_of c i xs) m next
  pub short : i ≡ handshake → length xs ≤ c.settings.limit

-- T2: when each number is answered, in document 01's order
pub data When (c : Connection) (store : List ℕ) (i : ℕ) (xs : List ℕ) : ℕ → Type 0 where
  out_of_range : sends c (length store) ≡ false → When c store i xs 23
  no_instance : sends c (length store) ≡ true → instances c.settings.party.bundle ≤ i → When c store i xs 10
  -- 20; 19; 21; 15; 16: `Unsaid` says when
  unsaid : {o : Outcome} → InSend c store i → Unsaid (view_of c i xs) o → When c store i xs (outcome_number o)
  -- a Handshake message above S
  above_limit : {m : Message} {next : ℕ} → InSend c store i → Moves (view_of c i xs) m next → i ≡ handshake → c.settings.limit < length xs
      → When c store i xs 24
  -- waiting bytes and message above the capacity
  above_capacity : {m : Message} {next : ℕ} → InOneSegment c store i xs m next
      → get_or c.settings.send i 0 < get_or c.sending.waiting i 0 + length xs → When c store i xs 22
  done : {m : Message} {next : ℕ} → InOneSegment c store i xs m next
      → get_or c.sending.waiting i 0 + length xs ≤ get_or c.settings.send i 0 → When c store i xs 0

abbrev pub Exactly : Type 0
Exactly = (c : Connection) (store : List ℕ) (i : ℕ) (xs : List ℕ) (n : ℕ) → ((put_of c store i xs).answer.number ≡ n) ↔ When c store i xs n

-- T3: with any number but 0, record and store are as they were; what 0 leaves is in the contract
abbrev pub Untouched : Type 0
Untouched =
    (c : Connection) (store : List ℕ) (i : ℕ) (xs : List ℕ) (r : Queued) (after : List ℕ) → told r after ≡ put_of c store i xs
    → (r.number ≡ 0 → ⊥) → (r.connection ≡ c) × (after ≡ store)

-- in range with its store again, with the same settings
pub record Kept (c : Connection) (store : List ℕ) (t : Told) : Type 0 where
  pub ranged : sends t.answer.connection (length t.store) ≡ true
  pub shaped : Shaped t.answer.connection
  pub long : length t.store ≡ length store
  pub set : t.answer.connection.settings ≡ c.settings

-- a record in range with its store stays so (for T10)
abbrev pub Keeps : Type 0
Keeps = (c : Connection) (store : List ℕ) (i : ℕ) (xs : List ℕ) → Shaped c → sends c (length store) ≡ true → Kept c store (put_of c store i xs)
