-- Which number drop answers, exactly when (document 01, "Numbers and their order"), and what a call leaves, as statements.
use Rattle.std.specs.Prelude.{ℕ, ◌≡◌, true, false, List, ◌++◌, ◌↔◌, length}
use Rattle.messages.specs.declared.Message.{Message}
use Rattle.connection.specs.declared.Connection.{Connection}
use Rattle.connection.specs.declared.Closing.TheVariants.{Of}
use Rattle.connection.specs.Shapes.{Shaped}
use Rattle.connection.specs.Closings.{closed_by, heard_fault}
use Rattle.connection.specs.Parts.{with_gate, first_held, held_of}
use Rattle.range.specs.Ranges.{in_range, receives}
use Rattle.judging.specs.declared.Outcome.{Outcome}
use Rattle.judging.specs.Judging.{outcome_number, leading}
use Rattle.hearing.specs.Besides.Numbers as hearing
use Rattle.hearing.specs.Besides.Numbers.{Unshown, Found, Offset, bare}
use Rattle.dropping.specs.declared.Dropped.{Dropped}
use Rattle.dropping.specs.Dropping.{handed, drop_of}

-- T2: when each number is answered, in document 01's order
pub data When (c : Connection) (store : List ℕ) (i : ℕ) : ℕ → Type 0 where
  -- 23; 10; 19; 3; 17; 2; 1 or 20; 14; 15; 16: `Unshown` says when
  refused : {o : Outcome} → Unshown c store i o → When c store i (outcome_number o)
  done : {n next : ℕ} {m : Message} → Found c store i n m next → When c store i 0

abbrev pub Exactly : Type 0
Exactly = (c : Connection) (store : List ℕ) (i n : ℕ) → ((drop_of c store i).shown.number ≡ n) ↔ When c store i n

-- T3: a fault closes, with its number and instance, where no closing was, and changes nothing else; every other number but 0 changes nothing
pub record Leaves (c : Connection) (i : ℕ) (r : Dropped) : Type 0 where
  pub fault : heard_fault r.shown.number ≡ true
      → r ≡ record { shown = bare r.shown.number r.shown.offset; connection = with_gate c (closed_by c.gate (Of r.shown.number i)) }
  pub other : (r.shown.number ≡ 0 → ⊥) → heard_fault r.shown.number ≡ false → r ≡ record { shown = bare r.shown.number 0; connection = c }

abbrev pub LeavesAll : Type 0
LeavesAll = (c : Connection) (store : List ℕ) (i : ℕ) → Leaves c i (drop_of c store i)

-- with 0 the answer is the message that the first bytes held spell, with its length; these bytes are freed, and the state is where it leads
abbrev pub Drops : Type 0
Drops =
    (c : Connection) (store : List ℕ) (i : ℕ) → (drop_of c store i).shown.number ≡ 0
    → (n : ℕ) × (m : Message) × (next : ℕ) × Found c store i n m next
    × (drop_of c store i ≡ record { shown = hearing.done n m; connection = handed c i (leading n m next) })

-- what was held is what is freed, and what is held then
abbrev pub Frees : Type 0
Frees =
    (c : Connection) (store : List ℕ) (i : ℕ) → Shaped c → (drop_of c store i).shown.number ≡ 0
    → held_of c store i ≡ first_held c store i (drop_of c store i).shown.len ++ held_of (drop_of c store i).connection store i

-- K3: which byte
abbrev pub WhichByte : Type 0
WhichByte = (c : Connection) (store : List ℕ) (i : ℕ) → Offset (held_of c store i) (drop_of c store i).shown

-- a record in range stays in range (for T10)
abbrev pub Keeps : Type 0
Keeps =
    (c : Connection) (store : List ℕ) (i : ℕ) → Shaped c → receives c (length store) ≡ true
    → let k = (drop_of c store i).connection in (in_range k ≡ true) × Shaped k
