-- Which number look answers, exactly when (document 01, "Numbers and their order"; document 02, K4), and what a call leaves, as statements.
use Rattle.std.specs.Prelude.{ℕ, ◌+◌, ◌≤◌, ◌<◌, ◌≡◌, true, false, List, ◌↔◌, length, get_or}
use Rattle.std.proofs.lemmas.List.Edits.{sets}
use Rattle.ring.specs.Ring.{base_of}
use Rattle.messages.specs.declared.Message.{Message}
use Rattle.connection.specs.declared.Connection.{Connection}
use Rattle.connection.specs.declared.Closing.TheVariants.{Of}
use Rattle.connection.specs.Shapes.{Shaped}
use Rattle.connection.specs.Closings.{closed_by, heard_fault}
use Rattle.connection.specs.Parts.{with_gate, first_held, held_of}
use Rattle.range.specs.Ranges.{in_range, receives}
use Rattle.judging.specs.declared.Outcome.{Outcome}
use Rattle.judging.specs.Judging.{outcome_number}
use Rattle.hearing.specs.Besides.Numbers as hearing
use Rattle.hearing.specs.Besides.Numbers.{Unshown, Found, Offset, bare}
use Rattle.looking.specs.declared.Place.TheVariants.{Store, Scratch, Nowhere}
use Rattle.looking.specs.Looking.{Told, look_of}

-- the message's bytes lie in one run, up to the area's end or not so far; or they go around
abbrev pub InOneRun : Connection → ℕ → ℕ → Type 0
InOneRun c i n = get_or c.receiving.starts i 0 + n ≤ get_or c.settings.receive i 0

abbrev pub Wrapped : Connection → ℕ → ℕ → Type 0
Wrapped c i n = get_or c.settings.receive i 0 < get_or c.receiving.starts i 0 + n

-- T2: when each number is answered, in document 01's order
pub data When (c : Connection) (store : List ℕ) (i : ℕ) (scratch : List ℕ) : ℕ → Type 0 where
  -- 23; 10; 19; 3; 17; 2; 1 or 20; 14; 15; 16: `Unshown` says when
  refused : {o : Outcome} → Unshown c store i o → When c store i scratch (outcome_number o)
  no_room : {n next : ℕ} {m : Message} → Found c store i n m next → Wrapped c i n → length scratch < n → When c store i scratch 18
  in_one_run : {n next : ℕ} {m : Message} → Found c store i n m next → InOneRun c i n → When c store i scratch 0
  joined : {n next : ℕ} {m : Message} → Found c store i n m next → Wrapped c i n → n ≤ length scratch → When c store i scratch 0

abbrev pub Exactly : Type 0
Exactly =
    (c : Connection) (store : List ℕ) (i : ℕ) (scratch : List ℕ) (n : ℕ)
    → ((look_of c store i scratch).answer.shown.number ≡ n) ↔ When c store i scratch n

-- T3: a fault closes, with its number and instance, where no closing was, and changes nothing else; every other number but 0 changes nothing; and
-- after a good look nothing but scratch has changed.
pub record Leaves (c : Connection) (store : List ℕ) (i : ℕ) (scratch : List ℕ) (r : Told) : Type 0 where
  pub fault : heard_fault r.answer.shown.number ≡ true
      → r.answer
      ≡ record {
        shown = bare r.answer.shown.number r.answer.shown.offset;
        place = Nowhere;
        connection = with_gate c (closed_by c.gate (Of r.answer.shown.number i));
      }
  pub other : (r.answer.shown.number ≡ 0 → ⊥) → heard_fault r.answer.shown.number ≡ false
      → r.answer ≡ record { shown = bare r.answer.shown.number 0; place = Nowhere; connection = c }
  pub good : r.answer.shown.number ≡ 0 → r.answer.connection ≡ c
  -- scratch is written only where the message was joined, its first bytes and no more
  pub unwritten : (r.answer.place ≡ Scratch → ⊥) → r.scratch ≡ scratch
  pub written : r.answer.place ≡ Scratch → r.scratch ≡ sets scratch 0 (first_held c store i r.answer.shown.len)

abbrev pub LeavesAll : Type 0
LeavesAll = (c : Connection) (store : List ℕ) (i : ℕ) (scratch : List ℕ) → Leaves c store i scratch (look_of c store i scratch)

-- with 0 the answer is the message that the first bytes held spell, with its length: in one run, where it lies in the store; else in scratch, which is
-- not shorter
pub data ShownWhere (c : Connection) (i : ℕ) (scratch : List ℕ) (n : ℕ) (m : Message) (t : Told) : Type 0 where
  store : InOneRun c i n
      → t.answer
      ≡ record {
        shown = hearing.done n m;
        place = Store (base_of c.settings.receive i + get_or c.receiving.starts i 0);
        connection = c;
      }
      → ShownWhere c i scratch n m t
  scratch : Wrapped c i n → n ≤ length scratch → t.answer ≡ record { shown = hearing.done n m; place = Scratch; connection = c }
      → ShownWhere c i scratch n m t

abbrev pub Looks : Type 0
Looks =
    (c : Connection) (store : List ℕ) (i : ℕ) (scratch : List ℕ) → (look_of c store i scratch).answer.shown.number ≡ 0
    → (n : ℕ) × (m : Message) × (next : ℕ) × Found c store i n m next × ShownWhere c i scratch n m (look_of c store i scratch)

-- K3: which byte
abbrev pub WhichByte : Type 0
WhichByte = (c : Connection) (store : List ℕ) (i : ℕ) (scratch : List ℕ) → Offset (held_of c store i) (look_of c store i scratch).answer.shown

-- a record in range stays in range (for T10)
abbrev pub Keeps : Type 0
Keeps =
    (c : Connection) (store : List ℕ) (i : ℕ) (scratch : List ℕ) → Shaped c → receives c (length store) ≡ true
    → let k = (look_of c store i scratch).answer.connection in (in_range k ≡ true) × Shaped k
