-- Which number feed answers, exactly when, and what each leaves (document 01, "Segments" and "Numbers and their order"), as statements.
use Rattle.std.specs.Prelude.{ℕ, suc, ◌+◌, ◌≤◌, ◌<◌, ◌≡◌, true, false, cond, List, ◌∷◌, ◌++◌, ◌↔◌, eqb, length, get_or, Ok, Err}
use Rattle.base.specs.Numbers.{Bytes}
use Rattle.wire.specs.declared.instances.Party.{Party}
use Rattle.wire.specs.Instances.{Route}
use Rattle.wire.specs.declared.instances.RouteError.TheVariants.{Unknown, Wrong}
use Rattle.wire.specs.Segments.{header_length, empty, added, decoded}
use Rattle.wire.specs.Instances.{route_of}
use Rattle.connection.specs.declared.Connection.{Connection}
use Rattle.connection.specs.declared.Closing.{Closing}
use Rattle.connection.specs.declared.Gate.TheVariants.{Closed}
use Rattle.connection.specs.Closings.{closing_number, is_open}
use Rattle.connection.specs.Parts.{with_receiving}
use Rattle.range.specs.Ranges.{receives}
use Rattle.feeding.specs.Feeding.{Reception, admitted, with_header, fed, Told, told, refused, given, feed_of, Spelt}

-- A byte of the run, reached while the connection is open and no payload under way, makes a header whole; of the held counts there, and of
-- the header's length and route, P holds.
pub record Eighth (us : Party) (caps : List ℕ) (s : Reception) (xs : List ℕ) (P : List ℕ → ℕ → Route → Type 0) : Type 0 where
  pub front : List ℕ
  pub byte : ℕ
  pub back : List ℕ
  pub run : xs ≡ front ++ (byte ∷ back)
  pub reached : is_open (fed us caps s front).gate ≡ true
  pub idle : (fed us caps s front).receiving.rest ≡ 0
  pub whole : header_length ≤ (added (fed us caps s front).receiving.header byte).count
  pub says :
      let d = decoded (added (fed us caps s front).receiving.header byte).bytes in
      P (fed us caps s front).receiving.held d.len (route_of us d.protocol d.mode)

-- a call that takes bytes, and a header in them
abbrev pub Listens : Connection → List ℕ → Type 0
Listens c st = (receives c (length st) ≡ true) × (is_open c.gate ≡ true)

abbrev pub Comes : Connection → List ℕ → List ℕ → (List ℕ → ℕ → Route → Type 0) → Type 0
Comes c st xs P = Eighth c.settings.party c.settings.receive (given c st) xs P

-- T2: when each number is answered, in document 01's order
pub data When (c : Connection) (st xs : List ℕ) : ℕ → Type 0 where
  out_of_range : receives c (length st) ≡ false → When c st xs 23
  closed : receives c (length st) ≡ true → is_open c.gate ≡ false → When c st xs 20
  protocol_unknown : Listens c st → Comes c st xs (λ held n to. to ≡ Err Unknown) → When c st xs 11
  mode_wrong : Listens c st → Comes c st xs (λ held n to. (i : ℕ) × (to ≡ Err (Wrong i))) → When c st xs 12
  overflows : Listens c st → Comes c st xs (λ held n to. (i : ℕ) × (to ≡ Ok i) × (get_or c.settings.receive i 0 < get_or held i 0 + n))
      → When c st xs 13
  done : Listens c st → (Comes c st xs (λ held n to. (x : Closing) × (admitted c.settings.receive held n to ≡ Err x)) → ⊥) → When c st xs 0

abbrev pub Exactly : Type 0
Exactly = (c : Connection) (st xs : List ℕ) (n : ℕ) → ((feed_of c st xs).answer.number ≡ n) ↔ When c st xs n

-- T3: 20 and 23 change nothing; 0 uses all bytes; and at a fault the bytes in front of that header are kept, the header record is empty, the
-- closing is written, and no byte behind it is used.
pub record Leaves (c : Connection) (st xs : List ℕ) (r : Told) : Type 0 where
  pub nothing : (n : ℕ) → r.answer.number ≡ n → 20 ≤ n → r ≡ told (refused c n) st
  pub all : r.answer.number ≡ 0 → r.answer.used ≡ length xs
  pub fault : (x : Closing) → receives c (length st) ≡ true
      → (e : Comes c st xs (λ held n to. admitted c.settings.receive held n to ≡ Err x))
      → let s = fed c.settings.party c.settings.receive (given c st) e.front in
      let after = with_receiving c (with_header s.receiving empty) (Closed x) in
      r ≡ told (record { number = closing_number x; used = suc (length e.front); connection = after }) s.store

abbrev pub LeavesAll : Type 0
LeavesAll = (c : Connection) (st xs : List ℕ) → Leaves c st xs (feed_of c st xs)

-- In range for ever: bytes fed to a record in range and its store leave a record in range and its store.
abbrev pub Keeps : Type 0
Keeps = (c : Connection) (st xs : List ℕ) → Spelt c.receiving.header → Bytes xs → receives c (length st) ≡ true
    → let r = feed_of c st xs in (receives r.answer.connection (length r.store) ≡ true) × Spelt r.answer.connection.receiving.header

-- T4': a run fed whole or cut, with no other call between, leaves the same record and store. The number is the first that is not 0, and what is
-- used adds up.
pub record Joins (first second whole : Told) : Type 0 where
  pub connection : whole.answer.connection ≡ second.answer.connection
  pub store : whole.store ≡ second.store
  pub number : whole.answer.number ≡ cond (eqb first.answer.number 0) second.answer.number first.answer.number
  pub used : whole.answer.used ≡ first.answer.used + second.answer.used

abbrev pub WholeOrCut : Type 0
WholeOrCut = (c : Connection) (st xs ys : List ℕ)
    → let first = feed_of c st xs in
    Joins first (feed_of first.answer.connection first.store ys) (feed_of c st (xs ++ ys))
