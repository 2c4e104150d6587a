-- What is heard, exactly when (document 01, "Numbers and their order"), which byte is bad, and what a closing names, as statements.
use Rattle.std.specs.Prelude.{ℕ, suc, ◌≤◌, ◌≡◌, true, false, List, ◌↔◌, length, take, Err}
use Rattle.std.proofs.Math.Option.{some}
use Rattle.wire.specs.Instances.{instances}
use Rattle.item.specs.declared.NotWhole.TheVariants.{Bad, Incomplete}
use Rattle.item.specs.Verdict.{verdict}
use Rattle.messages.specs.declared.Message.{Message}
use Rattle.messages.specs.Matching.{begun}
use Rattle.connection.specs.declared.Connection.{Connection}
use Rattle.connection.specs.Closings.{closing_of, is_open, bytes_bad, heard_fault}
use Rattle.connection.specs.Parts.{held_of}
use Rattle.range.specs.Ranges.{receives}
use Rattle.range.specs.Besides.Ranges.{InReceive}
use Rattle.judging.specs.declared.Outcome.{Outcome}
use Rattle.judging.specs.declared.Outcome.TheVariants.{OutOfRange, NoInstance}
use Rattle.judging.specs.Judging.{Judgement, unjudged, led}
use Rattle.judging.specs.Besides.Hearing.{Unheard, Spells}
use Rattle.hearing.specs.declared.Shown.{Shown}
use Rattle.hearing.specs.Hearing.{seen, hear_of, shown_by, shut}

-- T2: when each refusal or notice is told, in document 01's order
pub data Unshown (c : Connection) (store : List ℕ) (i : ℕ) : Outcome → Type 0 where
  out_of_range : receives c (length store) ≡ false → Unshown c store i OutOfRange
  no_instance : receives c (length store) ≡ true → instances c.settings.party.bundle ≤ i → Unshown c store i NoInstance
  -- 19; 3; 17; 2; 1 or 20; 14; 15; 16: `Unheard` says when
  unheard : {o : Outcome} → InReceive c store i → Unheard (seen c store i) o → Unshown c store i o

-- the first n bytes held of instance i are a message with a row in the present state, to next: `Spells`
pub record Found (c : Connection) (store : List ℕ) (i n : ℕ) (m : Message) (next : ℕ) : Type 0 where
  pub asked : InReceive c store i
  pub spells : Spells (seen c store i) n m next

-- a refusal or notice, or a message
pub data Tells (c : Connection) (store : List ℕ) (i : ℕ) : Judgement → Type 0 where
  refusal : {o : Outcome} → Unshown c store i o → Tells c store i (unjudged o)
  message : {n next : ℕ} {m : Message} → Found c store i n m next → Tells c store i (led n m next)

abbrev pub HearExactly : Type 0
HearExactly = (c : Connection) (store : List ℕ) (i : ℕ) (j : Judgement) → (hear_of c store i ≡ j) ↔ Tells c store i j

-- an answer without a message has a number, and with 14 an offset; and one with a message of n bytes
abbrev pub bare : ℕ → ℕ → Shown
bare number at = record { number = number; len = 0; offset = at; message = begun 0 }

abbrev pub done : ℕ → Message → Shown
done n m = record { number = 0; len = n; offset = 0; message = m }

-- K3: with 14, the offset tells which byte: so many of the bytes held are incomplete, and with one more they are bad, which holds of one offset alone
-- (`item` `FirstBad`). With any other number it is 0.
pub record Offset (bs : List ℕ) (s : Shown) : Type 0 where
  pub before : s.number ≡ bytes_bad → verdict (take s.offset bs) ≡ Err Incomplete
  pub with_it : s.number ≡ bytes_bad → verdict (take (suc s.offset) bs) ≡ Err (Bad s.offset)
  pub else_none : (s.number ≡ bytes_bad → ⊥) → s.offset ≡ 0

abbrev pub WhichByte : Type 0
WhichByte = (c : Connection) (store : List ℕ) (i : ℕ) → Offset (held_of c store i) (shown_by (hear_of c store i))

-- "a closing names its refusal number and, where one is known, the instance": a fault's, where no closing was; "only the first closing is kept"; and
-- any other number changes nothing
pub record Names (c : Connection) (i n : ℕ) (k : Connection) : Type 0 where
  pub fault : heard_fault n ≡ true → is_open c.gate ≡ true → closing_of k.gate ≡ some (n, some i)
  pub kept : is_open c.gate ≡ false → k ≡ c
  pub other : heard_fault n ≡ false → k ≡ c

abbrev pub ShutNames : Type 0
ShutNames = (c : Connection) (i n : ℕ) → Names c i n (shut c i n)
