-- T2 for what put asks of a view: which outcome is told, exactly when (document 01, "Numbers and their order").
use Rattle.std.specs.Prelude.{ℕ, ◌≡◌, true, false, ◌↔◌, length, Err}
use Rattle.std.specs.Prelude.{Some, None}
use Rattle.messages.specs.declared.Message.{Message}
use Rattle.messages.specs.declared.Unread.{Unread}
use Rattle.messages.specs.Reading.{message_of}
use Rattle.messages.specs.Besides.Theorem.{Says}
use Rattle.judging.specs.declared.Outcome.{Outcome}
use Rattle.judging.specs.declared.Outcome.TheVariants.{NoMessage, NoRow, NoAccept, Closed, NotOurTurn}
use Rattle.judging.specs.Judging.{View, spoken, ours_now, barred, Judgement, unjudged, led, said}
use Rattle.judging.specs.Besides.Judging.{leads_to}

-- Put asks in an order: each of these supposes that nothing before it was refused. Not closed; instance 0, or Handshake has ended in Accept; and our
-- agency: the bytes decide.
pub record OurTurn (v : View) : Type 0 where
  pub unclosed : v.closed ≡ false
  pub allowed : barred v ≡ false
  pub ours : ours_now v ≡ true

-- The same, and the bytes are a message of the protocol, which says m and has a row in the present state, to next.
pub record Moves (v : View) (m : Message) (next : ℕ) : Type 0 where
  pub turn : OurTurn v
  pub says : Says (spoken v) v.bytes m
  pub row : leads_to v m ≡ Some next

-- when each refusal is told
pub data Unsaid (v : View) : Outcome → Type 0 where
  closed : v.closed ≡ true → Unsaid v Closed
  no_accept : v.closed ≡ false → barred v ≡ true → Unsaid v NoAccept
  -- not our agency, or Done
  not_our_turn : v.closed ≡ false → barred v ≡ false → ours_now v ≡ false → Unsaid v NotOurTurn
  not_a_message : {why : Unread} → OurTurn v → message_of (spoken v) v.bytes ≡ Err why → ((m : Message) → Says (spoken v) v.bytes m → ⊥)
      → Unsaid v (NoMessage why)
  no_row : {m : Message} → OurTurn v → Says (spoken v) v.bytes m → leads_to v m ≡ None → Unsaid v NoRow

-- a refusal, or a message
pub data Utters (v : View) : Judgement → Type 0 where
  refusal : {o : Outcome} → Unsaid v o → Utters v (unjudged o)
  message : {next : ℕ} {m : Message} → Moves v m next → Utters v (led (length v.bytes) m next)

abbrev pub SaidExactly : Type 0
SaidExactly = (v : View) (j : Judgement) → (said v ≡ j) ↔ Utters v j
