-- T2 for what look and drop ask of a view: which outcome is told, exactly when (document 01, "Numbers and their order").
use Rattle.std.specs.Prelude.{ℕ, ◌≡◌, true, false, ◌↔◌, length, take, Ok, Err}
use Rattle.item.specs.declared.NotWhole.TheVariants.{Bad, Incomplete}
use Rattle.item.specs.Verdict.{verdict}
use Rattle.std.specs.Prelude.{Some, None}
use Rattle.rows.specs.Rows.{done_of}
use Rattle.messages.specs.declared.Message.{Message}
use Rattle.messages.specs.declared.Unread.{Unread}
use Rattle.messages.specs.Reading.{message_of}
use Rattle.messages.specs.Besides.Theorem.{Says}
use Rattle.judging.specs.declared.Outcome.{Outcome}
use Rattle.judging.specs.declared.Outcome.TheVariants.{Waiting, OurTurn, Finished, BytesBad, NoMessage, NoRow, AfterDone, NoAccept, Closed}
use Rattle.judging.specs.Judging.{View, spoken, ours_now, barred, Judgement, unjudged, led, heard}
use Rattle.judging.specs.Besides.Judging.{leads_to}

-- They ask in an order: each of these supposes that nothing before it was refused. Handshake doesn't bar the instance, its protocol hasn't ended, and
-- agency is not ours: the bytes decide.
pub record Awaited (v : View) : Type 0 where
  pub allowed : barred v ≡ false
  pub going : v.state ≡ done_of (spoken v) → ⊥
  pub theirs : ours_now v ≡ false

-- The same, and the first n bytes are an item: a message of the protocol, which says m and has a row in the present state, to next.
pub record Spells (v : View) (n : ℕ) (m : Message) (next : ℕ) : Type 0 where
  pub awaited : Awaited v
  pub whole : verdict v.bytes ≡ Ok n
  pub says : Says (spoken v) (take n v.bytes) m
  pub row : leads_to v m ≡ Some next

-- when each refusal or notice is told
pub data Unheard (v : View) : Outcome → Type 0 where
  no_accept : barred v ≡ true → Unheard v NoAccept
  -- at Done, notice 3 with nothing held, else 17
  finished : barred v ≡ false → v.state ≡ done_of (spoken v) → length v.bytes ≡ 0 → Unheard v Finished
  past_done : barred v ≡ false → v.state ≡ done_of (spoken v) → (length v.bytes ≡ 0 → ⊥) → Unheard v AfterDone
  our_turn : barred v ≡ false → (v.state ≡ done_of (spoken v) → ⊥) → ours_now v ≡ true → Unheard v OurTurn
  -- incomplete, notice 1, or 20 if closed
  waiting : Awaited v → verdict v.bytes ≡ Err Incomplete → v.closed ≡ false → Unheard v Waiting
  closed : Awaited v → verdict v.bytes ≡ Err Incomplete → v.closed ≡ true → Unheard v Closed
  are_bad : {at : ℕ} → Awaited v → verdict v.bytes ≡ Err (Bad at) → Unheard v (BytesBad at)
  not_a_message : {n : ℕ} {why : Unread} → Awaited v → verdict v.bytes ≡ Ok n → message_of (spoken v) (take n v.bytes) ≡ Err why
      → ((m : Message) → Says (spoken v) (take n v.bytes) m → ⊥) → Unheard v (NoMessage why)
  no_row : {n : ℕ} {m : Message} → Awaited v → verdict v.bytes ≡ Ok n → Says (spoken v) (take n v.bytes) m → leads_to v m ≡ None → Unheard v NoRow

-- a refusal or notice, or a message
pub data Hears (v : View) : Judgement → Type 0 where
  refusal : {o : Outcome} → Unheard v o → Hears v (unjudged o)
  message : {n next : ℕ} {m : Message} → Spells v n m next → Hears v (led n m next)

abbrev pub HeardExactly : Type 0
HeardExactly = (v : View) (j : Judgement) → (heard v ≡ j) ↔ Hears v j
