-- Laws of judging bytes: each way out of the code is the definition, and the definition has three ways: no message, no row, or a message that leads on.
-- Assumes nothing.
use mathlib.Core.Path.{◌≡◌, refl, sym, ap, ◌∙◌}
use mathlib.Core.Bool.{Bool, true, false}
use mathlib.Core.List.{List}
use Prim.Native.Nat.{ℕ, ◌≤◌}
use native.Mathlib.Omega.{arith}
use lib.Dec.{eqb}
use lib.ListN.{length, take}
use lib.Seq.{take-take, length-take-le}
use Rattle.std.specs.Prelude.{Ok, Result, Err}
use Rattle.ring.specs.Inside.{around}
use Rattle.ring.proofs.Around.{around_length, around_take}
use Rattle.wire.specs.declared.instances.Party.{Party}
use Rattle.wire.specs.Instances.{mode_from, initiates, role_of}
use Rattle.item.specs.Grammar.{nesting}
use Rattle.item.specs.Verdict.{verdict}
use Rattle.item.proofs.Theorem.{exactly}
use Rattle.rows.specs.declared.Protocol.{Protocol}
use Rattle.std.specs.Prelude.{Option, Some, None}
use Rattle.rows.specs.Rows.{next_of, agency_of}
use Rattle.rows.specs.Spoken.{speaks}
use Rattle.messages.specs.declared.Message.{Message}
use Rattle.messages.specs.declared.Unread.{Unread}
use Rattle.messages.specs.declared.Unread.TheVariants.{NotArray}
use Rattle.messages.specs.Reading.{message_of, flag_of, wholly}
use Rattle.messages.specs.Besides.Theorem.{Says}
use Rattle.messages.proofs.Theorem.{reads_forms}
use Rattle.judging.specs.declared.Outcome.TheVariants.{NoMessage, NoRow}
use Rattle.judging.specs.Judging.{holds, ours, Judgement, unjudged, led, by_row, by_reading, judged_of}

-- mode 0 is an initiator's
pub initiator_mode : (b : Bool) → eqb (mode_from b) 0 ≡ b
initiator_mode true = refl
initiator_mode false = refl

-- agency in the protocol that an instance speaks
pub ours_spoken : (us : Party) (i state : ℕ) (p : Protocol) → p ≡ speaks us.bundle i
    → holds (initiates us.side (role_of us.bundle i)) (agency_of p state) ≡ ours us i state
unfolding ours
ours_spoken us i state p e = rw e

-- ---- the verdict

-- an item is not longer than the bytes that it begins
pub whole_within : (bs : List ℕ) (m : ℕ) → verdict bs ≡ Ok m → m ≤ length bs
whole_within bs m e = ((exactly nesting bs (Ok m)).0 e).0

-- the bytes of the item alone are that item
pub whole_alone : (xs : List ℕ) (from n m : ℕ) → n ≤ length xs → verdict (around xs from n) ≡ Ok m
    → (m ≤ n) × (verdict (around xs from m) ≡ Ok m)
whole_alone xs from n m l e =
    let bs : List ℕ = around xs from n in
    let q = (exactly nesting bs (Ok m)).0 e in
    let long : length bs ≡ n = around_length xs from n l in
    let in-n : m ≤ n = omega (arith, q.0) in
    let alone : verdict (take m bs) ≡ Ok m =
    (exactly nesting (take m bs) (Ok m)).1 (rw (length-take-le m bs q.0) (omega arith), rw (take-take m m bs (omega arith)) q.1) in
    (in-n, ap verdict (sym (around_take xs from m n in-n)) ∙ alone)

-- ---- the ways out of the code

module _ (p : Protocol) (state : ℕ) (bs : List ℕ) where
  -- no message
  pub judged_wrong : (why : Unread) → Err why ≡ message_of p bs → unjudged (NoMessage why) ≡ judged_of p state bs
  unfolding judged_of
  judged_wrong why e = rw (← e)

  -- a message, with its row or without
  pub judged_read : (m : Message) (n f : ℕ) (next : Option ℕ) → Ok m ≡ message_of p bs → n ≡ length bs → f ≡ flag_of p m
      → next ≡ next_of p state m.kind f → by_row n m next ≡ judged_of p state bs
  unfolding judged_of
  judged_read m n f next e l g q = rw (← e, ← g, ← q, ← l)

  -- not exactly one item
  pub judged_not_one : wholly (verdict bs) (length bs) ≡ false → unjudged (NoMessage NotArray) ≡ judged_of p state bs
  unfolding judged_of message_of
  judged_not_one h = rw h

  -- ---- the ways of judging

  -- no message, and why; one without a row; or a message, and where its row leads
  pub data Judges : Judgement → Type 0 where
    not_read : (why : Unread) → message_of p bs ≡ Err why → ((m : Message) → Says p bs m → ⊥) → Judges (unjudged (NoMessage why))
    not_led : (m : Message) → Says p bs m → next_of p state m.kind (flag_of p m) ≡ None → Judges (unjudged NoRow)
    message : (m : Message) (to : ℕ) → Says p bs m → next_of p state m.kind (flag_of p m) ≡ Some to → Judges (led (length bs) m to)

  -- bytes that were not read say nothing
  unread : {why : Unread} → message_of p bs ≡ Err why → (m : Message) → Says p bs m → ⊥
  unread {why} e m s =
      let z : ◌≡◌ {A = Result Message Unread} (Err why) (Ok m) = sym e ∙ (reads_forms p bs m).1 s in
      let y : ◌≡◌ {A = ℕ} 0 1 = cc in
      omega arith

  pub judges : Judges (judged_of p state bs)
  unfolding judged_of
  judges = of (message_of p bs) refl
    where
      row : (m : Message) (x : Option ℕ) → Says p bs m → next_of p state m.kind (flag_of p m) ≡ x → Judges (by_row (length bs) m x)
      row m (Some to) s q = message m to s q
      row m None s q = not_led m s q

      of : (r : Result Message Unread) → message_of p bs ≡ r → Judges (by_reading p state (length bs) r)
      of (Ok m) e = row m (next_of p state m.kind (flag_of p m)) ((reads_forms p bs m).0 e) refl
      of (Err why) e = not_read why e (unread e)

  -- and each of them exactly then
  by_row_lem : (m : Message) (x : Option ℕ) → Says p bs m → next_of p state m.kind (flag_of p m) ≡ x → judged_of p state bs ≡ by_row (length bs) m x
  by_row_lem m x s q =
      sym (judged_read m (length bs) (flag_of p m) x (sym ((reads_forms p bs m).1 s)) refl refl (sym q))

  pub judged_so : {j : Judgement} → Judges j → judged_of p state bs ≡ j
  judged_so (not_led m s q) = by_row_lem m None s q
  judged_so (message m to s q) = by_row_lem m (Some to) s q
  judged_so (not_read why e none) = of judges
    where
      of : {j : Judgement} → Judges j → j ≡ unjudged (NoMessage why)
      of (not_read q f n) =
          let z : ◌≡◌ {A = Result Message Unread} (Err q) (Err why) = sym f ∙ e in
          let y : q ≡ why = cc in
          ap (λ (x : Unread). unjudged (NoMessage x)) y
      of (not_led m s q) = absurd (none m s)
      of (message m to s q) = absurd (none m s)
