-- Look (document 02, K4). Document 01's order for take holds: what is heard up to 16; 18, for a wrapped message longer than scratch.
use Rattle.std.specs.Prelude.{ℕ, ◌+◌, ◌≡◌, cond, List, leb, length, get_or, Ok, Err}
use Rattle.std.proofs.lemmas.List.Edits.{sets}
use Rattle.std.specs.Borrow.{Bor}
use Rattle.ring.specs.Ring.{base_of, run}
use Rattle.connection.specs.declared.Connection.{Connection}
use Rattle.connection.specs.Parts.{first_held}
use Rattle.judging.specs.declared.Judged.{Judged}
use Rattle.judging.specs.declared.Outcome.TheVariants.{NoRoom}
use Rattle.judging.specs.Judging.{Judgement, outcome_number, unjudged}
use Rattle.hearing.specs.declared.Shown.{Shown}
use Rattle.hearing.specs.Hearing.{hear_of, shown_by, shut}
use Rattle.looking.specs.declared.Place.{Place}
use Rattle.looking.specs.declared.Place.TheVariants.{Store, Scratch, Nowhere}
use Rattle.looking.specs.declared.Looked.{Looked}

-- an answer, and what scratch then holds
pub record Told : Type 0 where
  pub answer : Looked
  pub scratch : List ℕ

abbrev pub told : Looked → List ℕ → Told
told l scratch = record { answer = l; scratch = scratch }

-- ---- where a message is shown

-- "as a part of the receive store where it lies in one run, otherwise as a part of a lent scratch buffer": n bytes from a place of an area on, which begins at
-- base and has cap bytes; room is scratch's length
unfoldable pub place_of : ℕ → ℕ → ℕ → ℕ → ℕ → Place
place_of base cap start n room = cond (leb (start + n) cap) (Store (base + start)) (cond (leb n room) Scratch Nowhere)

-- "Scratch is written only in that case, its first bytes and no more."
abbrev pub joined : Place → List ℕ → List ℕ → List ℕ
joined (Store at) xs scratch = scratch
joined Scratch xs scratch = sets scratch 0 xs
joined Nowhere xs scratch = scratch

-- what is said of a message that is shown there: one that is nowhere is longer than scratch, 18
abbrev pub shown_at : Place → Shown → Shown
shown_at (Store at) s = s
shown_at Scratch s = s
shown_at Nowhere s = shown_by (unjudged NoRoom)

-- ---- a call

-- the first message held of instance i
abbrev pub message_place : Connection → ℕ → ℕ → ℕ → Place
message_place c i n room = place_of (base_of c.settings.receive i) (get_or c.settings.receive i 0) (get_or c.receiving.starts i 0) n room

-- a message is shown, and the record stays as it is; without one, a fault closes
abbrev pub shown_in : Connection → List ℕ → ℕ → List ℕ → Judged → Place → Told
shown_in c store i scratch j p =
    told (record { shown = shown_at p (shown_by (Ok j)); place = p; connection = c }) (joined p (first_held c store i j.len) scratch)

abbrev pub by_judged : Connection → List ℕ → ℕ → List ℕ → Judgement → Told
by_judged c store i scratch (Ok j) = shown_in c store i scratch j (message_place c i j.len (length scratch))
by_judged c store i scratch (Err o) = told (record { shown = shown_by (Err o); place = Nowhere; connection = shut c i (outcome_number o) }) scratch

unfoldable pub look_of : Connection → List ℕ → ℕ → List ℕ → Told
look_of c store i scratch = by_judged c store i scratch (hear_of c store i)

-- ---- the part

-- how much of n bytes is handed out from a place on: len bytes, or none, if there are not so many
abbrev pub within : ℕ → ℕ → ℕ → ℕ × ℕ
within n at len = cond (leb (at + len) n) (at, len) (0, 0)

-- r is that part of s: which memory it is, a block and how many bytes in, and its bytes
pub record Cut (s : Bor (List ℕ)) (at len : ℕ) (r : Bor (List ℕ)) : Type 0 where
  pub memory : r.ref_ptr ≡ (s.ref_ptr.0, s.ref_ptr.1 + (within (length s.now) at len).0)
  pub bytes : r.now ≡ run s.now (within (length s.now) at len).0 (within (length s.now) at len).1

-- r is the part at a place, of the store or of scratch; "without a message the part is empty"
abbrev pub Shows : Place → ℕ → Bor (List ℕ) → Bor (List ℕ) → Bor (List ℕ) → Type 0
Shows (Store at) len store scratch r = Cut store at len r
Shows Scratch len store scratch r = Cut scratch 0 len r
Shows Nowhere len store scratch r = Cut store 0 0 r
