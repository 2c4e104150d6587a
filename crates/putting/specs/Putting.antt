-- Put (document 01, "Numbers and their order", and document 02, K1: 10 above the bundle's last instance; then what is said of the message, from 20 to
-- 16; 24; 22; then queued and the state moves; 23 before all others).
use Rattle.std.specs.Prelude.{ℕ, ◌+◌, cond, ◌&&◌, List, eqb, leb, ltb, length, get_or, set, Ok, Err}
use Rattle.wire.specs.Instances.{instances, handshake}
use Rattle.connection.specs.declared.Sending.{Sending}
use Rattle.connection.specs.declared.Connection.{Connection}
use Rattle.connection.specs.Areas.{laid_in}
use Rattle.connection.specs.Parts.{with_sending, with_talk}
use Rattle.range.specs.Ranges.{sends}
use Rattle.judging.specs.declared.Judged.{Judged}
use Rattle.judging.specs.Judging.{view_of, Judgement, outcome_number, said, moved_by}
use Rattle.putting.specs.declared.Queued.{Queued}

-- an answer, and the send store as the call leaves it
pub record Told : Type 0 where
  pub answer : Queued
  pub store : List ℕ

abbrev pub told : Queued → List ℕ → Told
told r store = record { answer = r; store = store }

-- a refusal changes nothing; 15 and 16 from put do not close
abbrev pub refused : Connection → ℕ → Queued
refused c n = record { number = n; connection = c }

-- ---- queueing

-- n bytes more wait
abbrev pub longer_of : Sending → ℕ → ℕ → Sending
longer_of w i n = record { starts = w.starts; waiting = set w.waiting i (get_or w.waiting i 0 + n); turn = w.turn }

-- queued, and the state moves
abbrev pub queued : Connection → ℕ → ℕ → Judged → Connection
queued c i n j = with_talk (with_sending c (longer_of c.sending i n)) (moved_by c.talk i j.message.kind j.next)

-- the message's bytes follow those that wait, in the stream of the instance
abbrev pub stored : Connection → List ℕ → ℕ → List ℕ → List ℕ
stored c store i xs = laid_in c.settings.send store i (get_or c.sending.starts i 0 + get_or c.sending.waiting i 0) xs

-- 24, a Handshake message above S; 22, waiting bytes plus message above the send capacity; then queued
unfoldable pub queue : Connection → List ℕ → ℕ → List ℕ → Judged → Told
queue c store i xs j =
    cond (eqb i handshake && ltb c.settings.limit (length xs)) (told (refused c 24) store)
    (cond (leb (get_or c.sending.waiting i 0 + length xs) (get_or c.settings.send i 0))
    (told (record { number = 0; connection = queued c i (length xs) j }) (stored c store i xs))
    (told (refused c 22) store))

-- ---- a call

abbrev pub by_judged : Connection → List ℕ → ℕ → List ℕ → Judgement → Told
by_judged c store i xs (Ok j) = queue c store i xs j
by_judged c store i xs (Err o) = told (refused c (outcome_number o)) store

unfoldable pub put_of : Connection → List ℕ → ℕ → List ℕ → Told
put_of c store i xs =
    cond (sends c (length store))
    (cond (ltb i (instances c.settings.party.bundle)) (by_judged c store i xs (said (view_of c i xs))) (told (refused c 10) store))
    (told (refused c 23) store)
