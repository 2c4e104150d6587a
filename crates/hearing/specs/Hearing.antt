-- What look and drop have in common (document 01, "Numbers and their order", what it says of take; document 02, K1, K3 and K4: 10 above the bundle's last
-- instance; then what is heard of the instance, from 19 to 16; 23 before all others).
use Rattle.std.specs.Prelude.{ℕ, cond, List, ltb, length, Ok, Err}
use Rattle.wire.specs.Instances.{instances}
use Rattle.messages.specs.Matching.{begun}
use Rattle.connection.specs.declared.Connection.{Connection}
use Rattle.connection.specs.declared.Closing.TheVariants.{Of}
use Rattle.connection.specs.Closings.{closed_by, heard_fault}
use Rattle.connection.specs.Parts.{with_gate, held_of}
use Rattle.range.specs.Ranges.{receives}
use Rattle.judging.specs.declared.Outcome.TheVariants.{OutOfRange, NoInstance}
use Rattle.judging.specs.Judging.{View, view_of, Judgement, outcome_number, outcome_offset, unjudged, heard}
use Rattle.hearing.specs.declared.Shown.{Shown}

-- the view that a record and its receive store give of instance i: the bytes are those held
abbrev pub seen : Connection → List ℕ → ℕ → View
seen c store i = view_of c i (held_of c store i)

-- 23; 10; then what is heard of the instance
unfoldable pub hear_of : Connection → List ℕ → ℕ → Judgement
hear_of c store i =
    cond (receives c (length store)) (cond (ltb i (instances c.settings.party.bundle)) (heard (seen c store i)) (unjudged NoInstance))
    (unjudged OutOfRange)

-- what an answer says of it: its number; with a message, length, kind, numbers and places; with 14, the offset (K3); and else 0
abbrev pub shown_by : Judgement → Shown
shown_by (Ok j) = record { number = 0; len = j.len; offset = 0; message = j.message }
shown_by (Err o) = record { number = outcome_number o; len = 0; offset = outcome_offset o; message = begun 0 }

-- a fault closes, with its number and instance; any other number changes nothing
abbrev pub shut : Connection → ℕ → ℕ → Connection
shut c i n = cond (heard_fault n) (with_gate c (closed_by c.gate (Of n i))) c
