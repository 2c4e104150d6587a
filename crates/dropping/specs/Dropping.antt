-- Drop (document 02, K4: "Drop frees the message that look would show and moves the state"). Document 01's order for take holds, without 18.
use Rattle.std.specs.Prelude.{ℕ, List, Ok, Err}
use Rattle.connection.specs.declared.Receiving.{Receiving}
use Rattle.connection.specs.declared.Connection.{Connection}
use Rattle.connection.specs.Areas.{starts_past, counts_less}
use Rattle.connection.specs.Parts.{with_receiving, with_talk}
use Rattle.judging.specs.declared.Judged.{Judged}
use Rattle.judging.specs.Judging.{Judgement, outcome_number, moved_by}
use Rattle.hearing.specs.Hearing.{hear_of, shown_by, shut}
use Rattle.dropping.specs.declared.Dropped.{Dropped}

-- n bytes of instance i are freed
abbrev pub freed_of : Receiving → List ℕ → ℕ → ℕ → Receiving
freed_of r caps i n =
    record {
      starts = starts_past caps r.starts i n;
      held = counts_less r.held i n;
      header = r.header;
      instance = r.instance;
      rest = r.rest;
    }

-- the message's bytes are freed, and the state moves
abbrev pub handed : Connection → ℕ → Judged → Connection
handed c i j =
    with_talk (with_receiving c (freed_of c.receiving c.settings.receive i j.len) c.gate)
    (moved_by c.talk i j.message.kind j.next)

-- without a message, a fault closes
abbrev pub left : Connection → ℕ → Judgement → Connection
left c i (Ok j) = handed c i j
left c i (Err o) = shut c i (outcome_number o)

abbrev pub by_judged : Connection → ℕ → Judgement → Dropped
by_judged c i k = record { shown = shown_by k; connection = left c i k }

unfoldable pub drop_of : Connection → List ℕ → ℕ → Dropped
drop_of c store i = by_judged c i (hear_of c store i)
