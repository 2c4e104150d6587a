-- Laws of drop: each way out of the code is the definition.
-- Assumes nothing.
use mathlib.Core.Path.{◌≡◌, sym, ◌∙◌}
use mathlib.Core.Bool.{Bool}
use mathlib.Core.List.{List}
use mathlib.Core.Logic.{◌≢◌}
use Prim.Native.Nat.{ℕ}
use lib.ListN.{set}
use borrow.Author.Tests.{eq-eqb, ne_eqb}
use Rattle.connection.specs.declared.Connection.{Connection}
use Rattle.connection.specs.Areas.{starts_past, counts_less}
use Rattle.judging.specs.declared.Judged.{Judged}
use Rattle.judging.specs.Judging.{Judgement, marks}
use Rattle.hearing.specs.declared.Shown.{Shown}
use Rattle.hearing.specs.Hearing.{hear_of, shown_by, shut}
use Rattle.dropping.specs.Dropping.{handed, by_judged, drop_of}

-- what is heard decides
pub drop_by : (c : Connection) (store : List ℕ) (i : ℕ) (k : Judgement) → k ≡ hear_of c store i → by_judged c i k ≡ drop_of c store i
unfolding drop_of
drop_by c store i k e = rw e

-- the record put together from its parts
pub handed_is : (c : Connection) (i : ℕ) (j : Judged) (starts held : List ℕ) (accepted : Bool) → starts ≡ starts_past c.settings.receive c.receiving.starts i j.len
    → held ≡ counts_less c.receiving.held i j.len → accepted ≡ marks c.talk.accepted i j.message.kind
    → record {
      settings = c.settings;
      receiving =
          record {
            starts = starts;
            held = held;
            header = c.receiving.header;
            instance = c.receiving.instance;
            rest = c.receiving.rest;
          };
      sending = c.sending;
      talk = record { states = set c.talk.states i j.next; accepted = accepted };
      gate = c.gate;
    }
    ≡ handed c i j
handed_is c i j starts held accepted e f g = rw (e, f, g)
