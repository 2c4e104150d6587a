-- Status (document 01, "Segments"; document 02, K1).
use Rattle.std.specs.Prelude.{ℕ, zero, suc, cond, List, [], ◌∷◌, take}
use Rattle.wire.specs.Instances.{instances}
use Rattle.ready.specs.Ready.{ready_of}
use Rattle.connection.specs.declared.Connection.{Connection}
use Rattle.connection.specs.declared.Gate.TheVariants.{Open}
use Rattle.telling.specs.declared.Report.{Report}
use Rattle.range.specs.Ranges.{in_range}
use Rattle.connection.specs.Shapes.{zeros}

-- the first n entries of an array, and 0 above
unfoldable pub up_to : ℕ → List ℕ → List ℕ
up_to n [] = []
up_to zero (x ∷ a) = 0 ∷ up_to zero a
up_to (suc n) (x ∷ a) = x ∷ up_to n a

-- 23 and nothing else
abbrev pub refused_status : Report
refused_status = record { number = 23; held = zeros; waiting = zeros; ready = record { word = 0; count = 0; lowest = 0 }; gate = Open }

-- the held and waiting counts of each instance, the ready word, how many are ready and which is lowest, and the closing
unfoldable pub status_of : Connection → Report
status_of c =
    let n = instances c.settings.party.bundle in
    cond (in_range c)
    (record {
      number = 0;
      held = up_to n c.receiving.held;
      waiting = up_to n c.sending.waiting;
      ready = ready_of (take n c.sending.waiting);
      gate = c.gate;
    })
    refused_status
