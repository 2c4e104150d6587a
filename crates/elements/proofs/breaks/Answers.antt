-- `elements::breaks` meets its contract: past the end there is no byte.
use mathlib.Core.Path.{◌∙◌}
use native.Mathlib.Omega.{arith}
use borrow.Author.Tests.{le-ltb}
use Rattle.ring.specs.Inside.{seen}
use Rattle.ring.proofs.Views.{seen_length}
use Rattle.elements.proofs.Steps.{break_past}
use Rattle.elements.proofs.breaks.Goals as goal

pub returns-else-at-v : goal.returns-else-at-v
returns-else-at-v c =
    let long = seen_length c.args.v in
    le-ltb c.args.at c.args.v.len (omega arith) ∙ break_past (seen c.args.v) c.args.at (omega arith)
