-- `elements::bool_at` meets its contract: past the end there is no byte.
use native.Mathlib.Omega.{arith}
use Rattle.ring.specs.Inside.{seen}
use Rattle.ring.proofs.Views.{seen_length}
use Rattle.elements.proofs.Steps.{bool_past}
use Rattle.elements.proofs.bool_at.Goals as goal

pub returns-then-v-at : goal.returns-then-v-at
returns-then-v-at c =
    let long = seen_length c.args.v in
    bool_past (seen c.args.v) c.args.at (omega arith)
