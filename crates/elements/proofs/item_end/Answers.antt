-- `elements::item_end` meets its contract: past the end there is no item, else the verdict tells.
use native.Mathlib.Omega.{arith}
use Rattle.ring.specs.Inside.{seen}
use Rattle.ring.proofs.Views.{seen_length}
use Rattle.elements.proofs.ElementLaws.{item_past}
use Rattle.elements.proofs.item_end.Goals as goal

pub returns-then-v-at : goal.returns-then-v-at
returns-then-v-at c =
    let long = seen_length c.args.v in
    item_past (seen c.args.v) c.args.d c.args.at (omega arith)
