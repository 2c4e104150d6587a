-- `ready::after` meets its contract: the test decides.
use Rattle.base.proofs.Conds.{tests}
use Rattle.ready.proofs.after.Goals as goal

pub returns-then-i-n : goal.returns-then-i-n
returns-then-i-n c = search tests

pub returns-else-i-n : goal.returns-else-i-n
returns-else-i-n c = search tests
