-- `admitting::instance_for` meets its contract: the test decides.
use Rattle.base.proofs.Conds.{tests}
use Rattle.admitting.proofs.instance_for.Goals as goal

pub returns-then-rest-eq0 : goal.returns-then-rest-eq0
returns-then-rest-eq0 c = search tests

pub returns-else-rest-eq0 : goal.returns-else-rest-eq0
returns-else-rest-eq0 c = search tests
