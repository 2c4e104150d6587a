-- `ready::turn_after` meets its contract: the test decides.
use Rattle.base.proofs.Conds.{tests}
use borrow.Author.Tests.{ne_eqb}
use Rattle.ready.proofs.turn_after.Goals as goal

pub returns-then-i-eq0 : goal.returns-then-i-eq0
returns-then-i-eq0 c = search tests

pub returns : goal.returns
returns c = rw (ne_eqb _ _ c.if-i-eq0.false) c.after.ensures.0
