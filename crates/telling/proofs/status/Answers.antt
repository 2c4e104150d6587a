-- `telling::status` meets its contract: the range decides.
use Rattle.telling.specs.Statuses.{status_of}
use Rattle.telling.proofs.status.Goals as goal

pub returns-in_default : goal.returns-in_default
unfolding status_of
returns-in_default c = rw (c.in_default.ensures, c.refused.ensures)

pub returns : goal.returns
unfolding status_of
returns c = rw (c.in-Some.ensures.0, c.ready_of.ensures, c.up_to-2.ensures, c.up_to.ensures, c.count-n.ensures.0)
