-- `opening::fresh` meets its contract: the header is the empty one.
use Rattle.opening.proofs.fresh.Goals as goal

pub returns : goal.returns
returns c = rw c.empty.ensures
