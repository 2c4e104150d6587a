-- `opening::refused` meets its contract: it is `fresh` of all zeros, turn 0.
use Rattle.opening.proofs.refused.Goals as goal

pub returns : goal.returns
returns c = rw c.fresh.ensures
