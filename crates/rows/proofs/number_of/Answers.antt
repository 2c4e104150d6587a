-- `rows::number_of` meets its contract: the place is the protocol's.
use Rattle.rows.proofs.number_of.Goals as goal

pub returns : goal.returns
returns c = rw c.place-at.ensures.0
