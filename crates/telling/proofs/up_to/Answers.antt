-- `telling::up_to` meets its contract: the first entries are copied over zeros.
use Rattle.telling.proofs.ShownLaws.{shown_first}
use Rattle.telling.proofs.up_to.Goals as goal

pub returns : goal.returns
returns c = rw c.copy_from_slice.ensures.after (shown_first c.args.n 9 c.args.a.now c.told-a)
