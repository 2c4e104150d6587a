-- `usual::small` meets its contract: as the definition.
use Rattle.base.proofs.Conds.{tests}
use Rattle.usual.proofs.small.Goals as goal
use Rattle.usual.proofs.small.Goals.{then-i-lt-ONE_BYTE, else-i-lt-ONE_BYTE}

pub returns : goal.returns
returns c =
    elim c.if-i-lt-ONE_BYTE.branch [
      | then-i-lt-ONE_BYTE w ↦ rw (c.from.ensures, w.from-is) (search tests)
      | else-i-lt-ONE_BYTE w ↦ rw (c.from.ensures, w.from-is) (search tests)
    ]
