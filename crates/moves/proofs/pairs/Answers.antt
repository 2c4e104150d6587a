-- `moves::pairs` meets its contract: twice 2^63 and what is above is 2^64 and twice what is above.
use native.Mathlib.Omega.{arith}
use Rattle.moves.proofs.Frames.{doubles_small, doubles_huge}
use Rattle.moves.proofs.pairs.Goals as goal

pub returns-then-v-lt-HALF : goal.returns-then-v-lt-HALF
returns-then-v-lt-HALF c =
    doubles_small c.args.v

pub returns : goal.returns
returns c =
    doubles_huge c.args.v (omega arith)
