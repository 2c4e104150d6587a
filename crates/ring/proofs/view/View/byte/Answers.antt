-- The byte lies before the slice's end, or behind its front.
use Rattle.std.proofs.Common.{rules, sym}
use Rattle.ring.proofs.Around.{around_near, around_far}
use Rattle.ring.proofs.view.View.byte.Goals as goal

pub returns-then-j-ahead : goal.returns-then-j-ahead
returns-then-j-ahead c = sym (around_near _ _ _ _ (search rules) (search rules))

pub returns-else-j-ahead : goal.returns-else-j-ahead
returns-else-j-ahead c = sym (around_far _ _ _ _ (search rules) (search rules))
