-- A slice read from its front to its end does not go around.
use Rattle.ring.proofs.Around.{around_all}
use Rattle.ring.proofs.view.View.all.Goals as goal

pub returns : goal.returns
returns c = around_all c.args.bytes.now
