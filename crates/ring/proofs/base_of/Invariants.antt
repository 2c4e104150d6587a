-- So far the sum is where the next area begins.
use Rattle.std.proofs.Common.{◌≡◌}
use Rattle.ring.specs.Ring.{base_of}
use Rattle.ring.proofs.base_of.Given as goal

abbrev pub invariant-loop-cap : goal.invariant-loop-cap
invariant-loop-cap l = l.sum ≡ base_of l.caps l.cap-index
