use Rattle.std.proofs.Common.{◌≡◌, ◌<◌, ◌^◌}
use Rattle.base.specs.Numbers.{number}
use Rattle.ring.specs.Ring.{run}
use Rattle.ring.specs.Inside.{seen}
use Rattle.head.proofs.read.number_at.Given as goal

abbrev pub invariant-loop-j : goal.invariant-loop-j
invariant-loop-j l = (l.n ≡ number (run (seen l.v) l.at l.j)) × (l.n < 256 ^ l.j)
