use Rattle.std.proofs.Common.{◌-◌, ◌<◌, get_or}
use Rattle.output.specs.Inside.{EndsInHex}
use Rattle.output.proofs.Writer.hex.Given as goal

abbrev pub invariant-loop-b : goal.invariant-loop-b
invariant-loop-b l = 0 < l.b-index → EndsInHex (get_or l.bytes (l.b-index - 1) 0) l.self.out.now l.self.at
