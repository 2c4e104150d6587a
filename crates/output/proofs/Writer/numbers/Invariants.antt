use Rattle.std.proofs.Common.{◌-◌, ◌<◌, get_or}
use Rattle.output.specs.Inside.{EndsInDecimal}
use Rattle.output.proofs.Writer.numbers.Given as goal

abbrev pub invariant-loop-n : goal.invariant-loop-n
invariant-loop-n l = 0 < l.n-index → EndsInDecimal (get_or l.numbers (l.n-index - 1) 0) l.self.out.now l.self.at
