use Rattle.std.proofs.Common.{◌-◌, ◌<◌, get_or}
use Rattle.output.specs.Inside.{EndsInDecimal}
use Rattle.output.proofs.Writer.list.Given as goal

abbrev pub invariant-loop-i : goal.invariant-loop-i
invariant-loop-i l = 0 < l.i → EndsInDecimal (get_or l.numbers (l.i - 1) 0) l.self.out.now l.self.at
