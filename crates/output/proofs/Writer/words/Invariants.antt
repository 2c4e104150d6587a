use Rattle.std.proofs.Common.{◌-◌, ◌<◌, get_or}
use Rattle.output.specs.Inside.{EndsIn}
use Rattle.output.proofs.Writer.words.Given as goal

abbrev pub invariant-loop-b : goal.invariant-loop-b
invariant-loop-b l = 0 < l.b-index → EndsIn (get_or l.words (l.b-index - 1) 0) l.self.out.now l.self.at
