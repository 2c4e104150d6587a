use Rattle.std.proofs.Common.{◌-◌}
use Rattle.point_log.specs.Log.{slots_of}
use Rattle.point_log.specs.Inside.{Between, looks}
use Rattle.point_log.proofs.rows.Log.upto.Given as goal

abbrev pub invariant-loop-low : goal.invariant-loop-low
invariant-loop-low g l = Between (slots_of (g.R.Rows.records l.self.rows.now)) l.self.count l.slot l.low l.high

abbrev pub decreases-loop-low : goal.decreases-loop-low
decreases-loop-low g l = looks (l.high - l.low)
