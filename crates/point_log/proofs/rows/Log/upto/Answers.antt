-- `Log::upto` meets its contract. The loop's invariant: of slots that rise, those before `low` are at or below the slot, and those from `high` on
-- above it. The measure is `looks`, ⌊log2⌋ + 1 of what lies between them: each turn has one look and makes it less.
use Rattle.std.proofs.Common.{◌-◌, ◌<◌, arith}
use Rattle.point_log.proofs.LookLaws.{fewer}
use Rattle.point_log.proofs.SearchLaws.{between_met}
use Rattle.point_log.proofs.CallLaws.{found_is}
use Rattle.point_log.proofs.rows.Log.upto.Goals as goal

pub loop-low-smaller-then-slot : goal.loop-low-smaller-then-slot
loop-low-smaller-then-slot g c =
    let l = c.loop-low in
    let some : l.low < l.high = c.loop-low-test.true in fewer (l.high - l.low) _ (omega arith) (omega arith) (omega arith)

pub loop-low-smaller : goal.loop-low-smaller
loop-low-smaller g c =
    let l = c.loop-low in
    let some : l.low < l.high = c.loop-low-test.true in fewer (l.high - l.low) _ (omega arith) (omega arith) (omega arith)

pub returns : goal.returns
returns g c = found_is _ _ c.args.self.now.ranged (between_met c.loop-low.invariant c.loop-low-test.false)
