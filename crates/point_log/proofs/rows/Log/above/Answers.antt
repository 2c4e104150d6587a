-- `Log::above` meets its contract: all slots are above none, and else the last decides.
use Rattle.std.proofs.Common.{◌-◌, arith}
use Rattle.point_log.proofs.SearchLaws.{above_none, above_last}
use Rattle.point_log.proofs.rows.Log.above.Goals as goal

pub returns-then-self-eq0 : goal.returns-then-self-eq0
returns-then-self-eq0 g c = above_none _ _ _ c.if-self-eq0.true

pub returns : goal.returns
returns g c = let l = c.args.self.now in rw c.slot.ensures (above_last _ l.count (l.count - 1) _ (omega arith))
