-- `rows::rises` meets its contract. The loop's invariant: `good` tells the rise of the first i slots.
use Rattle.std.proofs.Common.{refl, ◌∙◌, inl, inr, arith}
use Rattle.point_log.specs.Log.{slots_of, rises_to}
use Rattle.point_log.proofs.SearchLaws.{rises_more, rises_end}
use Rattle.point_log.proofs.rows.rises.Goals as goal

pub loop-i-init : goal.loop-i-init
unfolding rises_to
loop-i-init g c = record { none_past = inr refl; so_far = refl }

pub loop-i-preserved : goal.loop-i-preserved
loop-i-preserved g c = record { none_past = inl (omega arith); so_far = cc (rises_more (slots_of (g.R.Rows.records c.args.rows.now)) c.loop-i.i (omega arith)) }

pub returns : goal.returns
returns g c = let inv = c.loop-i.invariant in inv.so_far ∙ rises_end _ _ _ (omega arith) inv.none_past (omega arith)
