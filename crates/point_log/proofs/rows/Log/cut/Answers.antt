-- `Log::cut` meets its contract: where the slots rise, only the last at or below its slot can be the point.
use Rattle.std.proofs.Common.{◌≡◌, ap, sym, ◌∙◌}
use Rattle.points.specs.declared.Place.{Place}
use Rattle.point_log.specs.Log.{same}
use Rattle.point_log.proofs.CallLaws.{is_block, cut_found, cut_not}
use Rattle.point_log.proofs.rows.Log.cut.Goals as goal

pub returns-in-Block : goal.returns-in-Block
returns-in-Block g c =
    let h : c.eq.result ≡ same c.in-Block.last c.args.p = rw (← c.in-Block.last-is) c.eq.ensures in
    cut_found _ _ _ c.args.self.now.ranged c.find-found.ensures (ap (λ (q : Place). is_block q c.args.p) c.in-Block.is ∙ sym h ∙ c.if-eq.true)

pub returns-in_default : goal.returns-in_default
returns-in_default g c =
    let h : c.eq.result ≡ same c.in-Block.last c.args.p = rw (← c.in-Block.last-is) c.eq.ensures in
    cut_not _ _ _ c.args.self.now.ranged c.find-found.ensures (ap (λ (q : Place). is_block q c.args.p) c.in-Block.is ∙ sym h ∙ c.if-eq.false)

pub returns-in_default-2 : goal.returns-in_default-2
returns-in_default-2 g c =
    cut_not _ _ _ c.args.self.now.ranged c.find-found.ensures (ap (λ (q : Place). is_block q c.args.p) c.in_default.is)
