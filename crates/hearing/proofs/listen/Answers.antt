-- `hearing::listen` meets its contract: the bytes held lie around the area, from the start place on.
use Rattle.std.proofs.Common.{ap, List, ℕ, arith}
use Rattle.judging.specs.Judging.{view_of, heard}
use Rattle.hearing.proofs.HearingLaws.{part_long, held_there}
use Rattle.hearing.proofs.listen.Goals as goal

pub invariant_of-held : goal.invariant_of-held
invariant_of-held c =
    let k = c.requires.held in
    let long = part_long _ c.args.store.now c.args.i _ _ k c.base_of-base.result c.base_of-base.ensures in
    record { begins_inside = omega (arith, long, k.placed); once_round = omega (arith, long, k.within) }

pub heard-requires : goal.heard-requires
heard-requires c = c.requires.asked.1

pub returns : goal.returns
returns c =
    let there = held_there _ c.args.store.now c.args.i _ _ c.requires.held c.base_of-base.result c.base_of-base.ensures in
    rw c.heard.ensures (ap (λ (bs : List ℕ). heard (view_of c.args.c.now c.args.i bs)) there)
