-- `dropping::drop` meets its contract: what is heard decides.
use Rattle.std.proofs.Common.{sym, ap, ◌∙◌, arith}
use Rattle.hearing.proofs.NumberLaws.{found}
use Rattle.dropping.proofs.DroppingLaws.{drop_by}
use Rattle.dropping.proofs.drop.Goals as goal

-- what is held is in the area, and the message is not longer
pub freed-requires : goal.freed-requires
freed-requires c =
    let (k, l) = found c.args.c c.args.store.now c.args.instance c.in-Ok.j (sym c.hear.ensures ∙ c.in-Ok.is) in
    (k.below, k.some, omega (arith, k.placed, k.small, l, k.within), l)
