-- `looking::look` meets its contract: what is heard decides.
use Rattle.std.proofs.Common.{sym, ◌∙◌}
use Rattle.hearing.proofs.HearingLaws.{shorter}
use Rattle.hearing.proofs.NumberLaws.{found}
use Rattle.looking.proofs.look.Goals as goal

-- a message is in its area
pub seen-requires : goal.seen-requires
seen-requires c =
    let (k, l) = found c.args.c c.args.store.now c.args.instance c.in-Ok.j (sym c.hear.ensures ∙ c.in-Ok.is) in
    shorter k c.in-Ok.j.len l
