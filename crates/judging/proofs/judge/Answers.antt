-- `judging::judge` meets its contract: what is read is no message, or it is one, and its row is searched.
use Rattle.std.proofs.Common.{sym, ◌∙◌}
use Rattle.ring.specs.Inside.{seen}
use Rattle.ring.proofs.Views.{seen_length}
use Rattle.judging.proofs.JudgingLaws.{judged_wrong, judged_read}
use Rattle.judging.proofs.judge.Goals as goal

pub returns-in-Err : goal.returns-in-Err
returns-in-Err c =
    let a = c.args in
    judged_wrong a.p a.state (seen a.v) c.in-Err.why (sym c.in-Err.is ∙ c.read.ensures)

pub returns-in-Ok : goal.returns-in-Ok
returns-in-Ok c =
    let a = c.args in
    c.by_row.ensures
    ∙ judged_read a.p a.state (seen a.v) c.in-Ok.message a.v.len c.flag.result c.find-next.result
    (sym c.in-Ok.is ∙ c.read.ensures) (sym (seen_length a.v)) c.flag.ensures c.find-next.ensures
