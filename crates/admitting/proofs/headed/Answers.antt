-- `admitting::headed` meets its contract: the test whether the header is whole decides.
use mathlib.Core.Path.{sym, ◌∙◌}
use Rattle.admitting.proofs.HeaderLaws.{heads_whole, heads_part}
use Rattle.admitting.proofs.headed.Goals as goal

pub returns-then-whole : goal.returns-then-whole
returns-then-whole c =
    let n = c in
    let a = n.args in
    heads_whole a.party a.caps.now a.held.now a.w a.b n.add-header.result c.admit.result c.settled.result
    n.add-header.ensures
    (sym c.whole.ensures ∙ c.if-whole.true)
    c.admit.ensures
    c.settled.ensures

pub returns : goal.returns
returns c =
    let a = c.args in
    heads_part a.party a.caps.now a.held.now a.w a.b c.add-header.result c.add-header.ensures
    (sym c.whole.ensures ∙ c.if-whole.false)
