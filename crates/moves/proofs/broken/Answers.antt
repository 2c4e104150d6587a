-- `moves::broken` meets its contract: where a break may come, the level wants nothing from then on.
use mathlib.Core.Path.{sym, ◌∙◌}
use Rattle.moves.proofs.AnyHead.{ends, no_end}
use Rattle.moves.proofs.broken.Goals as goal

pub returns-then-breaks : goal.returns-then-breaks
returns-then-breaks c =
    let a = c.args in λ xs d l g s e. ends xs a.at a.level.kind a.level.count d l s g e (sym c.breaks.ensures ∙ c.if-breaks.true)

pub returns : goal.returns
returns c =
    let a = c.args in λ xs d l g s e. no_end xs a.at a.level.kind a.level.count d l s e (sym c.breaks.ensures ∙ c.if-breaks.false)
