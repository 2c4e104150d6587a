-- `rows::find` meets its contract: the search is that for the first row of the message in the state.
use mathlib.Core.Path.{◌∙◌}
use Rattle.rows.proofs.RowLaws.{first_next}
use Rattle.rows.proofs.find.Goals as goal

pub returns : goal.returns
returns c = let a = c.args in c.next_at.ensures ∙ first_next a.state a.kind a.flag c.rows.result.now ∙ rw c.rows.ensures
