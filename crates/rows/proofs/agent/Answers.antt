-- `rows::agent` meets its contract: the search is that for the first row of the state.
use mathlib.Core.Path.{◌∙◌}
use Rattle.rows.proofs.RowLaws.{first_agent}
use Rattle.rows.proofs.agent.Goals as goal

pub returns : goal.returns
returns c = c.agency_at.ensures ∙ first_agent c.args.state c.rows.result.now ∙ rw c.rows.ensures
