-- `rows::spoken::protocol` meets its contract: the table has the protocol of each number.
use mathlib.Core.Path.{ap, ◌∙◌}
use native.Mathlib.Omega.{arith}
use Rattle.rows.specs.Spoken.{spoken, speaks}
use Rattle.rows.proofs.SpokenLaws.{by_number, spoken_right}
use Rattle.rows.proofs.spoken.protocol.Goals as goal

pub returns : goal.returns
unfolding speaks by_number
returns c = spoken_right _ (omega (arith, c.from.ensures, c.protocol.ensures.1)) ∙ ap spoken (c.from.ensures ∙ c.protocol.ensures.0)
