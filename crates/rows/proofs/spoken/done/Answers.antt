-- `rows::spoken::done` meets its contract: the array by instance has it.
use mathlib.Core.Path.{◌∙◌}
use native.Mathlib.Omega.{arith}
use Rattle.wire.proofs.InstanceLaws.{at_most}
use Rattle.rows.proofs.spoken.done.Goals as goal

pub bounds-last_states-i : goal.bounds-last_states-i
bounds-last_states-i c = omega (arith, at_most c.args.bundle)

pub returns : goal.returns
returns c = c.from.ensures ∙ c.last_states.ensures c.args.i c.requires
