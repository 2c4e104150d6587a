-- T1 of the readings. Each contract is one equation for the result; nothing is lent for writing.
-- Assumes nothing.
use mathlib.Core.Path.{refl, sym, ◌∙◌}
use Rattle.base.specs.Once.{Once}
use Rattle.points.specs.contracts.read_point as p
use Rattle.points.proofs.read_point.Reads as point
use Rattle.points.specs.contracts.read_tip as t
use Rattle.points.proofs.read_tip.Reads as tip

pub once_point : Once p.ended point.Pre point.Post
once_point = record { every_input = λ lives a. tt; one_end = λ lives a r q after after' e f. (e ∙ sym f, refl) }

pub once_tip : Once t.ended tip.Pre tip.Post
once_tip = record { every_input = λ lives a. tt; one_end = λ lives a r q after after' e f. (e ∙ sym f, refl) }
