-- T1 of status. Its contract is one equation for the result; nothing is lent.
-- Assumes nothing.
use mathlib.Core.Path.{refl, sym, ◌∙◌}
use Rattle.base.specs.Once.{Once}
use Rattle.telling.specs.contracts.status.{ended}
use Rattle.telling.proofs.status.Reads.{Pre, Post}

pub once : Once ended Pre Post
once = record { every_input = λ lives a. tt; one_end = λ lives a r q after after' e f. (e ∙ sym f, refl) }
