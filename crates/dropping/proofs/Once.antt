-- T1 of drop. The contract is one equation for the result.
-- Assumes nothing.
use mathlib.Core.Path.{refl, sym, ◌∙◌}
use Rattle.base.specs.Once.{Once}
use Rattle.dropping.specs.contracts.drop.{ended}
use Rattle.dropping.proofs.drop.Reads.{Pre, Post}

pub once : Once ended Pre Post
once =
    record {
      every_input = λ lives a. tt;
      one_end = λ lives a r q after after' e f. (e ∙ sym f, refl);
    }
