-- T1 of the calls over parallel slices. Each contract is one equation for the result, with what was lent for writing.
-- Assumes nothing.
use mathlib.Core.Path.{refl, sym, ap, ◌∙◌}
use Rattle.base.specs.Once.{Once}
use Rattle.slices.specs.Parallel.{ToldIn}
use Rattle.slices.specs.contracts.find as f
use Rattle.slices.proofs.find.Reads as find
use Rattle.slices.specs.contracts.back as b
use Rattle.slices.proofs.back.Reads as back
use Rattle.slices.specs.contracts.add as a
use Rattle.slices.proofs.add.Reads as add

pub once_find : Once f.ended find.Pre find.Post
once_find = record { every_input = λ lives a. tt; one_end = λ lives a r q after after' e f. (e ∙ sym f, refl) }

pub once_back : Once b.ended back.Pre back.Post
once_back = record { every_input = λ lives a. tt; one_end = λ lives a r q after after' e f. (e ∙ sym f, refl) }

pub once_add : Once a.ended add.Pre add.Post
once_add =
    record {
      every_input = λ lives a. tt;
      one_end = λ lives a r q after after' e f.
          let p = e ∙ sym f in (ap (λ (t : ToldIn). t.answer) p, ap (λ (t : ToldIn). (t.slots, (t.hashes, (tt, (tt, tt))))) p);
    }
