-- T1 of put. The contract is one equation for the result with the lent store.
-- Assumes nothing.
use mathlib.Core.Path.{sym, ap, ◌∙◌}
use Rattle.base.specs.Once.{Once}
use Rattle.putting.specs.Putting.{Told}
use Rattle.putting.specs.contracts.put.{ended}
use Rattle.putting.proofs.put.Reads.{Pre, Post}

pub once : Once ended Pre Post
once =
    record {
      every_input = λ lives a. tt;
      one_end = λ lives a r q after after' e f.
          let p = e ∙ sym f in (ap (λ (t : Told). t.answer) p, ap (λ (t : Told). (tt, (t.store, (tt, (tt, tt))))) p);
    }
