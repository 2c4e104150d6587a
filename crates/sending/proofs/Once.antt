-- T1 of next segment. The contract is one equation for the result with the lent buffer.
-- Assumes nothing.
use mathlib.Core.Path.{sym, ap, ◌∙◌}
use Rattle.base.specs.Once.{Once}
use Rattle.sending.specs.NextSegment.{Told}
use Rattle.sending.specs.contracts.next_segment.{ended}
use Rattle.sending.proofs.next_segment.Reads.{Pre, Post}

pub once : Once ended Pre Post
once =
    record {
      every_input = λ lives a. tt;
      one_end = λ lives a r q after after' e f.
          let p = e ∙ sym f in (ap (λ (t : Told). t.answer) p, ap (λ (t : Told). (tt, (tt, (tt, (t.buffer, tt))))) p);
    }
