-- T1 of open. Its contract is one equation for the result; what is lent is lent for reading.
-- Assumes nothing.
use mathlib.Core.Path.{◌≡◌, refl, sym, ◌∙◌}
use lib.ListN.{length}
use contract.Lifetimes.{Lfts}
use denote.Triple.Entry.{Args, Res}
use denote.Triple.Clauses.{Lasts, at_exit}
use Rattle.base.specs.Once.{Once}
use Rattle.opening.specs.Openings.{open_of}
use Rattle.opening.specs.contracts.open.{ended}
use Rattle.opening.proofs.open.Reads.{Pre, Post}

pub once : Once ended Pre Post
once = record { every_input = λ lives a. tt; one_end = λ lives a r q after after' e f. (e ∙ sym f, refl) }

-- which equation: a contract with the two stores exchanged would leave one outcome too
pub says : (lives : Lfts ended.signature.lifetimes) (a : Args ended.signature lives) (r : Res ended.signature lives) (after : Lasts ended lives a)
    → Post lives a r (at_exit ended lives a after) → let (settings, (receive, (send, _))) = a in open_of settings (length receive.now) (length send.now) ≡ r
says lives a r after e = sym e
