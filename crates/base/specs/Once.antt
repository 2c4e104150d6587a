-- T1: that a contract determines how a call ends. It speaks of the contract in the source: for a function the checker makes `ended` of its
-- signature, `Pre` of its `requires` and `Post` of its `ensures`. So whoever lets the source say less loses the theorem.
use Rattle.std.specs.Prelude.{◌≡◌}
use contract.Lifetimes.{Lfts}
use denote.Triple.Entry.{Args, Res}
use denote.Triple.Clauses.{Ended, Lasts, AtExit, at_exit}

-- what is asked of the arguments, and what is said of arguments, result and parameters at exit
abbrev pub Asks : Ended → Type 1
Asks t = (lives : Lfts t.signature.lifetimes) → Args t.signature lives → Type 0

abbrev pub Says : Ended → Type 1
Says t = (lives : Lfts t.signature.lifetimes) → Args t.signature lives → Res t.signature lives → AtExit t lives → Type 0

-- Every input is allowed; and of two ends of a call that the contract allows on one input, the results are equal, and so is what all memory that
-- was lent for writing holds.
pub record Once (t : Ended) (Pre : Asks t) (Post : Says t) : Type 0 where
  pub every_input : (lives : Lfts t.signature.lifetimes) (a : Args t.signature lives) → Pre lives a
  pub one_end :
      (lives : Lfts t.signature.lifetimes) (a : Args t.signature lives) (r q : Res t.signature lives) (after after' : Lasts t lives a)
      → Post lives a r (at_exit t lives a after) → Post lives a q (at_exit t lives a after') → (r ≡ q) × (after ≡ after')
