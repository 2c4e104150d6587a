-- T1 of look, of part and of meet. Look's contract is one equation for the result with scratch; the part's says where it lies and its bytes, which is all of a slice.
-- Assumes nothing.
use mathlib.Core.Path.{◌≡◌, sym, ap, ◌∙◌}
use mathlib.Core.List.{List}
use Prim.Native.Nat.{ℕ}
use Rattle.base.specs.Once.{Asks, Says, Once}
use contract.Lifetimes.{Lfts}
use denote.Triple.Entry.{Args, Res}
use denote.Triple.Clauses.{Ended, Lasts, at_exit}
use denote.Ref.{Bor}
use Rattle.looking.specs.Looking.{Told}
use Rattle.looking.specs.contracts.look.{ended}
use Rattle.looking.proofs.look.Reads.{Pre, Post}
use Rattle.looking.specs.contracts.part as part
use Rattle.looking.proofs.part.Reads as part_says
use Rattle.looking.specs.contracts.meet as meet
use Rattle.looking.proofs.meet.Reads as meet_says
use Rattle.looking.proofs.PartLaws.{one_part}

pub once : Once ended Pre Post
once =
    record {
      every_input = λ lives a. tt;
      one_end = λ lives a r q after after' e f.
          let p = e ∙ sym f in (ap (λ (t : Told). t.answer) p, ap (λ (t : Told). (tt, (tt, (tt, (t.scratch, tt))))) p);
    }

-- the part: every input is allowed, and two results lie in the same place and have the same bytes
abbrev OneMemory : (t : Ended) → Asks t → Says t → ((lives : Lfts t.signature.lifetimes) → Res t.signature lives → Bor (List ℕ)) → Type 0
OneMemory t Pre Post ref =
    (lives : Lfts t.signature.lifetimes) (a : Args t.signature lives) (r q : Res t.signature lives) (after after' : Lasts t lives a)
    → Post lives a r (at_exit t lives a after) → Post lives a q (at_exit t lives a after')
    → Pre lives a × ((ref lives r).ref_ptr ≡ (ref lives q).ref_ptr) × ((ref lives r).now ≡ (ref lives q).now)

pub once_part : OneMemory part.ended part_says.Pre part_says.Post (λ lives r. r)
once_part lives a r q after after' e f =
    let (store, (scratch, (place, (len, _)))) = a in let (memory, bytes) = one_part place len store scratch r q e f in (tt, memory, bytes)

pub once_meet : OneMemory meet.ended meet_says.Pre meet_says.Post (λ lives r. r)
once_meet lives a r q after after' e f =
    let (store, (scratch, (place, (len, _)))) = a in let (memory, bytes) = one_part place len store scratch r q e f in (tt, memory, bytes)
