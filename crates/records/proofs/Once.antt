-- T1 of the calls over a slice of records. Each contract is one equation for the result, with what was lent for writing; `asks` and `says` have that
-- it is so in the source: whoever lets it say less, or something else, loses them.
-- Assumes nothing.
use Rattle.std.proofs.Common.{◌≡◌, refl, sym, ap, ◌∙◌}
use contract.Lifetimes.{Lfts}
use denote.Triple.Entry.{Args, Res}
use denote.Triple.Clauses.{AtExit}
use Rattle.base.specs.Once.{Once}
use Rattle.point_log.specs.Log.{find_of, back_of, Told, told, add_of}
use Rattle.records.specs.contracts.find as f
use Rattle.records.proofs.find.Reads as find
use Rattle.records.specs.contracts.back as b
use Rattle.records.proofs.back.Reads as back
use Rattle.records.specs.contracts.add as a
use Rattle.records.proofs.add.Reads as add

-- nothing is asked
pub find_asks : (lives : Lfts 1) (x : Args f.signature lives) → find.Pre lives x ≡ Unit {0}
find_asks lives x = refl

pub back_asks : (lives : Lfts 2) (x : Args b.signature lives) → back.Pre lives x ≡ Unit {0}
back_asks lives x = refl

pub add_asks : (lives : Lfts 2) (x : Args a.signature lives) → add.Pre lives x ≡ Unit {0}
add_asks lives x = refl

-- and this is said
pub find_says : (lives : Lfts 1) (x : Args f.signature lives) (r : Res f.signature lives) (e : AtExit f.ended lives)
    → find.Post lives x r e ≡ (r ≡ find_of x.0.now x.1.0 x.1.1.0)
find_says lives x r e = refl

pub back_says : (lives : Lfts 2) (x : Args b.signature lives) (r : Res b.signature lives) (e : AtExit b.ended lives)
    → back.Post lives x r e ≡ (r ≡ back_of x.0.now x.1.0 x.1.1.0.now)
back_says lives x r e = refl

pub add_says : (lives : Lfts 2) (x : Args a.signature lives) (r : Res a.signature lives) (e : AtExit a.ended lives)
    → add.Post lives x r e ≡ (told r e.0.now ≡ add_of x.0.now x.1.0 x.1.1.0.now)
add_says lives x r e = refl

pub once_find : Once f.ended find.Pre find.Post
once_find = record { every_input = λ lives a. tt; one_end = λ lives a r q after after' e f. (e ∙ sym f, refl) }

pub once_back : Once b.ended back.Pre back.Post
once_back = record { every_input = λ lives a. tt; one_end = λ lives a r q after after' e f. (e ∙ sym f, refl) }

pub once_add : Once a.ended add.Pre add.Post
once_add =
    record {
      every_input = λ lives a. tt;
      one_end = λ lives a r q after after' e f.
          let p = e ∙ sym f in (ap (λ (t : Told). t.answer) p, ap (λ (t : Told). (t.run, (tt, (tt, tt)))) p);
    }
