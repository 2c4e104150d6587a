-- T1's tie: each contract is an equation with the definition that `step` is made of.
-- Assumes nothing.
use Prim.Native.Nat.{ℕ, ◌+◌}
use mathlib.Core.Path.{◌≡◌, refl, sym, ◌∙◌}
use mathlib.Core.List.{List}
use lib.Dec.{leb}
use lib.ListN.{length}
use denote.Ref.{Bor}
use Rattle.base.proofs.Conds.{by_test}
use Rattle.ring.specs.Ring.{run}
use Rattle.opening.proofs.Once as opening
use Rattle.looking.specs.declared.Place.{Place}
use Rattle.looking.specs.declared.Place.TheVariants.{Store, Scratch, Nowhere}
use Rattle.looking.specs.Looking.{within, Shows}
use Rattle.looking.proofs.PartLaws.{cut_none}
use Rattle.promises.specs.Calls.{step}
use Rattle.promises.specs.History.{cut_of, part_at}
use Rattle.promises.specs.Determined.{Tied}

-- the part at a place
cut_is : (bs : List ℕ) (at n : ℕ) → run bs (within (length bs) at n).0 (within (length bs) at n).1 ≡ cut_of bs at n
cut_is bs at n = by_test (leb (at + n) (length bs)) (λ t. rw t) (λ t. rw t)

part_is : (p : Place) (len : ℕ) (store scratch r : Bor (List ℕ)) → Shows p len store scratch r → r.now ≡ part_at p len store.now scratch.now
part_is (Store at) len store scratch r k = k.bytes ∙ cut_is store.now at len
part_is Scratch len store scratch r k = k.bytes ∙ cut_is scratch.now 0 len
part_is Nowhere len store scratch r k = cut_none store r k

pub tied : Tied
unfolding step
tied =
    record {
      opening = opening.says;
      feed = λ lives a r after e send. rw (← e) refl;
      look = λ lives a r after e send. rw (← e) refl;
      part = λ lives (store, (scratch, (place, (len, _)))) r after e. part_is place len store scratch r e;
      drop = λ lives a r after e send. rw (← e) refl;
      build = λ lives a r after e. sym e;
      put = λ lives a r after e receive. rw (← e) refl;
      next_segment = λ lives a r after e receive. rw (← e) refl;
      status = λ lives a r after e receive send. rw (← e) refl;
    }
