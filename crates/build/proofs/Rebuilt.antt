-- T9: what is read can be made again. What is made of a message's own parts is a piece for all its bytes, and it reads back
-- because a run is no longer than the message.
-- Assumes nothing.
use Prim.Native.Nat.{ℕ, ◌-◌, ◌^◌, ◌≤◌, ◌<◌}
use mathlib.Core.Path.{◌≡◌, sym, subst, ◌∙◌}
use mathlib.Core.List.{List, [], ◌∷◌}
use native.Mathlib.Omega.{arith}
use native.Mathlib.Nat.{min-le_right}
use lib.ListN.{length, drop, length-take, length-drop}
use lib.Seq.{take_all}
use Rattle.ring.specs.Ring.{run}
use Rattle.elements.specs.Besides.Matching.{Value, number, place}
use Rattle.build.specs.Besides.Theorem.{runs_of, numbers_of, Slices, Rebuilds}
use Rattle.build.proofs.OneForm.{Leastly, own-one}
use Rattle.build.proofs.Pieces.{message_made}
use Rattle.build.proofs.Theorem.{read_back}

-- the runs of a slice are slices
slices : (bs : List ℕ) (xs : List Value) → length bs < 2 ^ 64 → Slices (runs_of bs xs)
slices bs [] h = tt
slices bs (number v ∷ xs) h = slices bs xs h
slices bs (place a l ∷ xs) h =
    let n : ℕ = length (drop a bs) in
    let short : length (run bs a l) ≤ n = subst (λ (k : ℕ). k ≤ n) (sym (length-take l (drop a bs))) (min-le_right l n) in
    (omega (arith, length-drop a bs), slices bs xs h)

pub rebuilds : Rebuilds
rebuilds p bs kind xs asked bytes slice given =
    let m = message_made bs asked p bytes given in
    let message : List ℕ = m.0 in
    let back = read_back p kind asked (numbers_of xs) (runs_of bs xs) message (slices bs xs slice) m.1 in
    let all : run bs 0 (length bs - 0) ≡ bs = take_all (length bs - 0) bs (omega arith) in
    record {
      message = message;
      made = m.1;
      no_longer = λ h s. omega (arith, m.2.no_longer (h, s));
      same = (
        λ e. let least : Leastly asked p bs kind = subst (λ (bs : List ℕ). Leastly asked p bs kind) e (back.0, back.1, back.4) in own-one asked bs p least.1 given least.2,
        λ s. m.2.same s ∙ all,
      );
      values = back.0;
      says = back.1;
      numbers = back.2;
      runs = back.3;
    }
