-- A run is counted exactly as what stands in it.
-- Assumes nothing.
use Prim.Native.Nat.{ℕ, ◌≤◌}
use mathlib.Core.Path.{refl, ap, subst}
use mathlib.Core.List.{List}
use Rattle.std.specs.Prelude.{Option, Some, None}
use native.Mathlib.Omega.{arith}
use lib.ListN.{length}
use Rattle.elements.specs.declared.Element.{Element}
use Rattle.elements.specs.declared.Extent.TheVariants.{Rest}
use Rattle.elements.specs.Besides.Matching.{ElementsAt}
use Rattle.elements.specs.Matching.{in_list}
use Rattle.elements.specs.Reading.{on_pair, elements_of}
use Rattle.elements.proofs.ElementLaws.{pair_cases, elements_sound, elements_found, elements_on}
use Rattle.parts.specs.Counting.{count_of}
use Rattle.parts.specs.Besides.Theorem.{Counts}
use Rattle.parts.proofs.Counting.{Found}

-- what is counted stands there, and there are no more elements than bytes
pub counted : (e : Element) (run : List ℕ) → Found (λ k. ElementsAt run in_list e 0 k 0 (length run) × (k ≤ length run)) (count_of e run)
counted e run =
    pair_cases (Found (λ k. ElementsAt run in_list e 0 k 0 (length run) × (k ≤ length run))) (λ k q. Some k) (elements_of run in_list e Rest 0)
    (elements_sound run in_list e Rest 0) tt
    (λ k q (s, c). let t = subst (λ (q : ℕ). ElementsAt run in_list e 0 k 0 q) c s in (t, omega (arith, elements_on run t)))

pub counts : Counts
counts e run k = (
  λ c. (subst (Found (λ k. ElementsAt run in_list e 0 k 0 (length run) × (k ≤ length run))) c (counted e run)).0,
  λ s. ap (λ (o : Option (ℕ × ℕ)). on_pair None o (λ k q. Some k)) (elements_found run in_list e Rest (omega arith) s refl),
)
