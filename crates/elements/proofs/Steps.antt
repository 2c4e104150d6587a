-- Ways out of the code that reads elements: by what was found, the answer is what the definition says.
-- Assumes nothing.
use Prim.Native.Nat.{ℕ, zero, suc, ◌+◌, ◌-◌, ◌≤◌, ◌<◌}
use mathlib.Core.Path.{◌≡◌, refl, sym, ap, subst, ◌∙◌}
use mathlib.Core.Bool.{Bool, true, false}
use mathlib.Core.List.{List}
use Rattle.std.specs.Prelude.{Option, Some, None}
use lib.Dec.{eqb}
use native.Mathlib.Omega.{arith}
use lib.ListN.{length, get_or, get_or-eq_default}
use Rattle.elements.specs.declared.Element.{Element}
use Rattle.elements.specs.declared.Extent.{Extent}
use Rattle.elements.specs.Matching.{Break}
use Rattle.elements.specs.Besides.Matching.{ElementAt}
use Rattle.elements.specs.Reading.{on_pair, closed, element_at, walk, bool_of}
use Rattle.elements.proofs.ElementLaws.{Pairwise, next_sound, advance}

module _ {A : Type 0} {B : Type 0} {C : Type 0} (other : C) (k : A → B → C) where
  -- two values, or none, were found
  pub pair_then : {n m : Option (A × B)} {x : A} {y : B} {r : C} → n ≡ m → n ≡ Some (x, y) → r ≡ k x y → r ≡ on_pair other m k
  pair_then e f g = g ∙ ap (λ (n : Option (A × B)). on_pair other n k) (sym f ∙ e)

  pub pair_not : {n m : Option (A × B)} → n ≡ m → n ≡ None → other ≡ on_pair other m k
  pair_not e f = ap (λ (n : Option (A × B)). on_pair other n k) (sym f ∙ e)

-- past the end there is no break
pub break_past : (bs : List ℕ) (p : ℕ) → length bs ≤ p → false ≡ eqb (get_or bs p 0) Break
break_past bs p h = rw (get_or-eq_default bs 0 h)

-- past the end there is no bool
pub bool_past : (bs : List ℕ) (p : ℕ) → length bs ≤ p → None ≡ bool_of (get_or bs p 0) p
bool_past bs p h = rw (get_or-eq_default bs 0 h)

-- ---- one element more, behind k of them

module _ (bs : List ℕ) (d : ℕ) (e : Element) (x : Extent) (k low p : ℕ) {t : Bool} (test : t ≡ closed bs x k p) where
  pub walk_end : t ≡ true → Some (k, p) ≡ walk bs d e x (length bs - k) k low p
  unfolding walk
  walk_end f = of (length bs - k)
    where
      c : closed bs x k p ≡ true
      c = sym test ∙ f

      of : (b : ℕ) → Some (k, p) ≡ walk bs d e x b k low p
      of zero = rw c
      of (suc b) = rw c

  module _ (f : t ≡ false) {m : Option (ℕ × ℕ)} (found : m ≡ element_at bs d e low p) where
    open_still : closed bs x k p ≡ false
    open_still = sym test ∙ f

    pub walk_stop : m ≡ None → None ≡ walk bs d e x (length bs - k) k low p
    unfolding walk
    walk_stop is = of (length bs - k)
      where
        of : (b : ℕ) → None ≡ walk bs d e x b k low p
        of zero = rw open_still
        of (suc b) = rw open_still (pair_not None (λ next q. walk bs d e x b (k + 1) next q) found is)

    module _ {next q : ℕ} (is : m ≡ Some (next, q)) where
      pub walk_forward : (p < q) × (q ≤ length bs)
      walk_forward = advance bs (subst (Pairwise (λ next q. ElementAt bs d e low p next q)) (sym found ∙ is) (next_sound bs d e low p))

      pub walk_on : k ≤ p → walk bs d e x (length bs - (k + 1)) (k + 1) next q ≡ walk bs d e x (length bs - k) k low p
      unfolding walk
      walk_on h =
          let z : length bs - k ≡ suc (length bs - (k + 1)) = omega (arith, walk_forward) in
          rw (z, open_still) (pair_then None (λ next q. walk bs d e x (length bs - (k + 1)) (k + 1) next q) found is refl)
