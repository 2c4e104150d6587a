-- How many elements a run of bytes is, end to end.
use Rattle.std.specs.Prelude.{ℕ, List, Option, Some, None}
use Rattle.elements.specs.declared.Element.{Element}
use Rattle.elements.specs.declared.Extent.TheVariants.{Rest}
use Rattle.elements.specs.Matching.{in_list}
use Rattle.elements.specs.Reading.{on_pair, elements_of}

abbrev pub on_some : {A B : Type 0} → Option A → (A → Option B) → Option B
on_some None k = None
on_some (Some a) k = k a

-- A list's run is its items end to end, or its pairs; a map's its keys and values, where a key is above the one before.
abbrev pub count_of : Element → List ℕ → Option ℕ
count_of e run = on_pair None (elements_of run in_list e Rest 0) (λ k q. Some k)
