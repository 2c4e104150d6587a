-- What only functions below the operations cite: the place of a list's items, by where their array ends.
use Rattle.std.specs.Prelude.{ℕ, ◌-◌, Option, Some, None}
use Rattle.elements.specs.declared.Extent.{Extent}
use Rattle.elements.specs.declared.Extent.TheVariants.{Counted, Open, Rest}
use Rattle.elements.specs.declared.Part.{Part}
use Rattle.elements.specs.declared.Part.TheVariants as part
use Rattle.elements.specs.Reading.{on_end}

-- where the last element ends: a break stands behind it
abbrev pub before : Extent → ℕ → ℕ
before (Counted n) r = r
before Open r = r - 1
before Rest r = r

abbrev pub items_up_to : Extent → ℕ → Option ℕ → Option (Part × ℕ)
items_up_to x a e = on_end None e (λ r. Some (part.Place a (before x r - a), r))
