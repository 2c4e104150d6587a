-- `elements::elements_at` meets its contract: items end where their array ends, and other elements end in the view.
use mathlib.Core.List.{List}
use Prim.Native.Nat.{ℕ}
use mathlib.Core.Path.{◌≡◌, sym, ◌∙◌}
use native.Mathlib.Omega.{arith}
use Rattle.std.specs.Prelude.{Some}
use Rattle.ring.specs.Inside.{seen}
use Rattle.ring.proofs.Views.{seen_length}
use Rattle.elements.specs.declared.Element.{Element}
use Rattle.elements.specs.declared.Element.TheVariants.{Item}
use Rattle.elements.specs.declared.Extent.{Extent}
use Rattle.elements.specs.Matching.{in_message, in_list, opener}
use Rattle.elements.specs.Inside.{items_up_to}
use Rattle.elements.specs.Reading.{opens_at, item_end, elements_of, listed}
use Rattle.elements.proofs.ElementLaws.{items_end, list_end}
use Rattle.elements.proofs.elements_at.Goals as goal

-- items, where the elements are items
items : (bs : List ℕ) (e : Element) (x : Extent) (p a : ℕ) → e ≡ Item → opens_at bs (opener e) p ≡ Some (x, a)
    → listed x a (elements_of bs in_list e x a) ≡ items_up_to x a (item_end bs in_message p)
items bs e x p a is found = rw is (sym (items_end bs x p (rw is at found)))

pub returns-in_err-r-in-Item : goal.returns-in_err-r-in-Item
returns-in_err-r-in-Item c =
    let a = c.args in
    rw (items (seen a.v) a.e a.x a.at a.first c.in-Item.is c.requires.1, sym c.element_end.ensures ∙ c.in_err-r-in-Item.was) c.from_residual.ensures

pub returns-in_ok-r-in-Item : goal.returns-in_ok-r-in-Item
returns-in_ok-r-in-Item c =
    let a = c.args in
    rw (items (seen a.v) a.e a.x a.at a.first c.in-Item.is c.requires.1, sym c.element_end.ensures ∙ c.in_ok-r-in-Item.was, c.saturating_sub.ensures, c.before-in-Item.ensures)

pub past-requires : goal.past-requires
past-requires c =
    let a = c.args in
    let long = seen_length a.v in
    omega (arith, list_end (seen a.v) a.e a.x a.at c.requires.1 (sym c.walk.ensures ∙ c.in_ok-q-in-Pair.was))
