-- What is found at a place: a number, where an item or an element ends, how many elements there are, and what a field says.
use Rattle.std.specs.Prelude.{ℕ, zero, suc, ◌+◌, ◌-◌, Bool, cond, ◌&&◌, List, eqb, ltb, leb, length, get_or, drop, Option, Some, None, Ok, Err}
use Rattle.head.specs.Read.{head_at}
use Rattle.head.specs.declared.read.Head.{Head}
use Rattle.head.specs.declared.read.Head.TheVariants as head
use Rattle.item.specs.Verdict.{judge, start, Verdict}
use Rattle.elements.specs.declared.Element.{Element}
use Rattle.elements.specs.declared.Element.TheVariants as element
use Rattle.elements.specs.declared.Extent.{Extent}
use Rattle.elements.specs.declared.Extent.TheVariants.{Counted, Open, Rest}
use Rattle.elements.specs.declared.Field.{Field}
use Rattle.elements.specs.declared.Field.TheVariants as field
use Rattle.elements.specs.declared.Part.{Part}
use Rattle.elements.specs.declared.Part.TheVariants as part
use Rattle.elements.specs.Matching.{array, Break, past, versions, sizes, False, True, in_message, in_list, opener}

-- ---- numbers and ends, and what is made of them

abbrev pub on_pair : {A : Type 0} {B : Type 0} {C : Type 0} → C → Option (A × B) → (A → B → C) → C
on_pair other (Some (x, y)) k = k x y
on_pair other None k = other

-- where something ends, if it is what it should be
abbrev pub End : Type 0
End = Option ℕ

abbrev pub on_end : {A : Type 0} → A → End → (ℕ → A) → A
on_end other (Some q) k = k q
on_end other None k = other

-- An unsigned number, and the place behind it.
abbrev pub unsigned : Head → Option (ℕ × ℕ)
unsigned (head.Definite major v next) = cond (eqb major 0) (Some (v, next)) None
unsigned (head.Indefinite major next) = None
unsigned (head.Break next) = None
unsigned head.Short = None
unsigned head.Bad = None

unfoldable pub unsigned_at : List ℕ → ℕ → Option (ℕ × ℕ)
unsigned_at bs p = unsigned (head_at bs p)

-- How far the elements of an array, or the pairs of a map, go, and the place of the first.
abbrev pub opens : ℕ → Head → Option (Extent × ℕ)
opens m (head.Definite major v next) = cond (eqb major m) (Some (Counted v, next)) None
opens m (head.Indefinite major next) = cond (eqb major m) (Some (Open, next)) None
opens m (head.Break next) = None
opens m head.Short = None
opens m head.Bad = None

unfoldable pub opens_at : List ℕ → ℕ → ℕ → Option (Extent × ℕ)
opens_at bs m p = opens m (head_at bs p)

-- Elements of this extent are at their end, with k of them, the last of which ends at place p.
abbrev pub closed : List ℕ → Extent → ℕ → ℕ → Bool
closed bs (Counted n) k p = eqb k n
closed bs Open k p = eqb (get_or bs p 0) Break
closed bs Rest k p = eqb p (length bs)

abbrev pub ended : Verdict → Option ℕ
ended (Ok q) = Some q
ended (Err e) = None

-- Where the item at place p ends.
unfoldable pub item_end : List ℕ → ℕ → ℕ → Option ℕ
item_end bs d p = ended (judge (drop p bs) p (start d))

-- ---- elements

-- The end of an element, and what the element leaves to the next.
abbrev pub leaving : ℕ → Option ℕ → Option (ℕ × ℕ)
leaving next e = on_end None e (λ q. Some (next, q))

-- Where a size ends, an item with its size, and a pair.
unfoldable pub size_end : List ℕ → ℕ → Option ℕ
size_end bs p = on_pair None (unsigned_at bs p) (λ v q. cond (ltb v sizes) (Some q) None)

unfoldable pub sized_end : List ℕ → ℕ → ℕ → Option ℕ
sized_end bs d p = on_end None (item_end bs d p) (λ q. size_end bs q)

-- An array of an item and its size is at its end behind the size.
abbrev pub two_end : List ℕ → Extent → ℕ → Option ℕ
two_end bs x q = cond (closed bs x 2 q) (Some (past x q)) None

unfoldable pub pair_end : List ℕ → ℕ → ℕ → Option ℕ
pair_end bs d p = on_pair None (opens_at bs array p) (λ x a. on_end None (sized_end bs (d - 1) a) (λ q. two_end bs x q))

-- The version, not below `low`, that is a key of the map; with its value, it leaves that the next is greater.
unfoldable pub key_at : List ℕ → ℕ → ℕ → Option (ℕ × ℕ)
key_at bs low p = on_pair None (unsigned_at bs p) (λ v q. cond (leb low v && ltb v versions) (Some (v, q)) None)

unfoldable pub version_at : List ℕ → ℕ → ℕ → ℕ → Option (ℕ × ℕ)
version_at bs d low p = on_pair None (key_at bs low p) (λ v a. leaving (v + 1) (item_end bs d a))

-- The next element: what it leaves, and the place behind it.
unfoldable pub element_at : List ℕ → ℕ → Element → ℕ → ℕ → Option (ℕ × ℕ)
element_at bs d element.Item low p = leaving 0 (item_end bs d p)
element_at bs d element.Pair low p = leaving 0 (pair_end bs d p)
element_at bs d element.Version low p = version_at bs d low p

-- Behind k elements: how many there are in all, and where the last of them ends. There are no more of them than bytes.
unfoldable pub walk : List ℕ → ℕ → Element → Extent → ℕ → ℕ → ℕ → ℕ → Option (ℕ × ℕ)
walk bs d e x zero k low p = cond (closed bs x k p) (Some (k, p)) None
walk bs d e x (suc bytes) k low p =
    cond (closed bs x k p) (Some (k, p)) (on_pair None (element_at bs d e low p) (λ next q. walk bs d e x bytes (k + 1) next q))

abbrev pub elements_of : List ℕ → ℕ → Element → Extent → ℕ → Option (ℕ × ℕ)
elements_of bs d e x p = walk bs d e x (length bs) 0 0 p

-- ---- fields: what is said, and the place behind it

abbrev pub below : ℕ → Option (ℕ × ℕ) → Option (Part × ℕ)
below limit n = on_pair None n (λ v q. cond (ltb v limit) (Some (part.Number v, q)) None)

abbrev pub up_to : ℕ → Option ℕ → Option (Part × ℕ)
up_to a e = on_end None e (λ q. Some (part.Place a (q - a), q))

abbrev pub listed : Extent → ℕ → Option (ℕ × ℕ) → Option (Part × ℕ)
listed x a n = on_pair None n (λ k q. Some (part.Place a (q - a), past x q))

abbrev pub bool_of : ℕ → ℕ → Option (Part × ℕ)
bool_of b p = cond (eqb b False) (Some (part.Number 0, p + 1)) (cond (eqb b True) (Some (part.Number 1, p + 1)) None)

-- What a field at place p says, and the place behind it.
unfoldable pub part_of : List ℕ → Field → ℕ → Option (Part × ℕ)
part_of bs field.Item p = up_to p (item_end bs in_message p)
part_of bs (field.List e) p = on_pair None (opens_at bs (opener e) p) (λ x a. listed x a (elements_of bs in_list e x a))
part_of bs (field.Below limit) p = below limit (unsigned_at bs p)
part_of bs field.Bool p = bool_of (get_or bs p 0) p
