-- What it is for bytes to match a field: what stands at a place, and what it says. Places are counted from the message's first
-- byte, which is at place 0.
use Rattle.std.specs.Prelude.{ℕ, zero, suc, ◌+◌, ◌-◌, ◌≤◌, ◌<◌, ◌≡◌, List, length, get_or, drop}
use Rattle.head.specs.Read.{head_at}
use Rattle.head.specs.declared.read.Head.TheVariants.{Definite}
use Rattle.item.specs.Grammar.{Frame, One, Items, Reads}
use Rattle.elements.specs.declared.Element.{Element}
use Rattle.elements.specs.declared.Element.TheVariants as element
use Rattle.elements.specs.declared.Extent.{Extent}
use Rattle.elements.specs.declared.Extent.TheVariants.{Counted, Open, Rest}
use Rattle.elements.specs.declared.Field.{Field}
use Rattle.elements.specs.declared.Field.TheVariants as field
use Rattle.elements.specs.Matching.{array, indefinite, Break, past, versions, sizes, False, True, in_message, in_list, opener}

-- What a field says: a number, or the start and length of an item, or of a list's or map's elements.
pub data Value : Type 0 where
  number : ℕ → Value
  place : ℕ → ℕ → Value

-- From place p up to place q stands what f wants, well-formed within the nesting d.
pub record Stands (bs : List ℕ) (d : ℕ) (f : Frame) (p q : ℕ) : Type 0 where
  pub forward : p ≤ q
  pub inside : q ≤ length bs
  pub reads : Reads d f (drop p bs) (drop q bs)

-- One item, and k items end to end.
abbrev pub ItemAt : List ℕ → ℕ → ℕ → ℕ → Type 0
ItemAt bs d p q = Stands bs d One p q

abbrev pub ItemsAt : List ℕ → ℕ → ℕ → ℕ → ℕ → Type 0
ItemsAt bs d k p q = Stands bs d (Items k) p q

-- From place p up to place q stands the unsigned number v; its head may have any width.
abbrev pub UnsignedAt : List ℕ → ℕ → ℕ → ℕ → Type 0
UnsignedAt bs p v q = head_at bs p ≡ Definite 0 v q

-- At place p opens an array, or a map, of this extent, its first element, or pair, at place a: of definite or of indefinite length. No head
-- opens a run that is given to build.
abbrev pub Opens : List ℕ → ℕ → ℕ → Extent → ℕ → Type 0
Opens bs m p (Counted k) a = head_at bs p ≡ Definite m k a
Opens bs m p Open a = (get_or bs p 0 ≡ indefinite m) × (a ≡ p + 1)
Opens bs m p Rest a = ⊥

-- With k elements, or pairs, the last of which ends at place q, it is at its end: counted, it has so many; open, a break stands there; the rest
-- of a run, that is, a run given to build, goes up to its last byte.
abbrev pub Closes : List ℕ → Extent → ℕ → ℕ → Type 0
Closes bs (Counted n) k q = k ≡ n
Closes bs Open k q = get_or bs q 0 ≡ Break
Closes bs Rest k q = q ≡ length bs

-- An element within the nesting d, from place p up to place q: an item; a pair [item, size]; or a version and its value, an item. A
-- version is not below `low`, and the next one not below what follows p: each is greater than the one before.
pub data ElementAt (bs : List ℕ) (d : ℕ) : Element → ℕ → ℕ → ℕ → ℕ → Type 0 where
  an_item : {low p q : ℕ} → ItemAt bs d p q → ElementAt bs d element.Item low p 0 q
  a_pair : {low p a b v q : ℕ} (x : Extent) → Opens bs array p x a → ItemAt bs (d - 1) a b → UnsignedAt bs b v q → v < sizes → Closes bs x 2 q
      → ElementAt bs d element.Pair low p 0 (past x q)
  a_version : {low p v a q : ℕ} → UnsignedAt bs p v a → low ≤ v → v < versions → ItemAt bs d a q
      → ElementAt bs d element.Version low p (v + 1) q

-- k elements end to end, from place p up to place q, the first of them a version not below `low` where they are versions.
pub data ElementsAt (bs : List ℕ) (d : ℕ) (e : Element) : ℕ → ℕ → ℕ → ℕ → Type 0 where
  no_element : {low p : ℕ} → ElementsAt bs d e low zero p p
  an_element : {low k p next q r : ℕ} → ElementAt bs d e low p next q → ElementsAt bs d e next k q r → ElementsAt bs d e low (suc k) p r

-- A field stands from place p up to place q, and says this.
pub data FieldAt (bs : List ℕ) : Field → ℕ → Value → ℕ → Type 0 where
  item : {p q : ℕ} → ItemAt bs in_message p q → FieldAt bs field.Item p (place p (q - p)) q
  list : {e : Element} {p k a q : ℕ} (x : Extent) → Opens bs (opener e) p x a → ElementsAt bs in_list e 0 k a q → Closes bs x k q
      → FieldAt bs (field.List e) p (place a (q - a)) (past x q)
  below : {limit p v q : ℕ} → UnsignedAt bs p v q → v < limit → FieldAt bs (field.Below limit) p (number v) q
  false : {p : ℕ} → get_or bs p 0 ≡ False → FieldAt bs field.Bool p (number 0) (p + 1)
  true : {p : ℕ} → get_or bs p 0 ≡ True → FieldAt bs field.Bool p (number 1) (p + 1)
