-- Round trips (T9), as statements; the proofs are in proofs/.
use Rattle.std.specs.Prelude.{ℕ, ◌-◌, ◌≤◌, ◌<◌, ◌^◌, ◌≡◌, Bool, true, false, ◌↔◌, List, [], ◌∷◌, length, Some}
use Rattle.base.specs.Numbers.{Bytes}
use Rattle.ring.specs.Ring.{run}
use Rattle.head.specs.Write.{shortest}
use Rattle.rows.specs.declared.Protocol.{Protocol}
use Rattle.elements.specs.declared.Element.{Element}
use Rattle.elements.specs.declared.Element.TheVariants as element
use Rattle.elements.specs.declared.Extent.{Extent}
use Rattle.elements.specs.declared.Extent.TheVariants.{Counted, Open, Rest}
use Rattle.elements.specs.declared.Field.{Field}
use Rattle.elements.specs.declared.Field.TheVariants as field
use Rattle.elements.specs.Besides.Matching.{Value, number, place, FieldAt}
use Rattle.elements.specs.Matching.{array, map}
use Rattle.messages.specs.Besides.Matching.{FieldsAt, no_field, a_field, Matches}
use Rattle.elements.specs.Besides.Matching as matching
use Rattle.messages.specs.Forms.{form_of}
use Rattle.build.specs.Made.{encoded}

-- The numbers of the values, and the bytes at the places, in their order.
abbrev pub numbers_of : List Value → List ℕ
numbers_of [] = []
numbers_of (number v ∷ xs) = v ∷ numbers_of xs
numbers_of (place a l ∷ xs) = numbers_of xs

abbrev pub runs_of : List ℕ → List Value → List (List ℕ)
runs_of bs [] = []
runs_of bs (number v ∷ xs) = runs_of bs xs
runs_of bs (place a l ∷ xs) = run bs a l ∷ runs_of bs xs

-- Runs are slices: their lengths fit in 64 bits.
abbrev pub Slices : List (List ℕ) → Type 0
Slices [] = Unit {0}
Slices (r ∷ rs) = (length r < 2 ^ 64) × Slices rs

-- The head from place p up to place q, of major type m and argument v, is as short as can be.
abbrev pub Least : List ℕ → ℕ → ℕ → ℕ → ℕ → Type 0
Least bs m v p q = run bs p (q - p) ≡ shortest m v

-- The head of a list or map is as build writes it: a list of indefinite length if and only if that is asked for, a map definite; and a
-- definite head as short as can be.
abbrev pub ListLeast : List ℕ → Bool → Element → Extent → ℕ → ℕ → Type 0
ListLeast bs asked element.Item (Counted k) p a = (asked ≡ false) × Least bs array k p a
ListLeast bs asked element.Item Open p a = asked ≡ true
ListLeast bs asked element.Item Rest p a = ⊥
ListLeast bs asked element.Pair (Counted k) p a = (asked ≡ false) × Least bs array k p a
ListLeast bs asked element.Pair Open p a = asked ≡ true
ListLeast bs asked element.Pair Rest p a = ⊥
ListLeast bs asked element.Version (Counted k) p a = Least bs map k p a
ListLeast bs asked element.Version Open p a = ⊥
ListLeast bs asked element.Version Rest p a = ⊥

-- So are the own heads of a field: that of a number, and that of a list or map. A bool has none, and the heads in an item, a list or a map
-- are not the message's own.
abbrev pub FieldLeast : {bs : List ℕ} {f : Field} {p q : ℕ} {x : Value} → Bool → FieldAt bs f p x q → Type 0
FieldLeast asked (matching.item i) = Unit {0}
FieldLeast {bs} asked (matching.list {e = e} {p = p} {a = a} x o s c) = ListLeast bs asked e x p a
FieldLeast {bs} asked (matching.below {p = p} {v = v} {q = q} u l) = Least bs 0 v p q
FieldLeast asked (matching.false e) = Unit {0}
FieldLeast asked (matching.true e) = Unit {0}

abbrev pub FieldsLeast : {bs : List ℕ} {fs : List Field} {p q : ℕ} {xs : List Value} → Bool → FieldsAt bs fs p xs q → Type 0
FieldsLeast asked no_field = Unit {0}
FieldsLeast asked (a_field x r) = FieldLeast asked x × FieldsLeast asked r

-- And those of a message: the array's, which is definite, its kind's, and those of its fields.
abbrev pub ArrayLeast : List ℕ → Extent → ℕ → Type 0
ArrayLeast bs (Counted n) a = Least bs array n 0 a
ArrayLeast bs Open a = ⊥
ArrayLeast bs Rest a = ⊥

abbrev pub OwnLeast : {p : Protocol} {bs : List ℕ} {kind : ℕ} {xs : List Value} → Bool → Matches p bs kind xs → Type 0
OwnLeast {bs = bs} {kind = kind} asked m =
    ArrayLeast bs m.extent m.first × (Least bs 0 kind m.first m.second × FieldsLeast asked m.matched)

-- What is made of parts is a message of this kind that says these numbers and has these runs at its places, with own heads as
-- build writes them: its list is of indefinite length if and only if that was asked for.
abbrev pub ReadsBack : Type 0
ReadsBack =
    (p : Protocol) (kind : ℕ) (asked : Bool) (ns : List ℕ) (rs : List (List ℕ)) (bs : List ℕ) → Slices rs → encoded p kind asked ns rs ≡ Some bs
    → (xs : List Value) × (m : Matches p bs kind xs) × (numbers_of xs ≡ ns) × (runs_of bs xs ≡ rs) × OwnLeast asked m

-- Of indefinite length.
abbrev pub is_open : Extent → Bool
is_open (Counted n) = false
is_open Open = true
is_open Rest = false

-- What is asked for is what the message's list has: indefinite length, or definite. A map has no say, since build writes it definite.
abbrev pub ListHas : Bool → Element → Extent → Type 0
ListHas asked element.Item x = asked ≡ is_open x
ListHas asked element.Pair x = asked ≡ is_open x
ListHas asked element.Version x = Unit {0}

abbrev pub FieldHas : {bs : List ℕ} {f : Field} {p q : ℕ} {x : Value} → Bool → FieldAt bs f p x q → Type 0
FieldHas asked (matching.item i) = Unit {0}
FieldHas asked (matching.list {e = e} x o s c) = ListHas asked e x
FieldHas asked (matching.below u l) = Unit {0}
FieldHas asked (matching.false e) = Unit {0}
FieldHas asked (matching.true e) = Unit {0}

abbrev pub FieldsHave : {bs : List ℕ} {fs : List Field} {p q : ℕ} {xs : List Value} → Bool → FieldsAt bs fs p xs q → Type 0
FieldsHave asked no_field = Unit {0}
FieldsHave asked (a_field x r) = FieldHas asked x × FieldsHave asked r

abbrev pub Has : {p : Protocol} {bs : List ℕ} {kind : ℕ} {xs : List Value} → Bool → Matches p bs kind xs → Type 0
Has asked m = FieldsHave asked m.matched

-- Not an indefinite map of 256 pairs or more, which becomes longer: its definite head is longer than head and break.
abbrev pub Short : Element → Extent → ℕ → Type 0
Short element.Version Open k = k < 256
Short element.Version (Counted n) k = Unit {0}
Short element.Version Rest k = Unit {0}
Short element.Item x k = Unit {0}
Short element.Pair x k = Unit {0}

abbrev pub FieldShort : {bs : List ℕ} {f : Field} {p q : ℕ} {x : Value} → FieldAt bs f p x q → Type 0
FieldShort (matching.item i) = Unit {0}
FieldShort (matching.list {e = e} {k = k} x o s c) = Short e x k
FieldShort (matching.below u l) = Unit {0}
FieldShort (matching.false e) = Unit {0}
FieldShort (matching.true e) = Unit {0}

abbrev pub FieldsShort : {bs : List ℕ} {fs : List Field} {p q : ℕ} {xs : List Value} → FieldsAt bs fs p xs q → Type 0
FieldsShort no_field = Unit {0}
FieldsShort (a_field x r) = FieldShort x × FieldsShort r

abbrev pub NoLongMap : {p : Protocol} {bs : List ℕ} {kind : ℕ} {xs : List Value} → Matches p bs kind xs → Type 0
NoLongMap m = FieldsShort m.matched

-- What is made of a message's own parts, whatever is asked for: a message of this kind that says the same numbers and has the same runs, and is
-- equal to it if and only if that one's own heads are as build writes them; and no longer than it, where what is asked for is what its list
-- has, but for a long map of indefinite length.
pub record Rebuilt (p : Protocol) (bs : List ℕ) (kind : ℕ) (xs : List Value) (asked : Bool) (given : Matches p bs kind xs) : Type 0 where
  pub message : List ℕ
  pub made : encoded p kind asked (numbers_of xs) (runs_of bs xs) ≡ Some message
  pub no_longer : Has asked given → NoLongMap given → length message ≤ length bs
  pub same : (message ≡ bs) ↔ OwnLeast asked given
  pub values : List Value
  pub says : Matches p message kind values
  pub numbers : numbers_of values ≡ numbers_of xs
  pub runs : runs_of message values ≡ runs_of bs xs

-- A message can be made again of its own parts; it is a slice of bytes.
abbrev pub Rebuilds : Type 0
Rebuilds =
    (p : Protocol) (bs : List ℕ) (kind : ℕ) (xs : List Value) (asked : Bool) → Bytes bs → length bs < 2 ^ 64 → (given : Matches p bs kind xs)
    → Rebuilt p bs kind xs asked given

-- No form has more than one list, so that what its list has can be asked for.
abbrev pub Askable : Type 0
Askable = (p : Protocol) (bs : List ℕ) (kind : ℕ) (xs : List Value) (given : Matches p bs kind xs) → (asked : Bool) × Has asked given

-- Asking for indefinite changes nothing where the form has no list; a map is no list.
abbrev pub NotList : Field → Type 0
NotList field.Item = Unit {0}
NotList (field.List element.Item) = ⊥
NotList (field.List element.Pair) = ⊥
NotList (field.List element.Version) = Unit {0}
NotList (field.Below limit) = Unit {0}
NotList field.Bool = Unit {0}

abbrev pub NoList : List Field → Type 0
NoList [] = Unit {0}
NoList (f ∷ fs) = NotList f × NoList fs

abbrev pub Ignored : Type 0
Ignored =
    (p : Protocol) (kind : ℕ) (fs : List Field) (ns : List ℕ) (rs : List (List ℕ)) → form_of p kind ≡ Some fs → NoList fs
    → encoded p kind true ns rs ≡ encoded p kind false ns rs
