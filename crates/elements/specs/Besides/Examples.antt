-- Fields at the edges of what document 01 lets pass: the bytes, the field that stands at the first of them, and what reading it finds.
use Rattle.std.specs.Prelude.{◌≡◌, [], ◌∷◌, Some, None}
use Rattle.elements.specs.declared.Element.TheVariants.{Item, Pair, Version}
use Rattle.elements.specs.declared.Field.TheVariants as field
use Rattle.elements.specs.declared.Part.TheVariants.{Number, Place}
use Rattle.elements.specs.Matching.{words, versions, failures}
use Rattle.elements.specs.Reading.{part_of}

pub record Edges : Type 0 where
  -- w: 65,535, and one more
  pub word : part_of (0x19 ∷ 0xff ∷ 0xff ∷ []) (field.Below words) 0 ≡ Some (Number 65535, 3)
  pub no_word : part_of (0x1a ∷ 0x00 ∷ 0x01 ∷ 0x00 ∷ 0x00 ∷ []) (field.Below words) 0 ≡ None
  -- a version: 2^32 - 1, and one more
  pub version : part_of (0x1a ∷ 0xff ∷ 0xff ∷ 0xff ∷ 0xff ∷ []) (field.Below versions) 0 ≡ Some (Number 4294967295, 5)
  pub no_version : part_of (0x1b ∷ 0x00 ∷ 0x00 ∷ 0x00 ∷ 0x01 ∷ 0x00 ∷ 0x00 ∷ 0x00 ∷ 0x00 ∷ []) (field.Below versions) 0 ≡ None
  -- failure: 1, and one more
  pub failure : part_of (0x01 ∷ []) (field.Below failures) 0 ≡ Some (Number 1, 1)
  pub no_failure : part_of (0x02 ∷ []) (field.Below failures) 0 ≡ None
  -- a bool: false, true, and null
  pub false : part_of (0xf4 ∷ []) field.Bool 0 ≡ Some (Number 0, 1)
  pub true : part_of (0xf5 ∷ []) field.Bool 0 ≡ Some (Number 1, 1)
  pub null : part_of (0xf6 ∷ []) field.Bool 0 ≡ None
  -- a list of one pair, whose size is 2^32 - 1, and one more
  pub size : part_of (0x81 ∷ 0x82 ∷ 0x00 ∷ 0x1a ∷ 0xff ∷ 0xff ∷ 0xff ∷ 0xff ∷ []) (field.List Pair) 0 ≡ Some (Place 1 7, 8)
  pub no_size : part_of (0x81 ∷ 0x82 ∷ 0x00 ∷ 0x1b ∷ 0x00 ∷ 0x00 ∷ 0x00 ∷ 0x01 ∷ 0x00 ∷ 0x00 ∷ 0x00 ∷ 0x00 ∷ []) (field.List Pair) 0 ≡ None
  -- a map of two versions, the second greater than the first by one, and the same
  pub rising : part_of (0xa2 ∷ 0x01 ∷ 0x00 ∷ 0x02 ∷ 0x00 ∷ []) (field.List Version) 0 ≡ Some (Place 1 4, 5)
  pub repeated : part_of (0xa2 ∷ 0x01 ∷ 0x00 ∷ 0x01 ∷ 0x00 ∷ []) (field.List Version) 0 ≡ None
  -- K2: lists of no item and of one, of indefinite length; the place has neither head nor break
  pub nothing : part_of (0x9f ∷ 0xff ∷ []) (field.List Item) 0 ≡ Some (Place 1 0, 2)
  pub one : part_of (0x9f ∷ 0x00 ∷ 0xff ∷ []) (field.List Item) 0 ≡ Some (Place 1 1, 3)
  -- pairs and their list, each of either form; a break behind the item of a pair, and one behind a list that has its count
  pub open_pair : part_of (0x81 ∷ 0x9f ∷ 0x00 ∷ 0x01 ∷ 0xff ∷ []) (field.List Pair) 0 ≡ Some (Place 1 4, 5)
  pub open_pairs : part_of (0x9f ∷ 0x82 ∷ 0x00 ∷ 0x01 ∷ 0x9f ∷ 0x00 ∷ 0x01 ∷ 0xff ∷ 0xff ∷ []) (field.List Pair) 0 ≡ Some (Place 1 7, 9)
  pub no_pair : part_of (0x9f ∷ 0x9f ∷ 0x00 ∷ 0xff ∷ 0xff ∷ []) (field.List Pair) 0 ≡ None
  pub counted : part_of (0x81 ∷ 0x82 ∷ 0x00 ∷ 0x01 ∷ 0xff ∷ []) (field.List Pair) 0 ≡ Some (Place 1 3, 4)
  -- a map of indefinite length, and a key without a value
  pub open_map : part_of (0xbf ∷ 0x01 ∷ 0x00 ∷ 0xff ∷ []) (field.List Version) 0 ≡ Some (Place 1 2, 4)
  pub no_value : part_of (0xbf ∷ 0x01 ∷ 0xff ∷ []) (field.List Version) 0 ≡ None
