-- Fields: the major types of lists and maps, the limits of numbers, and how deep items may nest (document 01, "CBOR" and "Messages and
-- transitions").
use Rattle.std.specs.Prelude.{ℕ, ◌+◌, ◌-◌, ◌*◌, ◌^◌}
use Rattle.item.specs.Grammar.{nesting}
use Rattle.elements.specs.declared.Element.{Element}
use Rattle.elements.specs.declared.Element.TheVariants as element
use Rattle.elements.specs.declared.Extent.{Extent}
use Rattle.elements.specs.declared.Extent.TheVariants.{Counted, Open, Rest}

-- Major types 4 and 5.
abbrev pub array : ℕ
array = 4

abbrev pub map : ℕ
map = 5

-- A head of indefinite length is one byte, and so is a break.
abbrev pub indefinite : ℕ → ℕ
indefinite m = m * 32 + 31

abbrev pub Break : ℕ
Break = 0xff

-- The place behind it: a break counts to the array or map, and not to its elements.
abbrev pub past : Extent → ℕ → ℕ
past (Counted n) q = q
past Open q = q + 1
past Rest q = q

-- Versions and sizes are below 2^32, w is 0 to 65,535, failure is 0 or 1.
abbrev pub versions : ℕ
versions = 2 ^ 32

abbrev pub sizes : ℕ
sizes = 2 ^ 32

abbrev pub words : ℕ
words = 65536

abbrev pub failures : ℕ
failures = 2

-- A bool is one byte.
abbrev pub False : ℕ
False = 0xf4

abbrev pub True : ℕ
True = 0xf5

-- The message's own array counts in the nesting, and so do a list, a pair and a map.
abbrev pub in_message : ℕ
in_message = nesting - 1

abbrev pub in_list : ℕ
in_list = nesting - 2

-- A list of items or of pairs is an array, and one of versions and their values a map.
abbrev pub opener : Element → ℕ
opener element.Item = array
opener element.Pair = array
opener element.Version = map
