-- What build is given for the fields of a form (document 01, "CBOR"): a number or a run of bytes for each.
use Rattle.std.specs.Prelude.{ℕ, Bool, true, false, ◌&&◌, ◌||◌, List, eqb, leb, length}
use Rattle.elements.specs.declared.Field.{Field}
use Rattle.elements.specs.declared.Field.TheVariants as field

-- a run of no bytes
abbrev pub empty : List ℕ → Bool
empty run = eqb (length run) 0

-- at most two runs are given, since no form has more, and a run above their count is empty
abbrev pub all_given : ℕ → List ℕ → List ℕ → Bool
all_given runs first second = leb runs 2 && ((leb 1 runs || empty first) && (leb 2 runs || empty second))

-- A field is given by a number, or by a run.
abbrev pub numeric : Field → Bool
numeric field.Item = false
numeric (field.List e) = false
numeric (field.Below limit) = true
numeric field.Bool = true
