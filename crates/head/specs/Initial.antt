-- What the initial byte of a data item says (RFC 8949, section 3): major type and additional information.
use Rattle.std.specs.Prelude.{ℕ, ◌/◌, ◌%◌, cond, ltb, leb, eqb}
use Rattle.head.specs.declared.Major.{Major}
use Rattle.head.specs.declared.Major.TheVariants.{Number, Bytes, Text, Array, Map, Tag}
use Rattle.head.specs.declared.Initial.{Initial}
use Rattle.head.specs.declared.Initial.TheVariants.{Short, Long, Indefinite, Simple, Break, Reserved}

-- major types 2 byte string, 3 text string, 4 array, 5 map, 6 tag; 0 and 1 are integers, 7 simple values and floats
abbrev pub major_of : ℕ → Major
major_of m =
    cond (eqb m 2) Bytes (cond (eqb m 3) Text (cond (eqb m 4) Array (cond (eqb m 5) Map (cond (eqb m 6) Tag Number))))

-- additional information 31: a break in major type 7, an indefinite length in 2 to 5, reserved in the others
abbrev pub open_of : ℕ → Initial
open_of m = cond (eqb m 7) Break (cond (leb 2 m) (cond (leb m 5) (Indefinite (major_of m)) Reserved) Reserved)

-- additional information below 24 is the argument; 24 to 27 announce it in 1, 2, 4 or 8 bytes; 28 to 30 are reserved
abbrev pub initial_of : ℕ → ℕ → Initial
initial_of m i =
    cond (ltb i 24) (Short (major_of m) i)
    (cond (eqb i 24) (cond (eqb m 7) Simple (Long (major_of m) 0))
    (cond (eqb i 25) (Long (major_of m) 1)
    (cond (eqb i 26) (Long (major_of m) 3)
    (cond (eqb i 27) (Long (major_of m) 7)
    (cond (eqb i 31) (open_of m) Reserved)))))

-- the major type in the upper three bits, the additional information in the lower five
unfoldable pub initial : ℕ → Initial
initial b = initial_of (b / 32) (b % 32)
