-- What only functions below the operation cite, here and in `build`: a message by the arguments of its heads.
pub mod Message
use Rattle.std.specs.Prelude.{ℕ, ◌+◌, ◌≡◌, Bool, true, false, cond, List, [], ◌∷◌, ◌++◌, length, get_or}
use Rattle.std.proofs.lemmas.List.Edits.{sets}
use Rattle.head.specs.Inside.{length_of}
use Rattle.head.specs.Write.{shortest}
use Rattle.elements.specs.declared.Field.{Field}
use Rattle.elements.specs.declared.Field.TheVariants as field
use Rattle.elements.specs.Matching.{array, Break, indefinite, opener}
use Rattle.parts.specs.Given.{numeric}
use Rattle.parts.specs.Inside.{run_at, run_after}
use Rattle.layout.specs.Asked.{openly}

-- ---- the head of a field

-- simple values, of major type 7
abbrev pub simple : ℕ
simple = 7

-- an item has no head of ours
abbrev pub headless : Field → Bool
headless field.Item = true
headless (field.List e) = false
headless (field.Below limit) = false
headless field.Bool = false

-- the major type of its head
abbrev pub major_of : Field → ℕ
major_of field.Item = 0
major_of (field.List e) = opener e
major_of (field.Below limit) = 0
major_of field.Bool = simple

-- it is written of indefinite length
abbrev pub open_in : Bool → Field → Bool
open_in asked field.Item = false
open_in asked (field.List e) = openly asked e
open_in asked (field.Below limit) = false
open_in asked field.Bool = false

-- ---- the bytes

-- its head, its run, and the break behind the run, each if it has one
abbrev pub head_of : Bool → Field → ℕ → List ℕ
head_of asked f a = cond (headless f) [] (cond (open_in asked f) (indefinite (major_of f) ∷ []) (shortest (major_of f) a))

abbrev pub tail_of : Field → List ℕ → List ℕ
tail_of f run = cond (numeric f) [] run

abbrev pub break_of : Bool → Field → List ℕ
break_of asked f = cond (open_in asked f) (Break ∷ []) []

-- how long its head and the break are together
abbrev pub own_length : Bool → Field → ℕ → ℕ
own_length asked f a = cond (headless f) 0 (cond (open_in asked f) 2 (length_of a))

-- the bytes are put at a place of the buffer, and q is the place behind them
abbrev pub Put : List ℕ → ℕ → List ℕ → ℕ → List ℕ → Type 0
Put before at bytes q after = (q ≡ at + length bytes) × (after ≡ sets before at bytes)

-- a field
unfoldable pub piece_of : Bool → Field → ℕ → List ℕ → List ℕ
piece_of asked f a run = head_of asked f a ++ (tail_of f run ++ break_of asked f)

-- the fields one behind the other, the first of them the i-th, its run the r-th
unfoldable pub body_of : Bool → List ℕ → List ℕ → List Field → List ℕ → ℕ → ℕ → List ℕ
body_of asked first second [] args i r = []
body_of asked first second (f ∷ fs) args i r =
    piece_of asked f (get_or args i 0) (run_at first second r) ++ body_of asked first second fs args (i + 1) (run_after f r)

-- how long the fields' heads and breaks are together
unfoldable pub heads_of : Bool → List Field → List ℕ → ℕ → ℕ
heads_of asked [] args i = 0
heads_of asked (f ∷ fs) args i = own_length asked f (get_or args i 0) + heads_of asked fs args (i + 1)

-- the message
abbrev pub whole_of : Bool → List ℕ → List ℕ → List Field → ℕ → List ℕ → List ℕ
whole_of asked first second fs kind args = shortest array (length fs + 1) ++ (shortest 0 kind ++ body_of asked first second fs args 0 0)

-- how long all its heads and breaks are together
abbrev pub all_heads : Bool → List Field → ℕ → List ℕ → ℕ
all_heads asked fs kind args = length_of (length fs + 1) + length_of kind + heads_of asked fs args 0
