-- What only functions below the operation cite, here and in `build`: the arguments of a message's heads.
use Rattle.std.specs.Prelude.{ℕ, ◌+◌, ◌≡◌, cond, ◌&&◌, List, [], ◌∷◌, eqb, ltb, length, get_or, set, drop, Option, Some, None}
use Rattle.elements.specs.declared.Field.{Field}
use Rattle.elements.specs.declared.Field.TheVariants as field
use Rattle.elements.specs.Matching.{in_message}
use Rattle.elements.specs.Reading.{on_end, item_end}
use Rattle.parts.specs.declared.given.Given.{Given}
use Rattle.parts.specs.Given.{numeric}
use Rattle.parts.specs.Counting.{on_some, count_of}

-- ---- one field

-- simple value 20 is false, and 21 true
abbrev pub simple_false : ℕ
simple_false = 20

-- the argument of a field that is given by a number
abbrev pub number_argument : Field → ℕ → Option ℕ
number_argument field.Item v = None
number_argument (field.List e) v = None
number_argument (field.Below limit) v = cond (ltb v limit) (Some v) None
number_argument field.Bool v = cond (ltb v 2) (Some (simple_false + v)) None

-- an item's run is exactly one item: it has no head, and no argument
abbrev pub one_of : List ℕ → Option ℕ
one_of run = on_end None (item_end run in_message 0) (λ q. cond (eqb q (length run)) (Some 0) None)

-- the argument of a field that is given by a run
abbrev pub run_argument : Field → List ℕ → Option ℕ
run_argument field.Item run = one_of run
run_argument (field.List e) run = count_of e run
run_argument (field.Below limit) run = None
run_argument field.Bool run = None

-- ---- all fields

-- the first run, and the second
abbrev pub run_at : List ℕ → List ℕ → ℕ → List ℕ
run_at first second r = cond (eqb r 0) first second

-- the places behind what a field takes
abbrev pub number_after : Field → ℕ → ℕ
number_after f n = cond (numeric f) (n + 1) n

abbrev pub run_after : Field → ℕ → ℕ
run_after f r = cond (numeric f) r (r + 1)

-- number n, if there is one
abbrev pub number_at : List ℕ → Field → ℕ → Option ℕ
number_at ns f n = cond (ltb n (length ns)) (number_argument f (get_or ns n 0)) None

-- the argument of a field, from number n on and run r on
unfoldable pub argument_of : List ℕ → ℕ → List ℕ → List ℕ → Field → ℕ → ℕ → Option ℕ
argument_of ns runs first second f n r =
    cond (numeric f) (number_at ns f n) (cond (ltb r runs) (run_argument f (run_at first second r)) None)

-- the arguments of the fields, the first of them the i-th; nothing is left over
unfoldable pub planned : List ℕ → ℕ → List ℕ → List ℕ → List Field → ℕ → ℕ → ℕ → List ℕ → Option (List ℕ)
planned ns runs first second [] i n r args = cond (eqb n (length ns) && eqb r runs) (Some args) None
planned ns runs first second (f ∷ fs) i n r args =
    on_some (argument_of ns runs first second f n r)
    (λ a. planned ns runs first second fs (i + 1) (number_after f n) (run_after f r) (set args i a))

abbrev pub nothing : List ℕ
nothing = 0 ∷ 0 ∷ 0 ∷ []

-- ---- what is given

-- the parts are these
abbrev pub Holds : Given → List ℕ → ℕ → List ℕ → List ℕ → Type 0
Holds g ns runs first second = (g.numbers.now ≡ ns) × (g.runs ≡ runs) × (g.first.now ≡ first) × (g.second.now ≡ second)

abbrev pub run_in : Given → ℕ → List ℕ
run_in g r = run_at g.first.now g.second.now r

-- of these parts, the argument of a field, the arguments of the fields from the i-th on, and those of all fields
abbrev pub argument_in : Given → Field → ℕ → ℕ → Option ℕ
argument_in g f n r = argument_of g.numbers.now g.runs g.first.now g.second.now f n r

abbrev pub left_of : Given → List Field → ℕ → ℕ → ℕ → List ℕ → Option (List ℕ)
left_of g fs i n r args = planned g.numbers.now g.runs g.first.now g.second.now (drop i fs) i n r args

abbrev pub arguments_of : Given → List Field → Option (List ℕ)
arguments_of g fs = planned g.numbers.now g.runs g.first.now g.second.now fs 0 0 0 nothing
