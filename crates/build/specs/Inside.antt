-- What only this crate's own functions cite: why no message is made, and a message by the plan of its parts.
use Rattle.std.specs.Prelude.{ℕ, Bool, true, false, ◌≡◌, List, Option, Some, Result, Ok, Err, MatchOption}
use Rattle.elements.specs.declared.Field.{Field}
use Rattle.parts.specs.declared.given.Given.{Given}
use Rattle.parts.specs.Given.{all_given}
use Rattle.parts.specs.Counting.{on_some}
use Rattle.parts.specs.Inside.{planned, nothing, Holds}
use Rattle.layout.specs.Inside.{whole_of}
use Rattle.build.specs.declared.Built.{Built}
use Rattle.build.specs.declared.Refusal.{Refusal}
use Rattle.build.specs.declared.Refusal.TheVariants.{UnknownBundle, NoInstance, NoMessage, NoRoom}

abbrev pub refusal : ℕ → Built
refusal n = record { number = n; len = 0 }

-- the number of a refusal
abbrev pub number_of : Refusal → ℕ
number_of UnknownBundle = 23
number_of NoInstance = 10
number_of NoMessage = 15
number_of NoRoom = 18

-- the answer
abbrev pub answer : Result ℕ Refusal → Built
answer (Ok n) = record { number = 0; len = n }
answer (Err r) = refusal (number_of r)

-- the message that the parts make, of these fields
unfoldable pub made_by : Bool → List ℕ → ℕ → List ℕ → List ℕ → List Field → ℕ → Option (List ℕ)
made_by asked ns runs first second fs kind =
    on_some (planned ns runs first second fs 0 0 0 nothing) (λ args. Some (whole_of asked first second fs kind args))

abbrev pub made_of : Bool → Given → List Field → ℕ → Option (List ℕ)
made_of asked g fs kind = made_by asked g.numbers.now g.runs g.first.now g.second.now fs kind

-- what is given is these parts; or they are not given as they should be
abbrev pub AreGiven : Option Given → List ℕ → ℕ → List ℕ → List ℕ → Type 0
AreGiven o ns runs first second = MatchOption o (all_given runs first second ≡ false) (λ g. (all_given runs first second ≡ true) × Holds g ns runs first second)
