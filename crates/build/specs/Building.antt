-- Build (document 01, "CBOR" and "Numbers and their order": 10; 15; 18; document 02, K1: 23 for an unknown bundle; K2: a wish for an indefinite list).
use Rattle.std.specs.Prelude.{ℕ, Bool, cond, List, [], ◌∷◌, ltb, length, take, Option, Some, None}
use Rattle.std.proofs.lemmas.List.Edits.{sets}
use Rattle.wire.specs.Instances.{known, instances}
use Rattle.rows.specs.declared.Protocol.{Protocol}
use Rattle.rows.specs.Spoken.{speaks}
use Rattle.parts.specs.Given.{all_given}
use Rattle.parts.specs.Counting.{on_some}
use Rattle.build.specs.declared.Built.{Built}
use Rattle.build.specs.Made.{encoded}

-- an answer, and what the lent buffer then holds
pub record Told : Type 0 where
  pub answer : Built
  pub buffer : List ℕ

abbrev pub told : Built → List ℕ → Told
told b buf = record { answer = b; buffer = buf }

-- a refusal writes nothing
abbrev pub refused : List ℕ → ℕ → Told
refused buf n = told (record { number = n; len = 0 }) buf

-- the runs given: none, the first, or both
unfoldable pub given : ℕ → List ℕ → List ℕ → Option (List (List ℕ))
given runs first second = cond (all_given runs first second) (Some (take runs (first ∷ second ∷ []))) None

-- the message of the protocol that the parts make, its list of indefinite length if the caller asks for it
unfoldable pub bytes_of : Protocol → ℕ → Bool → List ℕ → ℕ → List ℕ → List ℕ → Option (List ℕ)
bytes_of p kind asked ns runs first second = on_some (given runs first second) (λ rs. encoded p kind asked ns rs)

-- 15 where they make none; 18 where the lent buffer is shorter than the message; else it stands at the buffer's front
abbrev pub handed : List ℕ → Option (List ℕ) → Told
handed buf None = refused buf 15
handed buf (Some bs) =
    cond (ltb (length buf) (length bs)) (refused buf 18) (told (record { number = 0; len = length bs }) (sets buf 0 bs))

-- 23 for an unknown bundle, before all else; 10 above its last instance; else the message is of the protocol that the instance speaks
unfoldable pub build_of : ℕ → ℕ → ℕ → Bool → List ℕ → ℕ → List ℕ → List ℕ → List ℕ → Told
build_of bundle instance kind asked ns runs first second buf =
    cond (known bundle)
    (cond (ltb instance (instances bundle)) (handed buf (bytes_of (speaks bundle instance) kind asked ns runs first second)) (refused buf 10))
    (refused buf 23)
