-- What build makes of a kind, numbers and runs (document 01, "CBOR"; document 02, K2): own heads as short as can be, runs byte for byte; a list of
-- definite length, unless the caller asks for indefinite.
use Rattle.std.specs.Prelude.{ℕ, ◌+◌, Bool, cond, List, [], ◌∷◌, ◌++◌, eqb, ltb, length, Option, Some, None}
use Rattle.head.specs.Write.{shortest}
use Rattle.rows.specs.declared.Protocol.{Protocol}
use Rattle.elements.specs.declared.Element.{Element}
use Rattle.elements.specs.declared.Field.{Field}
use Rattle.elements.specs.declared.Field.TheVariants as field
use Rattle.messages.specs.Forms.{form_of}
use Rattle.elements.specs.Matching.{array, indefinite, Break, False, True, in_message, opener}
use Rattle.elements.specs.Reading.{on_end, item_end}
use Rattle.parts.specs.Given.{numeric}
use Rattle.layout.specs.Asked.{openly}
use Rattle.parts.specs.Counting.{on_some, count_of}

-- An item's run is exactly one item.
abbrev pub one_item : List ℕ → Option (List ℕ)
one_item run = on_end None (item_end run in_message 0) (λ q. cond (eqb q (length run)) (Some run) None)

-- A list or map of k elements: its head and its run, and a break where it is of indefinite length.
abbrev pub headed : Bool → Element → List ℕ → ℕ → List ℕ
headed asked e run k = cond (openly asked e) (indefinite (opener e) ∷ (run ++ (Break ∷ []))) (shortest (opener e) k ++ run)

-- A number below a limit, and a bool.
abbrev pub limited : ℕ → ℕ → Option (List ℕ)
limited limit v = cond (ltb v limit) (Some (shortest 0 v)) None

abbrev pub truth : ℕ → Option (List ℕ)
truth v = cond (eqb v 0) (Some (False ∷ [])) (cond (eqb v 1) (Some (True ∷ [])) None)

-- The bytes of a field that is given by a number, or by a run.
abbrev pub of_number : Field → ℕ → Option (List ℕ)
of_number field.Item v = None
of_number (field.List e) v = None
of_number (field.Below limit) v = limited limit v
of_number field.Bool v = truth v

abbrev pub of_run : Bool → Field → List ℕ → Option (List ℕ)
of_run asked field.Item run = one_item run
of_run asked (field.List e) run = on_some (count_of e run) (λ k. Some (headed asked e run k))
of_run asked (field.Below limit) run = None
of_run asked field.Bool run = None

-- The bytes of the fields, each from the next number or the next run; nothing is left over.
abbrev pub first_of : {A : Type 0} → List A → (A → List A → Option (List ℕ)) → Option (List ℕ)
first_of [] k = None
first_of (x ∷ xs) k = k x xs

abbrev pub all_used : List ℕ → List (List ℕ) → Option (List ℕ)
all_used [] [] = Some []
all_used [] (r ∷ rs) = None
all_used (n ∷ ns) rs = None

unfoldable pub made : Bool → List Field → List ℕ → List (List ℕ) → Option (List ℕ)
made asked [] ns rs = all_used ns rs
made asked (f ∷ fs) ns rs =
    cond (numeric f)
    (first_of ns (λ v ns. on_some (of_number f v) (λ xs. on_some (made asked fs ns rs) (λ ys. Some (xs ++ ys)))))
    (first_of rs (λ r rs. on_some (of_run asked f r) (λ xs. on_some (made asked fs ns rs) (λ ys. Some (xs ++ ys)))))

-- The message: the array, which is definite, its kind, its fields.
unfoldable pub encoded : Protocol → ℕ → Bool → List ℕ → List (List ℕ) → Option (List ℕ)
encoded p kind asked ns rs =
    on_some (form_of p kind) (λ fs. on_some (made asked fs ns rs) (λ ys. Some (shortest array (length fs + 1) ++ (shortest 0 kind ++ ys))))
