-- T9: what is made of parts reads back, with own heads as short as can be. Each field stands where it is put, so that the fields
-- stand one after the other.
-- Assumes nothing.
use Rattle.std.proofs.Common.{Option, Some, None}
use Prim.Native.Nat.{ℕ, ◌+◌, ◌-◌, ◌^◌, ◌<◌}
use mathlib.Core.Path.{◌≡◌, refl, sym, ap, subst, ◌∙◌}
use mathlib.Core.Bool.{Bool}
use mathlib.Core.List.{List, [], ◌∷◌, ◌++◌, append_assoc}
use native.Mathlib.Omega.{arith}
use lib.ListN.{length, length-append}
use Rattle.base.proofs.Conds.{cond_cases}
use Rattle.head.specs.declared.read.Head.TheVariants.{Definite}
use Rattle.head.specs.Write.{shortest}
use Rattle.head.proofs.WriteLaws.{reads_back}
use Rattle.rows.specs.declared.Protocol.{Protocol}
use Rattle.elements.specs.declared.Extent.TheVariants.{Counted}
use Rattle.elements.specs.declared.Field.{Field}
use Rattle.messages.specs.Forms.{form_of}
use Rattle.elements.specs.Besides.Matching.{Value, number, place}
use Rattle.elements.specs.Matching.{array}
use Rattle.messages.specs.Besides.Matching.{FieldsAt, no_field, a_field, Matches}
use Rattle.parts.specs.Given.{numeric}
use Rattle.parts.specs.Counting.{on_some}
use Rattle.parts.proofs.Counting.{Found, some_cases}
use Rattle.build.specs.Made.{of_number, of_run, first_of, all_used, made, encoded}
use Rattle.build.specs.Besides.Theorem.{numbers_of, runs_of, Slices, FieldsLeast, OwnLeast, ReadsBack}
use Rattle.build.proofs.Few.{Low, AllLow, Few, form_few}
use Rattle.build.proofs.Written.{LeastAt, run_there, number_says, run_holds}

-- the fields stand there, and their own heads are as short as can be
abbrev FieldsLeastAt : Bool → List ℕ → List Field → ℕ → List Value → ℕ → Type 0
FieldsLeastAt asked bs fs p xs q = (s : FieldsAt bs fs p xs q) × FieldsLeast asked s

-- one field in front of others
step : (asked : Bool) (f : Field) (fs : List Field) (x : Value) (values : List Value) (xs cs ys : List ℕ)
    → LeastAt asked (xs ++ (cs ++ ys)) f (length xs) x (length xs + length cs)
    → FieldsLeastAt asked ((xs ++ cs) ++ ys) fs (length (xs ++ cs)) values (length (xs ++ cs) + length ys)
    → FieldsLeastAt asked (xs ++ (cs ++ ys)) (f ∷ fs) (length xs) (x ∷ values) (length xs + length (cs ++ ys))
step asked f fs x values xs cs ys here rest =
    let front : length (xs ++ cs) ≡ length xs + length cs = length-append xs cs in
    let next : length (xs ++ cs) + length ys ≡ length xs + length (cs ++ ys) = omega (arith, front, length-append cs ys) in
    let moved : FieldsLeastAt asked (xs ++ (cs ++ ys)) fs (length xs + length cs) values (length xs + length (cs ++ ys)) =
    subst (λ (q : ℕ). FieldsLeastAt asked (xs ++ (cs ++ ys)) fs (length xs + length cs) values q) next
    (subst (λ (p : ℕ). FieldsLeastAt asked (xs ++ (cs ++ ys)) fs p values (length (xs ++ cs) + length ys)) front
    (subst (λ (bs : List ℕ). FieldsLeastAt asked bs fs (length (xs ++ cs)) values (length (xs ++ cs) + length ys)) (append_assoc xs cs ys) rest)) in
    (a_field here.0 moved.0, (here.1, moved.1))

-- the bytes are the fields, which say these numbers and hold these runs, wherever they stand
abbrev Say : Bool → List Field → List ℕ → List (List ℕ) → List ℕ → Type 0
Say asked fs ns rs cs =
    (xs : List ℕ)
    → (values : List Value) × FieldsLeastAt asked (xs ++ cs) fs (length xs) values (length xs + length cs) × (numbers_of values ≡ ns)
    × (runs_of (xs ++ cs) values ≡ rs)

none_say : (asked : Bool) (ns : List ℕ) (rs : List (List ℕ)) → Found (Say asked [] ns rs) (all_used ns rs)
none_say asked [] [] =
    λ xs.
    let z : length xs ≡ length xs + 0 = omega arith in
    ([], subst (λ (q : ℕ). FieldsLeastAt asked (xs ++ []) [] (length xs) [] q) z (no_field, tt), refl, refl)
none_say asked [] (r ∷ rs) = tt
none_say asked (n ∷ ns) rs = tt

number_step : (asked : Bool) (f : Field) (fs : List Field) (v : ℕ) (ns : List ℕ) (rs : List (List ℕ)) → Low f → Found (Say asked fs ns rs) (made asked fs ns rs)
    → Found (Say asked (f ∷ fs) (v ∷ ns) rs) (on_some (of_number f v) (λ xs. on_some (made asked fs ns rs) (λ ys. Some (xs ++ ys))))
number_step asked f fs v ns rs low rest =
    let P : Option (List ℕ) → Type 0 = Found (Say asked (f ∷ fs) (v ∷ ns) rs) in
    some_cases P (λ xs. on_some (made asked fs ns rs) (λ ys. Some (xs ++ ys))) (of_number f v) (number_says asked f v low) tt
    (λ cs here.
    some_cases P (λ ys. Some (cs ++ ys)) (made asked fs ns rs) rest tt
    (λ ys say xs.
    let s = say (xs ++ cs) in (
      number v ∷ s.0,
      step asked f fs (number v) s.0 xs cs ys (here xs ys) s.1,
      ap (λ (l : List ℕ). v ∷ l) s.2,
      ap (λ (bs : List ℕ). runs_of bs s.0) (sym (append_assoc xs cs ys)) ∙ s.3,
    )))

run_step : (asked : Bool) (f : Field) (fs : List Field) (r : List ℕ) (ns : List ℕ) (rs : List (List ℕ)) → length r < 2 ^ 64 → Found (Say asked fs ns rs) (made asked fs ns rs)
    → Found (Say asked (f ∷ fs) ns (r ∷ rs)) (on_some (of_run asked f r) (λ xs. on_some (made asked fs ns rs) (λ ys. Some (xs ++ ys))))
run_step asked f fs r ns rs small rest =
    let P : Option (List ℕ) → Type 0 = Found (Say asked (f ∷ fs) ns (r ∷ rs)) in
    some_cases P (λ xs. on_some (made asked fs ns rs) (λ ys. Some (xs ++ ys))) (of_run asked f r) (run_holds asked f r small) tt
    (λ cs here.
    some_cases P (λ ys. Some (cs ++ ys)) (made asked fs ns rs) rest tt
    (λ ys say xs.
    let s = say (xs ++ cs) in
    let h = here xs ys in
    let others : runs_of (xs ++ (cs ++ ys)) s.0 ≡ rs = ap (λ (bs : List ℕ). runs_of bs s.0) (sym (append_assoc xs cs ys)) ∙ s.3 in (
      place h.0 h.1 ∷ s.0,
      step asked f fs (place h.0 h.1) s.0 xs cs ys h.2 s.1,
      s.2,
      ap (λ (l : List ℕ). l ∷ runs_of (xs ++ (cs ++ ys)) s.0) h.3 ∙ ap (λ (l : List (List ℕ)). r ∷ l) others,
    )))

of_numbers : (asked : Bool) (f : Field) (fs : List Field) (ns : List ℕ) (rs : List (List ℕ)) → Low f → ((ns : List ℕ) → Found (Say asked fs ns rs) (made asked fs ns rs))
    → Found (Say asked (f ∷ fs) ns rs) (first_of ns (λ v ns. on_some (of_number f v) (λ xs. on_some (made asked fs ns rs) (λ ys. Some (xs ++ ys)))))
of_numbers asked f fs [] rs low rest = tt
of_numbers asked f fs (v ∷ ns) rs low rest = number_step asked f fs v ns rs low (rest ns)

of_runs : (asked : Bool) (f : Field) (fs : List Field) (ns : List ℕ) (rs : List (List ℕ)) → Slices rs
    → ((rs : List (List ℕ)) → Slices rs → Found (Say asked fs ns rs) (made asked fs ns rs))
    → Found (Say asked (f ∷ fs) ns rs) (first_of rs (λ r rs. on_some (of_run asked f r) (λ xs. on_some (made asked fs ns rs) (λ ys. Some (xs ++ ys)))))
of_runs asked f fs ns [] fit rest = tt
of_runs asked f fs ns (r ∷ rs) (small, fit) rest = run_step asked f fs r ns rs small (rest rs fit)

fields_say : (asked : Bool) (fs : List Field) (ns : List ℕ) (rs : List (List ℕ)) → AllLow fs → Slices rs → Found (Say asked fs ns rs) (made asked fs ns rs)
unfolding made
fields_say asked [] ns rs low fit = none_say asked ns rs
fields_say asked (f ∷ fs) ns rs low fit =
    cond_cases (Found (Say asked (f ∷ fs) ns rs)) (numeric f)
    (λ _. of_numbers asked f fs ns rs low.0 (λ ns. fields_say asked fs ns rs low.1 fit))
    (λ _. of_runs asked f fs ns rs fit (λ rs fit. fields_say asked fs ns rs low.1 fit))

-- ---- the message

abbrev Back : Protocol → ℕ → Bool → List ℕ → List (List ℕ) → List ℕ → Type 0
Back p kind asked ns rs bs = (xs : List Value) × (m : Matches p bs kind xs) × (numbers_of xs ≡ ns) × (runs_of bs xs ≡ rs) × OwnLeast asked m

message_back : (p : Protocol) (kind : ℕ) (asked : Bool) (ns : List ℕ) (rs : List (List ℕ)) (fs : List Field) (ys : List ℕ) → form_of p kind ≡ Some fs
    → Say asked fs ns rs ys → Back p kind asked ns rs (shortest array (length fs + 1) ++ (shortest 0 kind ++ ys))
message_back p kind asked ns rs fs ys form say =
    let h : List ℕ = shortest array (length fs + 1) in
    let k : List ℕ = shortest 0 kind in
    let few : Few kind fs = form_few p kind form in
    let s = say (h ++ k) in
    let same : (h ++ k) ++ ys ≡ h ++ (k ++ ys) = append_assoc h k ys in
    let front : length (h ++ k) ≡ length h + length k = length-append h k in
    let begin : 0 + length h ≡ length h = omega arith in
    let all : length (h ++ k) + length ys ≡ length (h ++ (k ++ ys)) = omega (arith, front, length-append h (k ++ ys), length-append k ys) in
    let fields : FieldsLeastAt asked (h ++ (k ++ ys)) fs (length h + length k) s.0 (length (h ++ (k ++ ys))) =
    subst (λ (q : ℕ). FieldsLeastAt asked (h ++ (k ++ ys)) fs (length h + length k) s.0 q) all
    (subst (λ (p : ℕ). FieldsLeastAt asked (h ++ (k ++ ys)) fs p s.0 (length (h ++ k) + length ys)) front
    (subst (λ (bs : List ℕ). FieldsLeastAt asked bs fs (length (h ++ k)) s.0 (length (h ++ k) + length ys)) same s.1)) in (
      s.0,
      record {
        fields = fs;
        extent = Counted (length fs + 1);
        first = length h;
        second = length h + length k;
        last = length (h ++ (k ++ ys));
        form = form;
        opens = reads_back array (length fs + 1) [] (k ++ ys) (omega arith) (omega (arith, few.fields)) ∙ ap (Definite array (length fs + 1)) begin;
        named = reads_back 0 kind h ys (omega arith) (omega (arith, few.kinds));
        matched = fields.0;
        closes = refl;
        whole = refl;
      },
      s.2,
      ap (λ (bs : List ℕ). runs_of bs s.0) (sym same) ∙ s.3,
      (run_there [] h (k ++ ys) (length h - 0) (omega arith), (run_there h k ys (length h + length k - length h) (omega arith), fields.1)),
    )

known : {A : Type 0} (o : Option A) → Found (λ a. o ≡ Some a) o
known None = tt
known (Some a) = refl

encoded_back : (p : Protocol) (kind : ℕ) (asked : Bool) (ns : List ℕ) (rs : List (List ℕ)) → Slices rs → Found (Back p kind asked ns rs) (encoded p kind asked ns rs)
unfolding encoded
encoded_back p kind asked ns rs fit =
    let P : Option (List ℕ) → Type 0 = Found (Back p kind asked ns rs) in
    some_cases P (λ fs. on_some (made asked fs ns rs) (λ ys. Some (shortest array (length fs + 1) ++ (shortest 0 kind ++ ys)))) (form_of p kind)
    (known (form_of p kind)) tt
    (λ fs e.
    some_cases P (λ ys. Some (shortest array (length fs + 1) ++ (shortest 0 kind ++ ys))) (made asked fs ns rs) (fields_say asked fs ns rs (form_few p kind e).limits fit) tt
    (λ ys say. message_back p kind asked ns rs fs ys e say))

pub read_back : ReadsBack
read_back p kind asked ns rs bs fit e = subst (Found (Back p kind asked ns rs)) e (encoded_back p kind asked ns rs fit)
