-- What is small of a form: its kind is at most 9, and it has no more than three fields, of which no more than two are given by runs and no more than
-- one is a list; its numbers are below 2^32.
-- Each holds of every row of the tables, and so of what is found in one.
-- Assumes nothing.
use Rattle.std.proofs.lemmas.Option.{none-some}
use Rattle.std.specs.Prelude.{Option, Some}
use Prim.Native.Nat.{ℕ, zero, suc, ◌^◌, ◌≤◌}
use mathlib.Core.Path.{◌≡◌, refl, ap, subst}
use mathlib.Core.Bool.{Bool, true, cond, ◌&&◌}
use mathlib.Core.List.{List, [], ◌∷◌}
use lib.Dec.{T, eqb, leb, leb→le}
use lib.ListN.{length}
use borrow.Author.Tests.{eqb-true}
use Rattle.base.proofs.Conds.{cond_cases, and_left, and_right}
use Rattle.rows.specs.declared.Protocol.{Protocol}
use Rattle.rows.proofs.ByProtocol.{each_protocol}
use Rattle.elements.specs.declared.Field.{Field}
use Rattle.elements.specs.declared.Field.TheVariants as field
use Rattle.messages.specs.Forms.{Form, forms, form_in, form_of}
use Rattle.elements.specs.Besides.Matching.{Value, FieldAt}
use Rattle.messages.specs.Besides.Matching.{FieldsAt, no_field, a_field}
use Rattle.elements.specs.Besides.Matching as matching
use Rattle.parts.specs.Given.{numeric}
use Rattle.layout.specs.Inside.{open_in}
use Rattle.build.specs.Besides.Theorem.{runs_of}

-- how many fields are given by runs
pub runs_in : List Field → ℕ
runs_in [] = zero
runs_in (f ∷ fs) = cond (numeric f) (runs_in fs) (suc (runs_in fs))

-- how many fields are lists, which may be asked for of indefinite length
unfoldable pub lists_in : List Field → ℕ
lists_in [] = zero
lists_in (f ∷ fs) = cond (open_in true f) (suc (lists_in fs)) (lists_in fs)

-- the limit of a field that is a number
abbrev pub Low : Field → Type 0
Low field.Item = Unit {0}
Low (field.List e) = Unit {0}
Low (field.Below limit) = limit ≤ 2 ^ 32
Low field.Bool = Unit {0}

abbrev pub AllLow : List Field → Type 0
AllLow [] = Unit {0}
AllLow (f ∷ fs) = Low f × AllLow fs

pub record Few (kind : ℕ) (fs : List Field) : Type 0 where
  pub kinds : kind ≤ 9
  pub fields : length fs ≤ 3
  pub runs : runs_in fs ≤ 2
  pub limits : AllLow fs
  pub lists : lists_in fs ≤ 1

-- the same as a test, and of all rows
low : Field → Bool
low field.Item = true
low (field.List e) = true
low (field.Below limit) = leb limit (2 ^ 32)
low field.Bool = true

all_low : List Field → Bool
all_low [] = true
all_low (f ∷ fs) = low f && all_low fs

few : ℕ → List Field → Bool
few k fs = leb k 9 && (leb (length fs) 3 && (leb (runs_in fs) 2 && (all_low fs && leb (lists_in fs) 1)))

all_few : List Form → Bool
all_few [] = true
all_few (f ∷ l) = few f.kind f.fields && all_few l

is_low : (f : Field) → T (low f) → Low f
unfolding low
is_low field.Item t = tt
is_low (field.List e) t = tt
is_low (field.Below limit) t = leb→le limit (2 ^ 32) t
is_low field.Bool t = tt

are_low : (fs : List Field) → T (all_low fs) → AllLow fs
unfolding all_low
are_low [] t = tt
are_low (f ∷ fs) t = (is_low f (and_left (low f) (all_low fs) t), are_low fs (and_right (low f) (all_low fs) t))

is_few : (k : ℕ) (fs : List Field) → T (few k fs) → Few k fs
unfolding few
is_few k fs t =
    let kinds : Bool = leb k 9 in
    let fields : Bool = leb (length fs) 3 in
    let runs : Bool = leb (runs_in fs) 2 in
    let lists : Bool = leb (lists_in fs) 1 in
    let u = and_right kinds (fields && (runs && (all_low fs && lists))) t in
    let v = and_right fields (runs && (all_low fs && lists)) u in
    let w = and_right runs (all_low fs && lists) v in
    record {
      kinds = leb→le k 9 (and_left kinds (fields && (runs && (all_low fs && lists))) t);
      fields = leb→le (length fs) 3 (and_left fields (runs && (all_low fs && lists)) u);
      runs = leb→le (runs_in fs) 2 (and_left runs (all_low fs && lists) v);
      limits = are_low fs (and_left (all_low fs) lists w);
      lists = leb→le (lists_in fs) 1 (and_right (all_low fs) lists w);
    }

few_in : (k : ℕ) (l : List Form) {fs : List Field} → T (all_few l) → form_in k l ≡ Some fs → Few k fs
unfolding all_few form_in
few_in k [] {fs} t = λ e. absurd (none-some fs e)
few_in k (f ∷ l) {fs} t =
    cond_cases (λ (o : Option (List Field)). o ≡ Some fs → Few k fs) (eqb f.kind k)
    (λ q e.
    let same : f.fields ≡ fs = cc in
    subst (Few k) same
    (subst (λ (n : ℕ). Few n f.fields) (eqb-true f.kind k q)
    (is_few f.kind f.fields (and_left (few f.kind f.fields) (all_few l) t))))
    (λ _. few_in k l (and_right (few f.kind f.fields) (all_few l) t))

each_few : (p : Protocol) → T (all_few (forms p))
unfolding all_few few runs_in lists_in all_low low
each_few = each_protocol (λ p. all_few (forms p)) tt

pub form_few : (p : Protocol) (kind : ℕ) {fs : List Field} → form_of p kind ≡ Some fs → Few kind fs
form_few p kind e = few_in kind (forms p) (each_few p) e

-- the fields have as many runs as there are places
one_more : (bs : List ℕ) {f : Field} {p q : ℕ} {x : Value} (fs : List Field) (xs : List Value) → FieldAt bs f p x q
    → length (runs_of bs xs) ≡ runs_in fs → length (runs_of bs (x ∷ xs)) ≡ runs_in (f ∷ fs)
unfolding runs_in
one_more bs fs xs (matching.item i) e = ap suc e
one_more bs fs xs (matching.list x o s c) e = ap suc e
one_more bs fs xs (matching.below u l) e = e
one_more bs fs xs (matching.false b) e = e
one_more bs fs xs (matching.true b) e = e

pub runs_counted : (bs : List ℕ) {fs : List Field} {p q : ℕ} {xs : List Value} → FieldsAt bs fs p xs q → length (runs_of bs xs) ≡ runs_in fs
unfolding runs_in
runs_counted bs no_field = refl
runs_counted bs (a_field {fs = fs} {xs = xs} x r) = one_more bs fs xs x (runs_counted bs r)
