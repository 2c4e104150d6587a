-- Bytes have one form: whichever way they match, their own heads are the same. And of a message's list there is a wish that asks for what it has.
-- Assumes nothing.
use Prim.Native.Nat.{ℕ, suc, ◌≤◌}
use mathlib.Core.Path.{◌≡◌, refl, sym, ap, subst, ◌∙◌}
use mathlib.Core.Bool.{Bool, true, false, true≢false}
use mathlib.Core.List.{List, [], ◌∷◌, ◌++◌}
use Rattle.std.specs.Prelude.{Option, Some, None}
use Rattle.std.proofs.lemmas.Option.{some_pair_parts}
use native.Mathlib.Omega.{arith}
use Rattle.base.proofs.Conds.{by_test}
use Rattle.head.specs.Read.{head_at}
use Rattle.head.specs.declared.read.Head.TheVariants.{Definite}
use Rattle.rows.specs.declared.Protocol.{Protocol}
use Rattle.elements.specs.declared.Element.{Element}
use Rattle.elements.specs.declared.Element.TheVariants as element
use Rattle.elements.specs.declared.Extent.{Extent}
use Rattle.elements.specs.declared.Field.{Field}
use Rattle.elements.specs.declared.Field.TheVariants as field
use Rattle.elements.specs.Besides.Matching.{Value, Opens, FieldAt}
use Rattle.elements.specs.Matching.{opener}
use Rattle.elements.specs.Besides.Matching as matching
use Rattle.elements.proofs.ElementLaws.{opens_found, part_found}
use Rattle.messages.specs.Besides.Matching.{FieldsAt, no_field, a_field, Matches}
use Rattle.messages.proofs.Theorem.{got_same}
use Rattle.parts.specs.Given.{numeric}
use Rattle.parts.specs.Counting.{on_some}
use Rattle.layout.specs.Inside.{open_in}
use Rattle.build.specs.Made.{first_of, of_number, of_run, made, encoded}
use Rattle.build.specs.Besides.Theorem.{Least, ListLeast, FieldLeast, FieldsLeast, ArrayLeast, OwnLeast, is_open, ListHas, FieldHas, FieldsHave, Askable, NotList, NoList, Ignored}
use Rattle.build.proofs.Few.{lists_in, form_few}

-- ---- one form

-- some message, with own heads as build writes them
abbrev pub Leastly : Bool → Protocol → List ℕ → ℕ → Type 0
Leastly asked p bs kind = (xs : List Value) × (m : Matches p bs kind xs) × OwnLeast asked m

module _ (asked : Bool) (bs : List ℕ) where
  -- an array or map opens in one way
  opens_one : (e : Element) (p : ℕ) (x y : Extent) {a b : ℕ} → Opens bs (opener e) p x a → Opens bs (opener e) p y b → ◌≡◌ {A = Option (Extent × ℕ)} (Some (x, a)) (Some (y, b))
  opens_one e p x y o u = sym (opens_found bs e p x o) ∙ opens_found bs e p y u

  abbrev heads : Bool → Element → ℕ → Option (Extent × ℕ) → Type 0
  heads asked e p (Some (x, a)) = ListLeast bs asked e x p a
  heads asked e p None = Unit {0}

  abbrev array_heads : Option (Extent × ℕ) → Type 0
  array_heads (Some (x, a)) = ArrayLeast bs x a
  array_heads None = Unit {0}

  number_one : (p : ℕ) {m v q w r : ℕ} → head_at bs p ≡ Definite m v q → head_at bs p ≡ Definite m w r → Least bs m v p q → Least bs m w p r
  number_one p {m} {v} {q} {w} {r} e f l =
      let z : Definite m v q ≡ Definite m w r = sym e ∙ f in
      let x : v ≡ w = cc in
      let y : q ≡ r = cc in
      subst (λ (v : ℕ). Least bs m v p r) x (subst (λ (q : ℕ). Least bs m v p q) y l)

  field_one : {f : Field} {p q r : ℕ} {x y : Value} (s : FieldAt bs f p x q) (t : FieldAt bs f p y r) → FieldLeast asked s → FieldLeast asked t
  field_one (matching.item i) (matching.item j) l = tt
  field_one (matching.list {e = e} {p = p} x o s c) (matching.list y u t d) l = subst (heads asked e p) (opens_one e p x y o u) l
  field_one (matching.below {p = p} u h) (matching.below w g) l = number_one p u w l
  field_one (matching.false e) (matching.false f) l = tt
  field_one (matching.false e) (matching.true f) l = tt
  field_one (matching.true e) (matching.false f) l = tt
  field_one (matching.true e) (matching.true f) l = tt

  fields_one : {fs : List Field} {p q r : ℕ} {xs ys : List Value} (s : FieldsAt bs fs p xs q) (t : FieldsAt bs fs p ys r) → FieldsLeast asked s → FieldsLeast asked t
  fields_one no_field no_field l = tt
  fields_one (a_field {fs = fs} {q = q} {x = x} f s) (a_field {q = q'} {r = r} {x = y} {xs = ys} g t) (l, k) =
      let e = got_same bs x y q q' (sym (part_found bs f) ∙ part_found bs g) in
      (field_one f g l, moved e.1 t (λ t'. fields_one s t' k))
    where
      moved : {fs : List Field} {p q r : ℕ} {ys : List Value} → p ≡ q → (t : FieldsAt bs fs q ys r)
          → ((t' : FieldsAt bs fs p ys r) → FieldsLeast asked t') → FieldsLeast asked t
      moved {fs} {p} {q} {r} {ys} z t go = subst (λ (n : ℕ). (t : FieldsAt bs fs n ys r) → FieldsLeast asked t) z go t

  own_moved : {fs gs : List Field} {p q r s : ℕ} {xs ys : List Value} → fs ≡ gs → p ≡ q → (u : FieldsAt bs fs p xs r) (t : FieldsAt bs gs q ys s)
      → FieldsLeast asked u → FieldsLeast asked t
  own_moved {fs} {gs} {p} {q} {s = s} {ys = ys} z y u t l =
      subst (λ (gs : List Field). (t : FieldsAt bs gs q ys s) → FieldsLeast asked t) z
      (subst (λ (n : ℕ). (t : FieldsAt bs fs n ys s) → FieldsLeast asked t) y (λ t. fields_one u t l)) t

  pub own-one : (p : Protocol) {kind : ℕ} {xs ys : List Value} (m : Matches p bs kind xs) (n : Matches p bs kind ys) → OwnLeast asked m → OwnLeast asked n
  own-one p {kind} m n (a, (k, l)) =
      let o = opens_one element.Item 0 m.extent n.extent m.opens n.opens in
      let first : m.first ≡ n.first = (some_pair_parts m.extent n.extent m.first n.first o).1 in
      let u : Definite 0 kind m.second ≡ Definite 0 kind n.second = sym m.named ∙ ap (head_at bs) first ∙ n.named in
      let second : m.second ≡ n.second = cc in
      let f : Some m.fields ≡ Some n.fields = sym m.form ∙ n.form in
      let fields : m.fields ≡ n.fields = cc in (
        subst array_heads o a,
        (
          subst (λ (p : ℕ). Least bs 0 kind p n.second) first (subst (λ (q : ℕ). Least bs 0 kind m.first q) second k),
          own_moved fields second m.matched n.matched l,
        ),
      )

-- ---- what a list has can be asked for

module _ (bs : List ℕ) where
  -- a map is written the same either way, and so is what is no list
  any_wish : {f : Field} {p q : ℕ} {x : Value} → open_in true f ≡ false → (asked : Bool) (s : FieldAt bs f p x q) → FieldHas asked s
  any_wish t asked (matching.item i) = tt
  any_wish t asked (matching.list {e = element.Item} x o s c) = absurd (true≢false t)
  any_wish t asked (matching.list {e = element.Pair} x o s c) = absurd (true≢false t)
  any_wish t asked (matching.list {e = element.Version} x o s c) = tt
  any_wish t asked (matching.below u l) = tt
  any_wish t asked (matching.false e) = tt
  any_wish t asked (matching.true e) = tt

  no_lists : {fs : List Field} {p q : ℕ} {xs : List Value} → lists_in fs ≤ 0 → (asked : Bool) (s : FieldsAt bs fs p xs q) → FieldsHave asked s
  unfolding lists_in
  no_lists h asked no_field = tt
  no_lists h asked (a_field {f = f} {fs = fs} x r) =
      by_test (open_in true f)
      (λ t. let n : suc (lists_in fs) ≤ 0 = rw t at h in absurd (omega arith))
      (λ t. let n : lists_in fs ≤ 0 = rw t at h in (any_wish t asked x, no_lists n asked r))

  list_has : (e : Element) (x : Extent) → ListHas (is_open x) e x
  list_has element.Item x = refl
  list_has element.Pair x = refl
  list_has element.Version x = tt

  field_wish : {f : Field} {p q : ℕ} {x : Value} (s : FieldAt bs f p x q) → (asked : Bool) × FieldHas asked s
  field_wish (matching.item i) = (false, tt)
  field_wish (matching.list {e = e} x o s c) = (is_open x, list_has e x)
  field_wish (matching.below u l) = (false, tt)
  field_wish (matching.false e) = (false, tt)
  field_wish (matching.true e) = (false, tt)

  wish : {fs : List Field} {p q : ℕ} {xs : List Value} → lists_in fs ≤ 1 → (s : FieldsAt bs fs p xs q) → (asked : Bool) × FieldsHave asked s
  unfolding lists_in
  wish h no_field = (false, tt)
  wish h (a_field {f = f} {fs = fs} x r) =
      by_test (open_in true f)
      (λ t. let n : suc (lists_in fs) ≤ 1 = rw t at h in let w = field_wish x in (w.0, (w.1, no_lists (omega arith) w.0 r)))
      (λ t. let n : lists_in fs ≤ 1 = rw t at h in let w = wish n r in (w.0, (any_wish t w.0 x, w.1)))

pub askable : Askable
askable p bs kind xs given = wish bs (form_few p kind given.form).lists given.matched

-- ---- asking changes nothing without a list

same_run : (f : Field) (r : List ℕ) → NotList f → of_run true f r ≡ of_run false f r
same_run field.Item r t = refl
same_run (field.List element.Item) r t = absurd t
same_run (field.List element.Pair) r t = absurd t
same_run (field.List element.Version) r t = refl
same_run (field.Below limit) r t = refl
same_run field.Bool r t = refl

module _ (f : Field) (fs : List Field) where
  number_same : (ns : List ℕ) (rs : List (List ℕ)) → ((ns : List ℕ) → made true fs ns rs ≡ made false fs ns rs)
      → first_of ns (λ v ns. on_some (of_number f v) (λ xs. on_some (made true fs ns rs) (λ ys. Some (xs ++ ys))))
      ≡ first_of ns (λ v ns. on_some (of_number f v) (λ xs. on_some (made false fs ns rs) (λ ys. Some (xs ++ ys))))
  number_same [] rs rest = refl
  number_same (v ∷ ns) rs rest = rw (rest ns)

  run_same : (ns : List ℕ) (rs : List (List ℕ)) → NotList f → ((rs : List (List ℕ)) → made true fs ns rs ≡ made false fs ns rs)
      → first_of rs (λ r rs. on_some (of_run true f r) (λ xs. on_some (made true fs ns rs) (λ ys. Some (xs ++ ys))))
      ≡ first_of rs (λ r rs. on_some (of_run false f r) (λ xs. on_some (made false fs ns rs) (λ ys. Some (xs ++ ys))))
  run_same ns [] t rest = refl
  run_same ns (r ∷ rs) t rest = rw (same_run f r t, rest rs)

same_made : (fs : List Field) (ns : List ℕ) (rs : List (List ℕ)) → NoList fs → made true fs ns rs ≡ made false fs ns rs
unfolding made
same_made [] ns rs t = refl
same_made (f ∷ fs) ns rs (t, ts) =
    by_test (numeric f) (λ u. rw u (number_same f fs ns rs (λ ns. same_made fs ns rs ts))) (λ u. rw u (run_same f fs ns rs t (λ rs. same_made fs ns rs ts)))

pub ignored : Ignored
unfolding encoded
ignored p kind fs ns rs form t = rw (form, same_made fs ns rs t)
