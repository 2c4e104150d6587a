-- The fields of a form, read one after the other: what is left of them, where the last element of the array ends, and how many it has.
-- Assumes nothing.
use Prim.Native.Nat.{ℕ, zero, suc, ◌+◌, ◌-◌, ◌≤◌, ◌<◌}
use mathlib.Core.Path.{◌≡◌, refl, sym, ap, subst, subst⁻¹, ◌∙◌}
use mathlib.Core.Bool.{Bool, true, false, cond}
use mathlib.Core.List.{List, [], ◌∷◌}
use borrow.Author.Tests.{eq-eqb, ne_eqb, eqb-true}
use native.Mathlib.Omega.{arith}
use native.Mathlib.Decide.{ℕ_discrete, dec_lt}
use native.Mathlib.Numerals.{add-one}
use Rattle.std.specs.Prelude.{Option, Some, None, Result, Err}
use lib.Dec.{eqb}
use lib.ListN.{length, get_or, drop}
use lib.Seq.{drop-cons, drop-length}
use Rattle.item.specs.Grammar.{One, Items, Reads, item}
use Rattle.item.proofs.Theorem.{one_end}
use Rattle.elements.specs.declared.Extent.{Extent}
use Rattle.elements.specs.declared.Extent.TheVariants.{Counted, Open, Rest}
use Rattle.messages.specs.Inside.{Begins, Stopped, last_end, has_count}
use Rattle.elements.specs.declared.Field.{Field}
use Rattle.elements.specs.declared.Field.TheVariants as field
use Rattle.elements.specs.declared.Part.{Part}
use Rattle.elements.specs.declared.Part.TheVariants as part
use Rattle.messages.specs.declared.Message.{Message}
use Rattle.messages.specs.declared.Unread.{Unread}
use Rattle.messages.specs.declared.Unread.TheVariants.{WrongCount, WrongField}
use Rattle.elements.specs.Besides.Matching.{ItemAt, ItemsAt, UnsignedAt, Opens, FieldAt}
use Rattle.elements.specs.Matching.{Break, array, in_message}
use Rattle.messages.specs.Matching.{begun}
use Rattle.elements.specs.Reading.{on_pair, unsigned_at, item_end, part_of}
use Rattle.messages.specs.Reading.{read, with_part, fields_of, counted, count_from}
use Rattle.elements.proofs.ElementLaws.{Pairwise, unsigned_sound, opens_sound, forward, item_found, item_then, none_at, ahead, no_items, first_item, number_item, item_array, array_elements, item_no_break, Parts, part_sound, field_item}
use Rattle.elements.proofs.Steps.{pair_then, pair_not}
use Rattle.messages.proofs.Theorem.{whole_item, open_count}

-- a field more than a message so far has room for three at least
pub with_count : (m : Message) (w : Part) (i : ℕ) → m.count ≤ i → m.parts ≤ i → ((with_part m w).count ≤ i + 1) × ((with_part m w).parts ≤ i + 1)
with_count m (part.Number v) i h l = (omega arith, omega arith)
with_count m (part.Place a s) i h l = (omega arith, omega arith)

module _ (bs : List ℕ) where
  -- ---- what is left of the fields

  left_more : (fs : List Field) (i p : ℕ) (m : Message) → i < length fs
      → fields_of bs (drop i fs) (i + 1) p m
      ≡ on_pair (Err (WrongField (i + 1))) (part_of bs (get_or fs i field.Item) p) (λ x q. fields_of bs (drop (i + 1) fs) (i + 1 + 1) q (with_part m x))
  unfolding fields_of
  left_more fs i p m h =
      ap (λ (l : List Field). fields_of bs l (i + 1) p m)
      (drop-cons fs i field.Item h ∙ ap (λ (n : ℕ). get_or fs i field.Item ∷ drop n fs) (sym (add-one i)))

  module _ (fs : List Field) (i p : ℕ) (m : Message) (h : i < length fs) {f : Field} {w : Option (Part × ℕ)}
      (is : f ≡ get_or fs i field.Item) (found : w ≡ part_of bs f p) where
    same : w ≡ part_of bs (get_or fs i field.Item) p
    same = found ∙ ap (λ (g : Field). part_of bs g p) is

    pub one_more : {x : Part} {q : ℕ} → w ≡ Some (x, q) → fields_of bs (drop (i + 1) fs) (i + 1 + 1) q (with_part m x) ≡ fields_of bs (drop i fs) (i + 1) p m
    one_more at =
        pair_then (Err (WrongField (i + 1))) (λ x q. fields_of bs (drop (i + 1) fs) (i + 1 + 1) q (with_part m x)) same at refl
        ∙ sym (left_more fs i p m h)

    pub one_wrong : w ≡ None → Err (WrongField (i + 1)) ≡ fields_of bs (drop i fs) (i + 1) p m
    one_wrong not =
        pair_not (Err (WrongField (i + 1))) (λ x q. fields_of bs (drop (i + 1) fs) (i + 1 + 1) q (with_part m x)) same not
        ∙ sym (left_more fs i p m h)

  pub none_left : (fs : List Field) (i p : ℕ) (m : Message) → i ≡ length fs → read m ≡ fields_of bs (drop i fs) (i + 1) p m
  unfolding fields_of
  none_left fs i p m e = let z : drop i fs ≡ [] = ap (λ (n : ℕ). drop n fs) e ∙ drop-length fs in rw z

  -- ---- what is left of the array

  -- behind an item of k + 1 stand k
  items_after : {d k p q n : ℕ} → 0 < k → ItemsAt bs d k p n → ItemAt bs d p q → ItemsAt bs d (k - 1) q n
  items_after {d} {k} {p} {q} {n} h s i = of k h s.reads
    where
      of : (k : ℕ) → 0 < k → Reads d (Items k) (drop p bs) (drop n bs) → ItemsAt bs d (k - 1) q n
      of zero h r = absurd (omega arith)
      of (suc k) h (item {cs = cs} x r) =
          let e : cs ≡ drop q bs = one_end d One (drop p bs) cs (drop q bs) x i.reads in
          let r' : Reads d (Items k) (drop q bs) (drop n bs) = subst (λ (l : List ℕ). Reads d (Items k) l (drop n bs)) e r in
          let z : k ≡ suc k - 1 = omega arith in
          subst (λ (j : ℕ). ItemsAt bs d j q n) z
          (record { forward = forward bs i.inside s.inside r'; inside = s.inside; reads = r' })

  -- and behind i of k items the rest
  items_behind : {d : ℕ} (i : ℕ) {k p r n : ℕ} → i ≤ k → ItemsAt bs d i p r → ItemsAt bs d k p n → ItemsAt bs d (k - i) r n
  items_behind {d} zero {k} {p} {r} {n} h s t =
      let z : k ≡ k - 0 = omega arith in
      subst (λ (j : ℕ). ItemsAt bs d j r n) z (subst (λ (q : ℕ). ItemsAt bs d k q n) (no_items bs s) t)
  items_behind {d} (suc i) {k} {r = r} {n = n} h s t =
      let f = first_item bs s in
      let z : k - 1 - i ≡ k - suc i = omega arith in
      subst (λ (j : ℕ). ItemsAt bs d j r n) z (items_behind i (omega arith) f.2 (items_after (omega arith) t f.1))

  -- one item more
  pub then_item : {d : ℕ} (k : ℕ) {p q r : ℕ} → ItemsAt bs d k p q → ItemAt bs d q r → ItemsAt bs d (suc k) p r
  then_item {d} zero {p} {r = r} s i = subst⁻¹ (λ (q : ℕ). ItemsAt bs d 1 q r) (no_items bs s) (item_then bs i (none_at bs i.inside))
  then_item (suc k) s i = let f = first_item bs s in item_then bs f.1 (then_item k f.2 i)

  -- a field that is found is an item of the array
  pub part_item : (f : Field) (p : ℕ) {x : Part} {q : ℕ} {w : Option (Part × ℕ)} → w ≡ part_of bs f p → w ≡ Some (x, q) → ItemAt bs in_message p q
  part_item f p {x} {q} found at = of x (subst (Parts bs (λ x r. FieldAt bs f p x r)) (sym found ∙ at) (part_sound bs f p))
    where
      of : (x : Part) → Parts bs (λ x r. FieldAt bs f p x r) (Some (x, q)) → ItemAt bs in_message p q
      of (part.Number v) s = field_item bs s
      of (part.Place a l) s = field_item bs s

  -- the last of k items ends where they end, and that is known of it alone
  pub last_ends : {d p q n : ℕ} (i k : ℕ) → i + 1 ≡ k → ItemsAt bs d i p q → ItemsAt bs d k p n → item_end bs d q ≡ Some n
  last_ends {d} {p} {q} {n} i k e s t =
      let z : k - i ≡ 1 = omega arith in
      let f = first_item bs (subst (λ (j : ℕ). ItemsAt bs d j q n) z (items_behind i (omega arith) s t)) in
      item_found bs (subst (λ (r : ℕ). ItemAt bs d q r) (no_items bs f.2) f.1)

  nowhere : {q : ℕ} → None ≡ Some q → ⊥
  nowhere {q} e = let y : ◌≡◌ {A = ℕ} 0 1 = cc in omega arith

  pub known_end : {q : ℕ} (t : Bool) {e end : Option ℕ} → e ≡ cond t end None → e ≡ Some q → (t ≡ true) × (end ≡ Some q)
  known_end true f g = (refl, sym f ∙ g)
  known_end false f g = absurd (nowhere (sym f ∙ g))

  -- ---- the phases

  kind_is : (a : ℕ) {kind b : ℕ} {n : Option (ℕ × ℕ)} → n ≡ unsigned_at bs a → n ≡ Some (kind, b) → UnsignedAt bs a kind b
  kind_is a e f = subst (Pairwise (λ v q. UnsignedAt bs a v q)) (sym e ∙ f) (unsigned_sound bs a)

  -- an array, whose first element is its kind
  module _ {x : Extent} {a kind b : ℕ} (g : Begins bs x a kind b) where
    array_opens : Opens bs array 0 x a
    array_opens = subst (Pairwise (λ x a. Opens bs array 0 x a)) g.1 (opens_sound bs array 0)

    pub kind_item : ItemAt bs in_message a b
    kind_item = number_item bs (kind_is a refl g.2)

  -- of definite length, it has one element less behind its kind, up to the end
  definite_left : {k a kind b : ℕ} → Begins bs (Counted k) a kind b → ItemsAt bs in_message (k - 1) b (length bs)
  definite_left {k} {a} g =
      let s = item_array bs (array_opens g) (whole_item bs g.0) in items_after (some_left k s) s (kind_item g)
    where
      some_left : (k : ℕ) → ItemsAt bs in_message k a (length bs) → 0 < k
      some_left zero s = absurd (omega (arith, no_items bs s, ahead bs (kind_item g), (kind_item g).inside))
      some_left (suc k) s = omega arith

  -- of indefinite length, it has as many elements as are behind, and as stand from there up to its break
  count_behind : {k a kind b r : ℕ} → Begins bs Open a kind b → ItemsAt bs in_message k a r → count_from bs Open a ≡ k + count_from bs Open r
  count_behind {k} {a} {r = r} g s =
      let f = array_elements bs Open (array_opens g) (whole_item bs g.0) in
      let few : k ≤ f.0 = at_most f.0 f.2 f.3 in
      let c = open_count bs s.inside (items_behind k few s f.2) f.3 in
      let all = open_count bs (omega (arith, s.forward, s.inside)) f.2 f.3 in
      omega (arith, few, c, all)
    where
      at_most : (n : ℕ) {q : ℕ} → ItemsAt bs in_message n a q → get_or bs q 0 ≡ Break → k ≤ n
      at_most n {q} t c = elim (dec_lt n k) [
        | yes y ↦
            let z : k - n ≡ suc (k - n - 1) = omega arith in
            let h = first_item bs (subst (λ (j : ℕ). ItemsAt bs in_message j q r) z (items_behind n (omega arith) t s)) in
            absurd (item_no_break bs h.1 c)
        | no y ↦ omega arith
      ]

  -- so its count is told by its head, or where reading the fields stopped
  told : (x : Extent) {a kind b c left r : ℕ} → Begins bs x a kind b → Stopped bs c b left r
      → has_count bs x (c + 1) left r ≡ eqb (count_from bs x a) (c + 1)
  told (Counted k) g s = refl
  told Open {a} {c = c} {left = left} {r = r} g s =
      let all : count_from bs Open a ≡ suc (c - left) + count_from bs Open r = count_behind g (item_then bs (kind_item g) s.1) in
      elim (ℕ_discrete (count_from bs Open r) left) [
        | yes y ↦ eq-eqb (count_from bs Open r) left y ∙ sym (eq-eqb (count_from bs Open a) (c + 1) (omega (arith, all, y, s.0)))
        | no y ↦ ne_eqb (count_from bs Open r) left y ∙ sym (ne_eqb (count_from bs Open a) (c + 1) (λ e. y (omega (arith, all, e, s.0))))
      ]
  told Rest g s = absurd (array_opens g)

  -- and where its head tells it, its last element ends where the bytes end
  last_told : (x : Extent) {a kind b c q : ℕ} → Begins bs x a kind b → last_end x (c + 1) (length bs) ≡ Some q → ItemsAt bs in_message c b q
  last_told (Counted k) {b = b} {c = c} {q = q} g e =
      let f = known_end (eqb k (c + 1)) refl e in
      let z : k - 1 ≡ c = omega (arith, eqb-true k (c + 1) f.0) in
      let y : length bs ≡ q = cc f.1 in
      subst (λ (j : ℕ). ItemsAt bs in_message j b q) z (subst (λ (m : ℕ). ItemsAt bs in_message (k - 1) b m) y (definite_left g))
  last_told Open g e = absurd (nowhere e)
  last_told Rest g e = absurd (nowhere e)

  -- the same, where the code has the number of fields, k
  module _ (x : Extent) {a kind b k c : ℕ} (is : k ≡ c) (g : Begins bs x a kind b) where
    pub count_told : {left r : ℕ} {t : Bool} → t ≡ has_count bs x (k + 1) left r → Stopped bs c b left r → t ≡ eqb (count_from bs x a) (c + 1)
    count_told {left} {r} e s = e ∙ ap (λ (k : ℕ). has_count bs x (k + 1) left r) is ∙ told x g s

    pub last_known : {n q : ℕ} {e : Option ℕ} → length bs ≡ n → e ≡ last_end x (k + 1) n → e ≡ Some q → ItemsAt bs in_message c b q
    last_known {n} long e f =
        last_told x g (ap (last_end x (c + 1)) long ∙ ap (λ (k : ℕ). last_end x (k + 1) n) (sym is) ∙ sym e ∙ f)

  module _ (fs : List Field) (k kind b : ℕ) {t : Bool} (test : t ≡ eqb k (length fs + 1)) where
    pub count_right : {r : Result Message Unread} → t ≡ true → r ≡ fields_of bs fs 1 b (begun kind) → r ≡ counted bs k kind b (Some fs)
    count_right e g = g ∙ sym (rw (sym test ∙ e))

    pub count_wrong : t ≡ false → Err WrongCount ≡ counted bs k kind b (Some fs)
    count_wrong e = sym (rw (sym test ∙ e))
