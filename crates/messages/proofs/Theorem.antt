-- T7: reading finds exactly the messages. Each field that matches is one item, so that the fields of a form and the
-- elements of the array end at the same place.
-- Assumes nothing.
use Prim.Native.Nat.{ℕ, suc, ◌+◌, ◌*◌, ◌≤◌}
use mathlib.Core.Path.{◌≡◌, refl, sym, ap, subst, subst⁻¹, ◌∙◌}
use mathlib.Core.Bool.{true}
use mathlib.Core.List.{List, [], ◌∷◌}
use Rattle.std.specs.Prelude.{Option, Some, None, Result, Ok, Err}
use Rattle.std.proofs.lemmas.Option.{some_pair_parts}
use native.Mathlib.Omega.{arith}
use lib.Dec.{eqb}
use lib.ListN.{length, get_or, drop, length-drop}
use lib.Seq.{drop-length}
use borrow.Author.Tests.{eqb-true, eq-eqb}
use Rattle.base.proofs.Conds.{cond_cases}
use Rattle.head.specs.Read.{head_at}
use Rattle.head.specs.declared.read.Head.TheVariants as head
use Rattle.item.specs.Grammar.{One, Items, nesting}
use Rattle.item.specs.Verdict.{verdict, Verdict}
use Rattle.item.proofs.Parts.{whole_reads, reads_whole}
use Rattle.item.proofs.Theorem.{one_end}
use Rattle.rows.specs.declared.Protocol.{Protocol}
use Rattle.elements.specs.declared.Element.TheVariants as element
use Rattle.elements.specs.declared.Extent.{Extent}
use Rattle.elements.specs.declared.Extent.TheVariants.{Counted, Open, Rest}
use Rattle.elements.specs.declared.Field.{Field}
use Rattle.elements.specs.declared.Part.{Part}
use Rattle.elements.specs.declared.Part.TheVariants as part
use Rattle.messages.specs.declared.Message.{Message}
use Rattle.messages.specs.declared.Unread.{Unread}
use Rattle.messages.specs.declared.Unread.TheVariants.{NotArray, WrongField}
use Rattle.messages.specs.Forms.{form_of}
use Rattle.elements.specs.Besides.Matching.{Value, number, place, ItemAt, ItemsAt, UnsignedAt, Opens, Closes, FieldAt}
use Rattle.elements.specs.Matching.{Break, past, array, in_message}
use Rattle.messages.specs.Besides.Matching.{FieldsAt, no_field, a_field, Matches, saying, said_all, message_from}
use Rattle.messages.specs.Matching.{begun, with_number, with_place}
use Rattle.elements.specs.Reading.{on_pair, unsigned_at, opens_at, elements_of, part_of}
use Rattle.messages.specs.Reading.{read, said_in, with_part, fields_of, counted, wholly, numbered_of, count_from, message_of}
use Rattle.messages.specs.Besides.Theorem.{Says, ReadsForms, OneMatch, MessageIsItem}
use Rattle.elements.proofs.ElementLaws.{pair_cases, unsigned_sound, opens_sound, unsigned_found, opens_found, opens_within, number_item, array_elements, items_elements, elements_found, list_item, none_at, item_then, Parts, part_sound, got, part_found, field_item}

module _ (bs : List ℕ) where
  fields_items : {fs : List Field} {p q : ℕ} {xs : List Value} → p ≤ length bs → FieldsAt bs fs p xs q → ItemsAt bs in_message (length fs) p q
  fields_items h no_field = none_at bs h
  fields_items h (a_field x r) = let i = field_item bs x in item_then bs i (fields_items i.inside r)

  -- ---- the fields

  -- what is not read says nothing
  unread : {why : Unread} {n : Message} → ◌≡◌ {A = Result Message Unread} (Err why) (read n) → ⊥
  unread e = let y : ◌≡◌ {A = ℕ} 0 1 = cc in omega arith

  -- on from what a field says
  abbrev further : Option (Part × ℕ) → List Field → ℕ → Message → Result Message Unread
  further w fs i m = on_pair (Err (WrongField i)) w (λ x q. fields_of bs fs (i + 1) q (with_part m x))

  further_got : (x : Value) (q : ℕ) (fs : List Field) (i : ℕ) (m : Message) → further (got bs x q) fs i m ≡ fields_of bs fs (i + 1) q (saying m x)
  further_got (number v) q fs i m = refl
  further_got (place a l) q fs i m = refl

  fields_found : {fs : List Field} {p q : ℕ} {xs : List Value} (i : ℕ) (m : Message) → FieldsAt bs fs p xs q → fields_of bs fs i p m ≡ read (said_all m xs)
  unfolding fields_of said_all
  fields_found i m no_field = refl
  fields_found i m (a_field {fs = fs} {q = q} {x = x} f r) =
      ap (λ (w : Option (Part × ℕ)). further w fs i m) (part_found bs f) ∙ further_got x q fs i m ∙ fields_found (i + 1) (saying m x) r

  abbrev Found : List Field → ℕ → Message → Message → Type 0
  Found fs p m n = (xs : List Value) × (q : ℕ) × FieldsAt bs fs p xs q × (n ≡ said_all m xs)

  field_sound : (f : Field) (fs : List Field) (i p : ℕ) (m n : Message) (w : Option (Part × ℕ)) → Parts bs (λ x q. FieldAt bs f p x q) w
      → ((q : ℕ) (o : Message) → fields_of bs fs (i + 1) q o ≡ read n → Found fs q o n)
      → further w fs i m ≡ read n → Found (f ∷ fs) p m n
  unfolding said_all
  field_sound f fs i p m n (Some (part.Number v, q)) s go e =
      let r = go q (with_number m v) e in (number v ∷ r.0, r.1, a_field s r.2, r.3)
  field_sound f fs i p m n (Some (part.Place a l, q)) s go e =
      let r = go q (with_place m a l) e in (place a l ∷ r.0, r.1, a_field s r.2, r.3)
  field_sound f fs i p m n None s go e = absurd (unread e)

  fields_sound : (fs : List Field) (i p : ℕ) (m n : Message) → fields_of bs fs i p m ≡ read n → Found fs p m n
  unfolding fields_of said_all
  fields_sound [] i p m n e = ([], p, no_field, ap said_in (sym e))
  fields_sound (f ∷ fs) i p m n e =
      field_sound f fs i p m n (part_of bs f p) (part_sound bs f p) (λ q o g. fields_sound fs (i + 1) q o n g) e

  -- ---- the message

  wholly_true : (v : Verdict) (n : ℕ) → wholly v n ≡ true → v ≡ Ok n
  wholly_true (Ok q) n t = ap Ok (eqb-true q n t)
  wholly_true (Err e) n t = absurd (let z : ◌≡◌ {A = ℕ} 0 1 = cc in omega arith)

  -- bytes that are wholly one item are the item from the first place to the last
  pub whole_item : verdict bs ≡ Ok (length bs) → ItemAt bs nesting 0 (length bs)
  whole_item e = record { forward = omega arith; inside = omega arith; reads = whole_reads bs 0 (length bs) nesting One e }

  item_whole : ItemAt bs nesting 0 (length bs) → verdict bs ≡ Ok (length bs)
  item_whole s = reads_whole bs 0 (length bs) nesting One (omega arith) (omega arith) s.reads

  -- two readings of the same items end at the same place
  same_end : {d k p q r : ℕ} → ItemsAt bs d k p q → ItemsAt bs d k p r → q ≡ r
  same_end {d} {k} {p} {q} {r} s t =
      let e : drop q bs ≡ drop r bs = one_end d (Items k) (drop p bs) (drop q bs) (drop r bs) s.reads t.reads in
      omega (arith, ap length e, length-drop q bs, length-drop r bs, s.inside, t.inside)

  -- an array's elements: its kind, and the fields
  elements : {fs : List Field} {a b q kind : ℕ} {xs : List Value} → UnsignedAt bs a kind b → FieldsAt bs fs b xs q
      → ItemsAt bs in_message (length fs + 1) a q
  elements {fs} {a} {b} {q} u r =
      let e : suc (length fs) ≡ length fs + 1 = omega arith in
      let n = number_item bs u in
      subst (λ (k : ℕ). ItemsAt bs in_message k a q) e (item_then bs n (fields_items n.inside r))

  -- an array's count, by what is in it
  pub open_count : {a k q : ℕ} → a ≤ length bs → ItemsAt bs in_message k a q → get_or bs q 0 ≡ Break → count_from bs Open a ≡ k
  open_count {a} {k} {q} h s c =
      let found : elements_of bs in_message element.Item Open a ≡ Some (k, q) =
      elements_found bs in_message element.Item Open h (items_elements bs k 0 s) c in
      rw found

  count_is : (x : Extent) {a k q : ℕ} → Opens bs array 0 x a → ItemsAt bs in_message k a q → Closes bs x k q → count_from bs x a ≡ k
  count_is (Counted n) o s c = sym c
  count_is Open o s c = open_count (opens_within bs array 0 Open (omega arith) o).1 s c
  count_is Rest o s c = absurd o

  module _ (p : Protocol) where
    pub matches_item : {kind : ℕ} {xs : List Value} → Matches p bs kind xs → ItemAt bs nesting 0 (length bs)
    matches_item m =
        let k : ℕ = length m.fields + 1 in
        let z : k ≡ 1 * k = omega arith in
        subst (λ (q : ℕ). ItemAt bs nesting 0 q) m.whole
        (list_item bs element.Item m.extent k m.opens
        (subst (λ (n : ℕ). ItemsAt bs in_message n m.first m.last) z (elements m.named m.matched)) m.closes)

    counted_sound : (x : Extent) (kind a b : ℕ) (n : Message) (w : Option (List Field)) → form_of p kind ≡ w → ItemAt bs nesting 0 (length bs)
        → Opens bs array 0 x a → UnsignedAt bs a kind b → counted bs (count_from bs x a) kind b w ≡ read n → Says p bs n
    counted_sound x kind a b n None f i o u = λ e. absurd (unread e)
    counted_sound x kind a b n (Some fs) f i o u =
        cond_cases (λ (y : Result Message Unread). y ≡ read n → Says p bs n) (eqb (count_from bs x a) (length fs + 1))
        (λ t e. of (eqb-true (count_from bs x a) (length fs + 1) t) (fields_sound fs 1 b (begun kind) n e))
        (λ _ e. absurd (unread e))
      where
        of : count_from bs x a ≡ length fs + 1 → Found fs b (begun kind) n → Says p bs n
        of c (xs, q, r, e) =
            let g = array_elements bs x o i in
            let k : g.0 ≡ length fs + 1 = sym (count_is x o g.2 g.3) ∙ c in
            let end : g.1 ≡ q = same_end (subst (λ (k : ℕ). ItemsAt bs in_message k a g.1) k g.2) (elements u r) in (
              kind,
              xs,
              record {
                fields = fs;
                extent = x;
                first = a;
                second = b;
                last = q;
                form = f;
                opens = o;
                named = u;
                matched = r;
                closes = subst (Closes bs x (length fs + 1)) end (subst (λ (k : ℕ). Closes bs x k g.1) k g.3);
                whole = ap (past x) (sym end) ∙ g.4;
              },
              e,
            )

    sound : (n : Message) → message_of p bs ≡ read n → Says p bs n
    unfolding message_of numbered_of
    sound n =
        let P : Result Message Unread → Type 0 = λ x. x ≡ read n → Says p bs n in
        let not-array : P (Err NotArray) = λ e. absurd (unread e) in
        cond_cases P (wholly (verdict bs) (length bs))
        (λ t.
        let i : ItemAt bs nesting 0 (length bs) = whole_item (wholly_true (verdict bs) (length bs) t) in
        pair_cases P (λ x a. numbered_of p bs (count_from bs x a) a) (opens_at bs array 0) (opens_sound bs array 0) not-array
        (λ x a o.
        pair_cases P (λ kind b. counted bs (count_from bs x a) kind b (form_of p kind)) (unsigned_at bs a) (unsigned_sound bs a) not-array
        (λ kind b u. counted_sound x kind a b n (form_of p kind) refl i o u)))
        (λ _. not-array)

    found : {kind : ℕ} {xs : List Value} → Matches p bs kind xs → message_of p bs ≡ read (message_from kind xs)
    unfolding message_of numbered_of
    found {kind} {xs} m =
        let n : ℕ = length m.fields + 1 in
        rw (
          item_whole (matches_item m),
          eq-eqb (length bs) (length bs) refl,
          opens_found bs element.Item 0 m.extent m.opens,
          count_is m.extent m.opens (elements m.named m.matched) m.closes,
          unsigned_found bs m.first m.named,
          m.form,
          eq-eqb n n refl,
        )
        (fields_found 1 (begun kind) m.matched)

  -- ---- one match

  pub got_same : (x y : Value) (q r : ℕ) → got bs x q ≡ got bs y r → (x ≡ y) × (q ≡ r)
  got_same (number v) (number w) q r e = let s = some_pair_parts (part.Number v) (part.Number w) q r e in let z : part.Number v ≡ part.Number w = s.0 in (cc, s.1)
  got_same (number v) (place a l) q r e = absurd (let s = some_pair_parts (part.Number v) (part.Place a l) q r e in let y : part.Number v ≡ part.Place a l = s.0 in let z : ◌≡◌ {A = ℕ} 0 1 = cc in omega arith)
  got_same (place a l) (number v) q r e = absurd (let s = some_pair_parts (part.Place a l) (part.Number v) q r e in let y : part.Place a l ≡ part.Number v = s.0 in let z : ◌≡◌ {A = ℕ} 0 1 = cc in omega arith)
  got_same (place a l) (place b k) q r e = let s = some_pair_parts (part.Place a l) (part.Place b k) q r e in let z : part.Place a l ≡ part.Place b k = s.0 in (cc, s.1)

  fields_one : {fs : List Field} {p q r : ℕ} {xs ys : List Value} → FieldsAt bs fs p xs q → FieldsAt bs fs p ys r → xs ≡ ys
  fields_one no_field no_field = refl
  fields_one (a_field {fs = fs} {q = q} {x = x} f s) (a_field {q = q'} {r = r} {x = y} {xs = ys} g t) =
      let e = got_same x y q q' (sym (part_found bs f) ∙ part_found bs g) in
      cc (fields_one s (subst⁻¹ (λ (k : ℕ). FieldsAt bs fs k ys r) e.1 t), e.0)

pub reads_forms : ReadsForms
reads_forms p bs m = (sound bs p m, λ (kind, xs, w, e). found bs p w ∙ ap read (sym e))

pub message_is_item : MessageIsItem
message_is_item p bs kind xs m = rw drop-length at (matches_item bs p m).reads

pub one_match : OneMatch
one_match p bs kind other xs ys m n =
    let o = some_pair_parts m.extent n.extent m.first n.first
    (sym (opens_found bs element.Item 0 m.extent m.opens) ∙ opens_found bs element.Item 0 n.extent n.opens) in
    let a : m.first ≡ n.first = o.1 in
    let u : head.Definite 0 kind m.second ≡ head.Definite 0 other n.second = sym m.named ∙ ap (head_at bs) a ∙ n.named in
    let k : kind ≡ other = cc in
    let b : n.second ≡ m.second = cc in
    let f : Some n.fields ≡ Some m.fields = sym n.form ∙ ap (form_of p) (sym k) ∙ m.form in
    let g : n.fields ≡ m.fields = cc in
    (k, fields_one bs m.matched (subst (λ (fs : List Field). FieldsAt bs fs m.second ys n.last) g (subst (λ (q : ℕ). FieldsAt bs n.fields q ys n.last) b n.matched)))
