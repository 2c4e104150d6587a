-- A message is made again of what it says: each number and run is taken, and no head of the same meaning is shorter than
-- the one made.
-- Assumes nothing.
use Rattle.std.proofs.Common.{Option, Some}
use Prim.Native.Nat.{ℕ, ◌+◌, ◌-◌, ◌≤◌, ◌<◌}
use mathlib.Core.Path.{◌≡◌, refl, sym, ap, subst, subst⁻¹, ◌∙◌}
use mathlib.Core.Bool.{Bool, true, false, true≢false, false≢true}
use mathlib.Core.List.{List, [], ◌∷◌, ◌++◌}
use native.Mathlib.Omega.{arith}
use lib.ListN.{length, get_or, take, length-append}
use native.Mathlib.Decide.{dec_lt}
use lib.Seq.{drop-cons}
use borrow.Author.Tests.{eq-eqb, lt-ltb, le-ltb}
use Rattle.base.proofs.Conds.{cond_cases}
use Rattle.base.specs.Numbers.{Bytes}
use Rattle.ring.specs.Ring.{run}
use Rattle.ring.proofs.Runs.{run_length, run-append}
use Rattle.head.specs.Read.{head_at}
use Rattle.head.specs.declared.read.Head.TheVariants.{Definite}
use Rattle.head.specs.Inside.{length_of}
use Rattle.head.specs.Write.{shortest}
use Rattle.head.proofs.ReadLaws.{definite_within}
use Rattle.head.proofs.WriteLaws.{none_shorter, shortest_length}
use Rattle.rows.specs.declared.Protocol.{Protocol}
use Rattle.elements.specs.declared.Element.{Element}
use Rattle.elements.specs.declared.Element.TheVariants as element
use Rattle.elements.specs.declared.Extent.{Extent}
use Rattle.elements.specs.declared.Extent.TheVariants.{Counted, Open, Rest}
use Rattle.elements.specs.declared.Field.{Field}
use Rattle.elements.specs.Besides.Matching.{Value, number, place, Opens, Closes, FieldAt}
use Rattle.elements.specs.Matching.{indefinite, Break, past, array, opener, False, True}
use Rattle.messages.specs.Besides.Matching.{FieldsAt, no_field, a_field, Matches}
use Rattle.elements.specs.Besides.Matching as matching
use Rattle.elements.proofs.ElementLaws.{opener_high, opens_within, byte_there, item_found, elements_on, elements_inside, field_item}
use Rattle.layout.specs.Asked.{openly}
use Rattle.parts.specs.Counting.{on_some}
use Rattle.parts.proofs.Counted.{counts}
use Rattle.build.specs.Made.{headed, limited, of_number, of_run, made, encoded}
use Rattle.build.specs.Besides.Theorem.{numbers_of, runs_of, Least, ListLeast, FieldLeast, FieldsLeast, ArrayLeast, OwnLeast, ListHas, FieldHas, FieldsHave, Has, Short, FieldShort, FieldsShort, NoLongMap}
use Rattle.build.proofs.Few.{form_few}
use Rattle.build.proofs.Cut.{stands_alone, elements_alone}

-- ---- pieces

-- What is made for the bytes from place p up to place q: no longer than they are if H, and equal to them if S.
pub record Piece (bs : List ℕ) (p q : ℕ) (cs : List ℕ) (H S : Type 0) : Type 0 where
  pub forward : p ≤ q
  pub inside : q ≤ length bs
  pub no_longer : H → length cs ≤ q - p
  pub same : S → cs ≡ run bs p (q - p)

module _ (bs : List ℕ) where
  -- one behind the other
  both : {p q r : ℕ} {xs ys : List ℕ} {H I S T : Type 0} → Piece bs p q xs H S → Piece bs q r ys I T → Piece bs p r (xs ++ ys) (H × I) (S × T)
  both {p} {q} {r} {xs} {ys} x y =
      let o : p ≤ q = x.forward in
      let o' : q ≤ r = y.forward in
      let a : List ℕ = run bs p (q - p) in
      let all : r - p ≡ q - p + (r - q) = omega arith in
      let seam : p + (q - p) ≡ q = omega arith in
      let cut : run bs p (r - p) ≡ a ++ run bs q (r - q) =
      ap (run bs p) all ∙ run-append bs p (q - p) (r - q) ∙ ap (λ (i : ℕ). a ++ run bs i (r - q)) seam in
      record {
        forward = omega arith;
        inside = y.inside;
        no_longer = λ (h, i). omega (arith, x.no_longer h, y.no_longer i, length-append xs ys);
        same = λ (s, t). ap (λ (l : List ℕ). l ++ ys) (x.same s) ∙ ap (λ (l : List ℕ). a ++ l) (y.same t) ∙ sym cut;
      }

  -- under other conditions
  under : {p q : ℕ} {cs : List ℕ} {H I S T : Type 0} → (I → H) → (T → S) → Piece bs p q cs H S → Piece bs p q cs I T
  under f g x = record { forward = x.forward; inside = x.inside; no_longer = λ i. x.no_longer (f i); same = λ t. x.same (g t) }

  -- a head, where the shortest is made
  head_piece : {p m v q : ℕ} → Bytes bs → head_at bs p ≡ Definite m v q → Piece bs p q (shortest m v) (Unit {0}) (Least bs m v p q)
  head_piece {p} {m} {v} {q} bytes e =
      let w = definite_within bs p e in
      record { forward = omega (arith, w.0); inside = w.1; no_longer = λ _. omega (arith, none_shorter bs p m v q bytes e); same = sym }

  -- the bytes themselves
  run_piece : {p q : ℕ} {cs : List ℕ} → p ≤ q → q ≤ length bs → cs ≡ run bs p (q - p) → Piece bs p q cs (Unit {0}) (Unit {0})
  run_piece {p} {q} {cs} h l e =
      record { forward = h; inside = l; no_longer = λ _. omega (arith, ap length e, run_length bs p (q - p) (omega arith)); same = λ _. e }

  byte_piece : {p : ℕ} (b : ℕ) → get_or bs p 0 ≡ b → p + 1 ≤ length bs → Piece bs p (p + 1) (b ∷ []) (Unit {0}) (Unit {0})
  byte_piece {p} b e h =
      let size : 1 ≡ p + 1 - p = omega arith in
      let there : run bs p 1 ≡ get_or bs p 0 ∷ [] = ap (take 1) (drop-cons bs p 0 (omega arith)) in
      run_piece (omega arith) h (ap (λ (x : ℕ). x ∷ []) (sym e) ∙ sym there ∙ ap (run bs p) size)

  -- ---- fields

  -- what is made, if it is, and that it is such a piece
  abbrev pub Gives : Option (List ℕ) → ℕ → ℕ → Type 0 → Type 0 → Type 0
  Gives o p q H S = (cs : List ℕ) × (o ≡ Some cs) × Piece bs p q cs H S

  module _ (asked : Bool) where
    abbrev of_value : Field → Value → Option (List ℕ)
    of_value f (number v) = of_number f v
    of_value f (place a l) = of_run asked f (run bs a l)

    -- a list or map: what is asked for, and what is there
    definite_has : (e : Element) (n : ℕ) → openly asked e ≡ true → ListHas asked e (Counted n) → ⊥
    definite_has element.Item n t h = true≢false (sym t ∙ h)
    definite_has element.Pair n t h = true≢false (sym t ∙ h)
    definite_has element.Version n t h = false≢true t

    not_least : (e : Element) (k p a : ℕ) → openly asked e ≡ true → ListLeast bs asked e (Counted k) p a → ⊥
    not_least element.Item k p a t l = true≢false (sym t ∙ l.0)
    not_least element.Pair k p a t l = true≢false (sym t ∙ l.0)
    not_least element.Version k p a t l = false≢true t

    its_least : (e : Element) (k p a : ℕ) → ListLeast bs asked e (Counted k) p a → Least bs (opener e) k p a
    its_least element.Item k p a l = l.1
    its_least element.Pair k p a l = l.1
    its_least element.Version k p a l = l

    short_map : (e : Element) (k : ℕ) → openly asked e ≡ false → ListHas asked e Open → Short e Open k → k < 256
    short_map element.Item k t h s = absurd (false≢true (sym t ∙ h))
    short_map element.Pair k t h s = absurd (false≢true (sym t ∙ h))
    short_map element.Version k t h s = s

    not_open : (e : Element) (p a : ℕ) → openly asked e ≡ false → ListLeast bs asked e Open p a → ⊥
    not_open element.Item p a t l = false≢true (sym t ∙ l)
    not_open element.Pair p a t l = false≢true (sym t ∙ l)
    not_open element.Version p a t l = l

    two_bytes : (m k : ℕ) → k < 256 → length (shortest m k) ≤ 2
    two_bytes m k h = omega (arith, shortest_length m k, of (dec_lt k 24))
      where
        of : Dec (k < 24) → length_of k ≤ 2
        of (yes y) = rw (lt-ltb k 24 y) (omega arith)
        of (no x) = rw (le-ltb k 24 (omega arith), lt-ltb k 256 h) (omega arith)

    list_piece : (e : Element) (x : Extent) (p k a q : ℕ) → Bytes bs → Opens bs (opener e) p x a → a ≤ q → q ≤ length bs → Closes bs x k q
        → Piece bs p (past x q) (headed asked e (run bs a (q - a)) k) (ListHas asked e x × Short e x k) (ListLeast bs asked e x p a)
    list_piece e (Counted n) p k a q bytes o h l c =
        let r : List ℕ = run bs a (q - a) in
        let o' : Opens bs (opener e) p (Counted k) a = o ∙ ap (λ (n : ℕ). Definite (opener e) n a) (sym c) in
        let H : Type 0 = ListHas asked e (Counted n) × Short e (Counted n) k in
        let S : Type 0 = ListLeast bs asked e (Counted n) p a in
        let w = definite_within bs p o in
        cond_cases (λ (cs : List ℕ). Piece bs p q cs H S) (openly asked e)
        (λ t.
        record {
          forward = omega (arith, w.0);
          inside = l;
          no_longer = λ (g, _). absurd (definite_has e n t g);
          same = λ s. absurd (not_least e n p a t s);
        })
        (λ t.
        under (λ _. (tt, tt)) (λ s. (subst⁻¹ (λ (n : ℕ). Least bs (opener e) n p a) c (its_least e n p a s), tt)) (both (head_piece bytes o') (run_piece h l refl)))
    list_piece e Open p k a q bytes (b, n) h l c =
        let r : List ℕ = run bs a (q - a) in
        let H : Type 0 = ListHas asked e Open × Short e Open k in
        let S : Type 0 = ListLeast bs asked e Open p a in
        let there = byte_there bs q Break c (omega arith) in
        let first = byte_piece (indefinite (opener e)) b (omega (arith, n)) in
        let first' = subst⁻¹ (λ (a : ℕ). Piece bs p a (indefinite (opener e) ∷ []) (Unit {0}) (Unit {0})) n first in
        let whole = both first' (both (run_piece h l refl) (byte_piece Break c (omega arith))) in
        cond_cases (λ (cs : List ℕ). Piece bs p (q + 1) cs H S) (openly asked e) (λ t. under (λ _. (tt, (tt, tt))) (λ _. (tt, (tt, tt))) whole)
        (λ t.
        record {
          forward = whole.forward;
          inside = whole.inside;
          no_longer = λ (g, s).
              omega (
                arith,
                two_bytes (opener e) k (short_map e k t g s),
                length-append (shortest (opener e) k) r,
                run_length bs a (q - a) (omega arith),
                n,
              );
          same = λ s. absurd (not_open e p a t s);
        })
    list_piece e Rest p k a q bytes o h l c = absurd o

    -- its conditions
    abbrev Had : {f : Field} {p q : ℕ} {x : Value} → FieldAt bs f p x q → Type 0
    Had s = FieldHas asked s × FieldShort s

    number_made : {p v q limit : ℕ} → Bytes bs → head_at bs p ≡ Definite 0 v q → v < limit
        → Gives (limited limit v) p q (Unit {0} × Unit {0}) (Least bs 0 v p q)
    number_made {v = v} {limit = limit} bytes u l = (shortest 0 v, rw (lt-ltb v limit l), under (λ _. tt) (λ s. s) (head_piece bytes u))

    field_made : {f : Field} {p q : ℕ} {x : Value} → Bytes bs → (s : FieldAt bs f p x q) → Gives (of_value f x) p q (Had s) (FieldLeast asked s)
    field_made bytes (matching.item {p = p} {q = q} i) =
        let r : List ℕ = run bs p (q - p) in
        let n : ℕ = length r in (
          r,
          rw (item_found r (stands_alone bs p q i.forward i.inside i), eq-eqb n n refl),
          under (λ _. tt) (λ _. tt) (run_piece i.forward i.inside refl),
        )
    field_made bytes (matching.list {e = e} {p = p} {k = k} {a = a} {q = q} x o s c) =
        let h = elements_on bs s in
        let l = elements_inside bs (opens_within bs (opener e) p x (opener_high e) o).1 s in
        let r : List ℕ = run bs a (q - a) in (
          headed asked e r k,
          ap (λ (o : Option ℕ). on_some o (λ k. Some (headed asked e r k))) ((counts e r k).1 (elements_alone bs a q (omega arith) l s)),
          list_piece e x p k a q bytes o (omega arith) l c,
        )
    field_made bytes (matching.below u l) = number_made bytes u l
    field_made bytes (matching.false e) = (
      False ∷ [],
      refl,
      under (λ _. tt) (λ _. tt) (byte_piece False e (field_item bs (matching.false e)).inside),
    )
    field_made bytes (matching.true e) = (True ∷ [], refl, under (λ _. tt) (λ _. tt) (byte_piece True e (field_item bs (matching.true e)).inside))

    -- the first field takes what it says
    first_made : {f : Field} {p q : ℕ} {x : Value} → FieldAt bs f p x q → (fs : List Field) (xs : List Value)
        → made asked (f ∷ fs) (numbers_of (x ∷ xs)) (runs_of bs (x ∷ xs))
        ≡ on_some (of_value f x) (λ cs. on_some (made asked fs (numbers_of xs) (runs_of bs xs)) (λ ys. Some (cs ++ ys)))
    unfolding made
    first_made (matching.item i) fs xs = refl
    first_made (matching.list x o s c) fs xs = refl
    first_made (matching.below u l) fs xs = refl
    first_made (matching.false e) fs xs = refl
    first_made (matching.true e) fs xs = refl

    fields_made : {fs : List Field} {p q : ℕ} {xs : List Value} → Bytes bs → p ≤ length bs → (s : FieldsAt bs fs p xs q)
        → Gives (made asked fs (numbers_of xs) (runs_of bs xs)) p q (FieldsHave asked s × FieldsShort s) (FieldsLeast asked s)
    unfolding made
    fields_made {p = p} bytes h no_field =
        let z : 0 ≡ p - p = omega arith in
        ([], refl, under (λ _. tt) (λ _. tt) (run_piece (omega arith) h (ap (run bs p) z)))
    fields_made bytes h (a_field {fs = fs} {xs = xs} x r) =
        let here = field_made bytes x in
        let rest = fields_made bytes here.2.inside r in
        (here.0 ++ rest.0, first_made x fs xs ∙ rw (here.1, rest.1), under (λ ((a, b), (c, d)). ((a, c), (b, d))) (λ s. s) (both here.2 rest.2))

    -- ---- the message

    one_byte : (n : ℕ) → n < 24 → length (shortest array n) ≡ 1
    one_byte n h = shortest_length array n ∙ rw (lt-ltb n 24 h)

    whole_piece : (x : Extent) {a q n : ℕ} {cs : List ℕ} {H S : Type 0} → Bytes bs → n < 24 → Opens bs array 0 x a → Closes bs x n q → past x q ≡ length bs
        → Piece bs a q cs H S → Piece bs 0 (length bs) (shortest array n ++ cs) H (ArrayLeast bs x a × S)
    whole_piece (Counted m) {a} {q} {n} {cs} {H} {S} bytes low o c e rest =
        let o' : Opens bs array 0 (Counted n) a = o ∙ ap (λ (n : ℕ). Definite array n a) (sym c) in
        subst (λ (q : ℕ). Piece bs 0 q (shortest array n ++ cs) H (ArrayLeast bs (Counted m) a × S)) e
        (under (λ h. (tt, h)) (λ (l, s). (subst⁻¹ (λ (n : ℕ). Least bs array n 0 a) c l, s)) (both (head_piece bytes o') rest))
    whole_piece Open {a} {q} {n} {cs} bytes low (b, m) c e rest =
        record {
          forward = omega arith;
          inside = omega arith;
          no_longer = λ h. omega (arith, length-append (shortest array n) cs, one_byte n low, rest.no_longer h, rest.forward, e, m);
          same = λ (l, _). absurd l;
        }
    whole_piece Rest bytes low o c e rest = absurd o

    pub message_made : (p : Protocol) {kind : ℕ} {xs : List Value} → Bytes bs → (given : Matches p bs kind xs)
        → Gives (encoded p kind asked (numbers_of xs) (runs_of bs xs)) 0 (length bs) (Has asked given × NoLongMap given) (OwnLeast asked given)
    unfolding encoded
    message_made p {kind} {xs} bytes given =
        let fs : List Field = given.fields in
        let rest = fields_made bytes (definite_within bs given.first given.named).1 given.matched in
        let few = form_few p kind given.form in (
          shortest array (length fs + 1) ++ (shortest 0 kind ++ rest.0),
          rw (given.form, rest.1),
          whole_piece given.extent bytes (omega (arith, few.fields)) given.opens given.closes given.whole
              (under (λ h. (tt, h)) (λ s. s) (both (head_piece bytes given.named) rest.2)),
        )
