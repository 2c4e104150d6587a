-- Elements of a message: what each definition of reading finds is what stands there, and what stands there is found.
-- Assumes nothing.
use Prim.Native.Nat.{ℕ, zero, suc, ◌+◌, ◌-◌, ◌*◌, ◌≤◌, ◌<◌}
use mathlib.Core.Path.{◌≡◌, refl, sym, ap, subst, subst⁻¹, ◌∙◌}
use mathlib.Core.Bool.{true, false, cond, ◌&&◌}
use mathlib.Core.List.{List, ◌∷◌}
use mathlib.Core.Option.{some}
use Rattle.std.specs.Prelude.{Option, Some, None, Ok, Err}
use native.Mathlib.Omega.{arith}
use native.Mathlib.Decide.{dec_lt}
use lib.Dec.{ltb, leb, eqb}
use lib.ListN.{length, get_or, drop, drop_of_length-le, length-drop, length-append, get_or-eq_default}
use lib.Seq.{drop-cons, drop-drop, drop-append_seam}
use borrow.Author.Tests.{ltb-true, leb-true, eqb-true, lt-ltb, le-leb, eq-eqb, ne_eqb}
use Rattle.base.proofs.Conds.{cond_cases, both_true}
use Rattle.head.specs.Initial.{initial}
use Rattle.head.specs.declared.Initial.TheVariants as says
use Rattle.head.specs.Read.{head_at, head_by}
use Rattle.head.specs.declared.read.Head.{Head}
use Rattle.head.specs.declared.read.Head.TheVariants as head
use Rattle.head.proofs.ReadLaws.{definite_within}
use Rattle.item.specs.Grammar.{Frame, One, Items, Elements, Pairs, Content, Reads, nest, indefinite, enter, one, no_more, item, end_array, element, end_map, key, value, no_byte}
use Rattle.item.specs.Verdict.{judge, met, start, Verdict}
use Rattle.item.proofs.Local.{Cuts, cuts}
use Rattle.item.proofs.Derivative.{nothing}
use Rattle.item.proofs.Parts.{whole_reads, whole_place, reads_whole}
use Rattle.elements.specs.declared.Element.{Element}
use Rattle.elements.specs.declared.Element.TheVariants as element
use Rattle.elements.specs.declared.Extent.{Extent}
use Rattle.elements.specs.declared.Extent.TheVariants.{Counted, Open, Rest}
use Rattle.elements.specs.declared.Field.{Field}
use Rattle.elements.specs.declared.Field.TheVariants as field
use Rattle.elements.specs.declared.Part.{Part}
use Rattle.elements.specs.declared.Part.TheVariants as part
use Rattle.elements.specs.Besides.Matching.{Value, number, place, ItemAt, ItemsAt, UnsignedAt, Opens, Closes, ElementAt, an_item, a_pair, a_version, ElementsAt, no_element, an_element, FieldAt}
use Rattle.elements.specs.Matching.{Break, past, array, map, versions, sizes, False, True, in_message, in_list, opener}
use Rattle.elements.specs.Besides.Matching as matching
use Rattle.elements.specs.Inside.{before, items_up_to}
use Rattle.elements.specs.Reading.{on_pair, on_end, unsigned, unsigned_at, opens, opens_at, closed, ended, item_end, leaving, size_end, sized_end, two_end, pair_end, key_at, version_at, element_at, walk, elements_of, below, up_to, listed, bool_of, part_of}
use Rattle.elements.proofs.Heads.{into, out, break_byte, open_byte, byte_head}

-- ---- by cases on what was found

-- what holds where something is found
abbrev pub Pairwise : {A : Type 0} {B : Type 0} → (A → B → Type 0) → Option (A × B) → Type 0
Pairwise R (Some (x, y)) = R x y
Pairwise R None = Unit {0}

abbrev pub Ends : (ℕ → Type 0) → Option ℕ → Type 0
Ends R (Some q) = R q
Ends R None = Unit {0}

pub pair_cases : {A : Type 0} {B : Type 0} {C : Type 0} (P : C → Type 0) {R : A → B → Type 0} {other : C} (k : A → B → C) (o : Option (A × B))
    → Pairwise R o → P other → ((x : A) (y : B) → R x y → P (k x y)) → P (on_pair other o k)
pair_cases P k (Some (x, y)) r z f = f x y r
pair_cases P k None r z f = z

pub end_cases : {A : Type 0} (P : A → Type 0) {R : ℕ → Type 0} {other : A} (k : ℕ → A) (e : Option ℕ) → Ends R e
    → P other → ((q : ℕ) → R q → P (k q)) → P (on_end other e k)
end_cases P k (Some q) r x f = f q r
end_cases P k None r x f = x

ends_map : {R S : ℕ → Type 0} (e : Option ℕ) → ((q : ℕ) → R q → S q) → Ends R e → Ends S e
ends_map (Some q) f r = f q r
ends_map None f r = tt

pairs_map : {R S : ℕ → ℕ → Type 0} (n : Option (ℕ × ℕ)) → ((v q : ℕ) → R v q → S v q) → Pairwise R n → Pairwise S n
pairs_map (Some (v, q)) f r = f v q r
pairs_map None f r = tt

leaving_map : {R : ℕ → Type 0} (S : ℕ → ℕ → Type 0) (next : ℕ) (e : Option ℕ) → ((q : ℕ) → R q → S next q) → Ends R e → Pairwise S (leaving next e)
leaving_map S next (Some q) f r = f q r
leaving_map S next None f r = tt

-- the major type of a list is that of an array or a map
pub opener_low : (e : Element) → opener e < 7
opener_low element.Item = omega arith
opener_low element.Pair = omega arith
opener_low element.Version = omega arith

pub opener_high : (e : Element) → 0 < opener e
opener_high element.Item = omega arith
opener_high element.Pair = omega arith
opener_high element.Version = omega arith

-- ---- heads

unsigned_says : (h : Head) → Pairwise (λ v q. h ≡ head.Definite 0 v q) (unsigned h)
unsigned_says (head.Definite M v q) =
    cond_cases (Pairwise (λ w r. head.Definite M v q ≡ head.Definite 0 w r)) (eqb M 0)
    (λ t. ap (λ (n : ℕ). head.Definite n v q) (eqb-true M 0 t)) (λ _. tt)
unsigned_says (head.Indefinite M q) = tt
unsigned_says (head.Break q) = tt
unsigned_says head.Short = tt
unsigned_says head.Bad = tt

module _ (bs : List ℕ) where
  pub unsigned_sound : (p : ℕ) → Pairwise (λ v q. UnsignedAt bs p v q) (unsigned_at bs p)
  unfolding unsigned_at
  unsigned_sound p = unsigned_says (head_at bs p)

  pub unsigned_found : (p : ℕ) {v q : ℕ} → UnsignedAt bs p v q → unsigned_at bs p ≡ Some (v, q)
  unfolding unsigned_at
  unsigned_found p e = ap unsigned e

  pub opens_sound : (m p : ℕ) → Pairwise (λ x a. Opens bs m p x a) (opens_at bs m p)
  unfolding opens_at
  opens_sound m p = of (head_at bs p) refl
    where
      of : (h : Head) → head_at bs p ≡ h → Pairwise (λ x a. Opens bs m p x a) (opens m h)
      of (head.Definite M v q) e =
          cond_cases (Pairwise (λ x a. Opens bs m p x a)) (eqb M m) (λ t. e ∙ ap (λ (n : ℕ). head.Definite n v q) (eqb-true M m t)) (λ _. tt)
      of (head.Indefinite M q) e =
          cond_cases (Pairwise (λ x a. Opens bs m p x a)) (eqb M m)
          (λ t. let w = open_byte bs p e in (omega (arith, w.0, eqb-true M m t), w.1)) (λ _. tt)
      of (head.Break q) e = tt
      of head.Short e = tt
      of head.Bad e = tt

  -- a byte that is not 0 is there
  pub byte_there : (p b : ℕ) → get_or bs p 0 ≡ b → 0 < b → p < length bs
  byte_there p b e h = elim (dec_lt p (length bs)) [
    | yes y ↦ y
    | no x ↦ absurd (omega (arith, e, get_or-eq_default bs 0 {n = p} (omega arith)))
  ]

  open_head : (e : Element) (p : ℕ) → get_or bs p 0 ≡ opener e * 32 + 31 → head_at bs p ≡ head.Indefinite (opener e) (p + 1)
  unfolding head_by initial
  open_head element.Item p h = byte_head bs p 159 h (omega arith)
  open_head element.Pair p h = byte_head bs p 159 h (omega arith)
  open_head element.Version p h = byte_head bs p 191 h (omega arith)

  pub opens_found : (e : Element) (p : ℕ) (x : Extent) {a : ℕ} → Opens bs (opener e) p x a → opens_at bs (opener e) p ≡ Some (x, a)
  unfolding opens_at
  opens_found e p (Counted k) o = ap (opens (opener e)) o ∙ rw (eq-eqb (opener e) (opener e) refl)
  opens_found e p Open (b, n) = ap (opens (opener e)) (open_head e p b) ∙ rw (eq-eqb (opener e) (opener e) refl) (ap (λ (a : ℕ). Some (Open, a)) (sym n))
  opens_found e p Rest o = absurd o

  pub opens_within : (m p : ℕ) (x : Extent) {a : ℕ} → 0 < m → Opens bs m p x a → (p < a) × (a ≤ length bs)
  opens_within m p (Counted k) h o = definite_within bs p o
  opens_within m p Open h (b, n) = (omega arith, omega (arith, byte_there p (m * 32 + 31) b (omega arith), n))
  opens_within m p Rest h o = absurd o

  -- an array or map that is at its end, with its break, ends in the bytes
  pub closed_true : (x : Extent) (k q : ℕ) → closed bs x k q ≡ true → Closes bs x k q
  closed_true (Counted n) k q t = eqb-true k n t
  closed_true Open k q t = eqb-true (get_or bs q 0) Break t
  closed_true Rest k q t = eqb-true q (length bs) t

  closes_true : (x : Extent) (k q : ℕ) → Closes bs x k q → closed bs x k q ≡ true
  closes_true (Counted n) k q c = eq-eqb k n c
  closes_true Open k q c = eq-eqb (get_or bs q 0) Break c
  closes_true Rest k q c = eq-eqb q (length bs) c

  pub past_inside : (x : Extent) (k : ℕ) {q : ℕ} → q ≤ length bs → Closes bs x k q → (q ≤ past x q) × (past x q ≤ length bs)
  past_inside (Counted n) k h c = (omega arith, h)
  past_inside Open k {q} h c = (omega arith, omega (arith, byte_there q Break c (omega arith)))
  past_inside Rest k h c = (omega arith, h)

  -- ---- items

  ended_sound : (v : Verdict) → Ends (λ q. v ≡ Ok q) (ended v)
  ended_sound (Ok q) = refl
  ended_sound (Err e) = tt

  -- past the end there is no item
  pub item_past : (d p : ℕ) → length bs < p → None ≡ item_end bs d p
  unfolding item_end judge met
  item_past d p h = let e : drop p bs ≡ _ = drop_of_length-le bs {i = p} (omega arith) in rw e

  item_here : (d p : ℕ) → p ≤ length bs → Ends (λ q. ItemAt bs d p q) (item_end bs d p)
  unfolding item_end
  item_here d p h =
      ends_map (ended (judge (drop p bs) p (start d)))
      (λ q e.
      let w = whole_place bs p q d One e in
      record { forward = w.0; inside = omega (arith, w.1, length-drop p bs); reads = whole_reads bs p q d One e })
      (ended_sound (judge (drop p bs) p (start d)))

  pub item_sound : (d p : ℕ) → Ends (λ q. ItemAt bs d p q) (item_end bs d p)
  item_sound d p = elim (dec_lt (length bs) p) [
    | yes y ↦ subst (Ends (λ q. ItemAt bs d p q)) (item_past d p y) tt
    | no x ↦ item_here d p (omega arith)
  ]

  pub item_found : {d p q : ℕ} → ItemAt bs d p q → item_end bs d p ≡ Some q
  unfolding item_end
  item_found {d} {p} {q} s = ap ended (reads_whole bs p q d One s.forward s.inside s.reads)

  -- what is read ends no earlier than it begins
  pub forward : {d : ℕ} {f : Frame} {p q : ℕ} → p ≤ length bs → q ≤ length bs → Reads d f (drop p bs) (drop q bs) → p ≤ q
  forward {d} {f} {p} {q} h l r = of (cuts r)
    where
      of : Cuts d f (drop p bs) (drop q bs) → p ≤ q
      of (a, e, _) = omega (arith, ap length e ∙ length-append a (drop q bs), length-drop p bs, length-drop q bs)

  -- a number is an item within any nesting
  pub number_item : {d p v q : ℕ} → UnsignedAt bs p v q → ItemAt bs d p q
  unfolding nest
  number_item {d} {p} {v} {q} e =
      let w = definite_within bs p e in
      record { forward = omega (arith, w.0); inside = w.1; reads = into bs p 0 v q (omega arith) e (λ f. refl) no_byte }

  -- an array is an item, and so is a map; its elements are what is in it
  array_item : {d p k a q : ℕ} → Opens bs array p (Counted k) a → ItemsAt bs d k a q → ItemAt bs (suc d) p q
  unfolding nest
  array_item {d} {p} {k} {a} {q} o s =
      let w = definite_within bs p o in
      let e : suc d - 1 ≡ d = omega arith in
      record {
        forward = omega (arith, w.0, s.forward);
        inside = s.inside;
        reads = into bs p array k a (omega arith) o (λ f. refl) (subst⁻¹ (λ (n : ℕ). Reads n (Items k) (drop a bs) (drop q bs)) e s.reads);
      }

  map_item : {d p k a q : ℕ} → Opens bs map p (Counted k) a → ItemsAt bs d (k * 2) a q → ItemAt bs (suc d) p q
  unfolding nest
  map_item {d} {p} {k} {a} {q} o s =
      let w = definite_within bs p o in
      let e : suc d - 1 ≡ d = omega arith in
      record {
        forward = omega (arith, w.0, s.forward);
        inside = s.inside;
        reads = into bs p map k a (omega arith) o (λ f. refl) (subst⁻¹ (λ (n : ℕ). Reads n (Items (k * 2)) (drop a bs) (drop q bs)) e s.reads);
      }

  pub item_array : {d p k a q : ℕ} → Opens bs array p (Counted k) a → ItemAt bs (suc d) p q → ItemsAt bs d k a q
  item_array {d} {p} {k} {a} {q} o s =
      let w = definite_within bs p o in
      let e : suc d - 1 ≡ d = omega arith in
      let r : Reads d (Items k) (drop a bs) (drop q bs) =
      subst (λ (n : ℕ). Reads n (Items k) (drop a bs) (drop q bs)) e (out bs p array k a (omega arith) o s.reads) in
      record { forward = forward w.1 s.inside r; inside = s.inside; reads = r }

  -- no items, and one item and then others
  pub none_at : {d p : ℕ} → p ≤ length bs → ItemsAt bs d zero p p
  none_at h = record { forward = omega arith; inside = h; reads = no_more }

  pub item_then : {d k p q r : ℕ} → ItemAt bs d p q → ItemsAt bs d k q r → ItemsAt bs d (suc k) p r
  item_then s t = record { forward = omega (arith, s.forward, t.forward); inside = t.inside; reads = item s.reads t.reads }

  -- an item has a byte at least
  pub ahead : {d p q : ℕ} → ItemAt bs d p q → p < q
  ahead {d} {p} {q} s = of (drop p bs) refl s.reads
    where
      of : (l : List ℕ) → l ≡ drop p bs → Reads d One l (drop q bs) → p < q
      of l e (one w r) =
          let c = cuts r in
          omega (arith, ap length e, length-drop p bs, length-drop q bs, ap length c.1 ∙ length-append c.0 (drop q bs), s.forward, s.inside)

  -- items end where they begin, or are one item and then others
  pub no_items : {d p q : ℕ} → ItemsAt bs d zero p q → p ≡ q
  no_items {d} {p} {q} s = omega (arith, ap length (of s.reads), length-drop p bs, length-drop q bs, s.forward, s.inside)
    where
      of : {xs ys : List ℕ} → Reads d (Items zero) xs ys → xs ≡ ys
      of no_more = refl

  pub first_item : {d k p r : ℕ} → ItemsAt bs d (suc k) p r → (q : ℕ) × ItemAt bs d p q × ItemsAt bs d k q r
  first_item {d} {k} {p} {r} s = of s.reads
    where
      of : Reads d (Items (suc k)) (drop p bs) (drop r bs) → (q : ℕ) × ItemAt bs d p q × ItemsAt bs d k q r
      of (item {cs = cs} g h) =
          let c = cuts g in
          let a : List ℕ = c.0 in
          let q : ℕ = p + length a in
          let there : cs ≡ drop q bs = sym (sym (drop-drop (length a) p bs) ∙ ap (drop (length a)) c.1 ∙ drop-append_seam a cs) in
          let within : q ≤ length bs = omega (arith, ap length c.1 ∙ length-append a cs, length-drop p bs, s.forward, s.inside) in
          let rest : Reads d (Items k) (drop q bs) (drop r bs) = subst (λ (l : List ℕ). Reads d (Items k) l (drop r bs)) there h in (
            q,
            record { forward = omega arith; inside = within; reads = subst (Reads d One (drop p bs)) there g },
            record { forward = forward within s.inside rest; inside = s.inside; reads = rest },
          )

  -- ---- arrays and maps of indefinite length

  -- items up to a break, and keys and values; and such items are so many
  open_items : {d k b : ℕ} {xs ys : List ℕ} → Reads d (Items k) xs (b ∷ ys) → initial b ≡ says.Break → Reads d Elements xs ys
  open_items no_more e = end_array e
  open_items (item g r) e = element g (open_items r e)

  open_pairs : {d b : ℕ} (k : ℕ) {xs ys : List ℕ} → Reads d (Items (2 * k)) xs (b ∷ ys) → initial b ≡ says.Break → Reads d Pairs xs ys
  open_pairs {d} {b} zero {xs} {ys} r e = let z : 2 * 0 ≡ 0 = omega arith in of (subst (λ (n : ℕ). Reads d (Items n) xs (b ∷ ys)) z r)
    where
      of : {xs : List ℕ} → Reads d (Items 0) xs (b ∷ ys) → Reads d Pairs xs ys
      of no_more = end_map e
  open_pairs {d} {b} (suc k) {xs} {ys} r e =
      let z : 2 * suc k ≡ suc (suc (2 * k)) = omega arith in of (subst (λ (n : ℕ). Reads d (Items n) xs (b ∷ ys)) z r) (λ zs r. open_pairs k r e)
    where
      of : {xs : List ℕ} → Reads d (Items (suc (suc (2 * k)))) xs (b ∷ ys) → ((zs : List ℕ) → Reads d (Items (2 * k)) zs (b ∷ ys) → Reads d Pairs zs ys)
          → Reads d Pairs xs ys
      of (item g (item h r)) go = key g (value h (go _ r))

  counted_items : {d : ℕ} {xs ys : List ℕ} → Reads d Elements xs ys → (k : ℕ) × (b : ℕ) × Reads d (Items k) xs (b ∷ ys) × (initial b ≡ says.Break)
  counted_items (end_array {b = b} e) = (0, b, no_more, e)
  counted_items (element g r) = let c = counted_items r in (suc c.0, c.1, item g c.2, c.3)

  -- the byte at a place, and the bytes behind it
  byte_here : (p b : ℕ) → get_or bs p 0 ≡ b → 0 < b → drop p bs ≡ b ∷ drop (p + 1) bs
  byte_here p b e h =
      let next : suc p ≡ p + 1 = omega arith in
      drop-cons bs p 0 (byte_there p b e h) ∙ ap (λ (x : ℕ). x ∷ drop (suc p) bs) e ∙ ap (λ (n : ℕ). b ∷ drop n bs) next

  break_says : initial Break ≡ says.Break
  unfolding initial
  break_says = refl

  -- an array that opens at p and has these elements up to a break at q
  module _ (d p a k q : ℕ) (o : a ≡ p + 1) (s : ItemsAt bs d k a q) (c : get_or bs q 0 ≡ Break) where
    up_to_break : Reads d (Items k) (drop (p + 1) bs) (Break ∷ drop (q + 1) bs)
    up_to_break =
        subst (λ (l : List ℕ). Reads d (Items k) (drop (p + 1) bs) l) (byte_here q Break c (omega arith))
        (subst (λ (n : ℕ). Reads d (Items k) (drop n bs) (drop q bs)) o s.reads)

    open_list : (b : ℕ) {f : Frame} → get_or bs p 0 ≡ b → 0 < b → enter (suc d) (initial b) ≡ some f → Reads d f (drop (p + 1) bs) (drop (q + 1) bs)
        → ItemAt bs (suc d) p (q + 1)
    open_list b {f} e h enters r =
        let z : d ≡ suc d - 1 = omega arith in
        record {
          forward = omega (arith, s.forward);
          inside = omega (arith, byte_there q Break c (omega arith));
          reads =
              subst⁻¹ (λ (l : List ℕ). Reads (suc d) One l (drop (q + 1) bs)) (byte_here p b e h)
              (one enters (subst (λ (n : ℕ). Reads n f (drop (p + 1) bs) (drop (q + 1) bs)) z r));
        }

    open_array : get_or bs p 0 ≡ array * 32 + 31 → ItemAt bs (suc d) p (q + 1)
    unfolding enter initial indefinite
    open_array b = open_list 159 b (omega arith) refl (open_items up_to_break break_says)

  open_map : (d p a k q : ℕ) → a ≡ p + 1 → ItemsAt bs d (2 * k) a q → get_or bs q 0 ≡ Break → get_or bs p 0 ≡ map * 32 + 31 → ItemAt bs (suc d) p (q + 1)
  unfolding enter initial indefinite
  open_map d p a k q o s c b = open_list d p a (2 * k) q o s c 191 b (omega arith) refl (open_pairs k (up_to_break d p a (2 * k) q o s c) break_says)

  -- what is in an array of indefinite length
  array_open : {d p r : ℕ} → get_or bs p 0 ≡ array * 32 + 31 → ItemAt bs (suc d) p r
      → (k : ℕ) × (q : ℕ) × ItemsAt bs d k (p + 1) q × (get_or bs q 0 ≡ Break) × (q + 1 ≡ r)
  unfolding enter initial indefinite
  array_open {d} {p} {r} e s = of (subst (λ (l : List ℕ). Reads (suc d) One l (drop r bs)) (byte_here p 159 e (omega arith)) s.reads)
    where
      in_bytes : p < length bs
      in_bytes = byte_there p 159 e (omega arith)

      found : {k b : ℕ} → Reads d (Items k) (drop (p + 1) bs) (b ∷ drop r bs) → initial b ≡ says.Break
          → (k : ℕ) × (q : ℕ) × ItemsAt bs d k (p + 1) q × (get_or bs q 0 ≡ Break) × (q + 1 ≡ r)
      found {k} {b} g i =
          let c = cuts g in
          let a : List ℕ = c.0 in
          let q : ℕ = p + 1 + length a in
          let there : b ∷ drop r bs ≡ drop q bs =
          sym (sym (drop-drop (length a) (p + 1) bs) ∙ ap (drop (length a)) c.1 ∙ drop-append_seam a (b ∷ drop r bs)) in
          let long = length-drop q bs in
          let long-r = length-drop r bs in
          let within : q < length bs = omega (arith, ap length there, long) in
          let split : drop q bs ≡ get_or bs q 0 ∷ drop (suc q) bs = drop-cons bs q 0 within in
          let byte : b ≡ get_or bs q 0 = cc in (
            k,
            q,
            record { forward = omega arith; inside = omega arith; reads = subst (Reads d (Items k) (drop (p + 1) bs)) there g },
            sym byte ∙ break_byte b i,
            omega (arith, ap length there, long, long-r, s.inside),
          )

      of : Reads (suc d) One (159 ∷ drop (p + 1) bs) (drop r bs)
          → (k : ℕ) × (q : ℕ) × ItemsAt bs d k (p + 1) q × (get_or bs q 0 ≡ Break) × (q + 1 ≡ r)
      of (one {f = f} w g) =
          let same : Elements ≡ f = cc in
          let z : suc d - 1 ≡ d = omega arith in
          let c = counted_items (subst (λ (n : ℕ). Reads n Elements (drop (p + 1) bs) (drop r bs)) z
          (subst⁻¹ (λ (f : Frame). Reads (suc d - 1) f (drop (p + 1) bs) (drop r bs)) same g)) in
          found c.2 c.3

  -- an array is its elements, of definite or indefinite length
  pub array_elements : (x : Extent) {d p a r : ℕ} → Opens bs array p x a → ItemAt bs (suc d) p r
      → (k : ℕ) × (q : ℕ) × ItemsAt bs d k a q × Closes bs x k q × (past x q ≡ r)
  array_elements (Counted n) {r = r} o s = (n, r, item_array o s, refl, refl)
  array_elements Open {d} (b, n) s =
      let f = array_open b s in (f.0, f.1, subst⁻¹ (λ (a : ℕ). ItemsAt bs d f.0 a f.1) n f.2, f.3, f.4)
  array_elements Rest o s = absurd o

  -- no item begins with a break
  pub item_no_break : {d p q : ℕ} → ItemAt bs d p q → get_or bs p 0 ≡ Break → ⊥
  unfolding enter initial
  item_no_break {d} {p} {q} s e = of (subst (λ (l : List ℕ). Reads d One l (drop q bs)) (byte_here p Break e (omega arith)) s.reads)
    where
      of : {xs ys : List ℕ} → Reads d One (Break ∷ xs) ys → ⊥
      of (one w g) = nothing w

  -- nor does a head that is none
  head_no_break : (p : ℕ) {m v q : ℕ} → head_at bs p ≡ head.Definite m v q → get_or bs p 0 ≡ Break → ⊥
  unfolding head_by initial
  head_no_break p {m} {v} {q} o e =
      let b : head_at bs p ≡ head.Break (p + 1) = byte_head bs p Break e (omega arith) in
      let z : head.Break (p + 1) ≡ head.Definite m v q = sym b ∙ o in
      let y : ◌≡◌ {A = ℕ} 0 1 = cc in
      omega arith

  -- ---- elements

  -- a size, and an item with its size
  abbrev SizeAt : ℕ → ℕ → Type 0
  SizeAt p q = (v : ℕ) × UnsignedAt bs p v q × (v < sizes)

  abbrev SizedAt : ℕ → ℕ → ℕ → Type 0
  SizedAt d p q = (b : ℕ) × ItemAt bs d p b × SizeAt b q

  size_sound : (p : ℕ) → Ends (SizeAt p) (size_end bs p)
  unfolding size_end
  size_sound p =
      pair_cases (Ends (SizeAt p)) (λ v q. cond (ltb v sizes) (Some q) None) (unsigned_at bs p) (unsigned_sound p) tt
      (λ v q e. cond_cases (Ends (SizeAt p)) (ltb v sizes) (λ t. (v, e, ltb-true v sizes t)) (λ _. tt))

  sized_sound : (d p : ℕ) → Ends (SizedAt d p) (sized_end bs d p)
  unfolding sized_end
  sized_sound d p =
      end_cases (Ends (SizedAt d p)) (size_end bs) (item_end bs d p) (item_sound d p) tt
      (λ b i. ends_map (size_end bs b) (λ q s. (b, i, s)) (size_sound b))

  sized_inside : {d p q : ℕ} → SizedAt d p q → q ≤ length bs
  sized_inside (b, i, (v, u, l)) = (definite_within bs b u).1

  pub sized_end_lem : (d p : ℕ) {q : ℕ} → sized_end bs d p ≡ Some q → q ≤ length bs
  sized_end_lem d p e = sized_inside (subst (Ends (SizedAt d p)) e (sized_sound d p))

  pair_sound : (d low p : ℕ) → Ends (λ q. ElementAt bs d element.Pair low p 0 q) (pair_end bs d p)
  unfolding pair_end
  pair_sound d low p =
      let P : Option ℕ → Type 0 = Ends (λ q. ElementAt bs d element.Pair low p 0 q) in
      pair_cases P (λ x a. on_end None (sized_end bs (d - 1) a) (λ q. two_end bs x q)) (opens_at bs array p) (opens_sound array p) tt
      (λ x a o.
      end_cases P (λ q. two_end bs x q) (sized_end bs (d - 1) a) (sized_sound (d - 1) a) tt
      (λ q (b, i, (v, u, l)). cond_cases P (closed bs x 2 q) (λ t. a_pair x o i u l (closed_true x 2 q t)) (λ _. tt)))

  abbrev KeyAt : ℕ → ℕ → ℕ → ℕ → Type 0
  KeyAt low p v a = UnsignedAt bs p v a × (low ≤ v) × (v < versions)

  key_sound : (low p : ℕ) → Pairwise (KeyAt low p) (key_at bs low p)
  unfolding key_at
  key_sound low p =
      pair_cases (Pairwise (KeyAt low p)) (λ v q. cond (leb low v && ltb v versions) (Some (v, q)) None) (unsigned_at bs p) (unsigned_sound p) tt
      (λ v q u.
      cond_cases (Pairwise (KeyAt low p)) (leb low v && ltb v versions)
      (λ t. let ts = both_true (leb low v) (ltb v versions) t in (u, leb-true low v ts.0, ltb-true v versions ts.1)) (λ _. tt))

  -- a key is a version
  pub key_small : (low p : ℕ) {v q : ℕ} → key_at bs low p ≡ Some (v, q) → v < versions
  key_small low p e = (subst (Pairwise (KeyAt low p)) e (key_sound low p)).2

  version_sound : (d low p : ℕ) → Pairwise (λ next q. ElementAt bs d element.Version low p next q) (version_at bs d low p)
  unfolding version_at
  version_sound d low p =
      let P : Option (ℕ × ℕ) → Type 0 = Pairwise (λ next q. ElementAt bs d element.Version low p next q) in
      pair_cases P (λ v a. leaving (v + 1) (item_end bs d a)) (key_at bs low p) (key_sound low p) tt
      (λ v a (u, l, l'). leaving_map (λ next q. ElementAt bs d element.Version low p next q) (v + 1) (item_end bs d a) (λ q i. a_version u l l' i) (item_sound d a))

  -- what is found next stands there, and what stands there is found
  pub next_sound : (d : ℕ) (e : Element) (low p : ℕ) → Pairwise (λ next q. ElementAt bs d e low p next q) (element_at bs d e low p)
  unfolding element_at
  next_sound d element.Item low p = leaving_map (λ next q. ElementAt bs d element.Item low p next q) 0 (item_end bs d p) (λ q i. an_item i) (item_sound d p)
  next_sound d element.Pair low p = leaving_map (λ next q. ElementAt bs d element.Pair low p next q) 0 (pair_end bs d p) (λ q s. s) (pair_sound d low p)
  next_sound d element.Version low p = version_sound d low p

  next_found : {d : ℕ} {e : Element} {low p next q : ℕ} → ElementAt bs d e low p next q → element_at bs d e low p ≡ Some (next, q)
  unfolding element_at pair_end sized_end size_end version_at key_at
  next_found (an_item i) = rw (item_found i)
  next_found (a_pair {p = p} {b = b} {v = v} {q = q} x o i u l c) =
      rw (opens_found element.Pair p x o, item_found i, unsigned_found b u, lt-ltb v sizes l, closes_true x 2 q c)
  next_found (a_version {low = low} {p = p} {v = v} u l l' i) = rw (unsigned_found p u, le-leb low v l, lt-ltb v versions l', item_found i)

  -- an element has a byte at least
  pub advance : {d : ℕ} {e : Element} {low p next q : ℕ} → ElementAt bs d e low p next q → (p < q) × (q ≤ length bs)
  advance (an_item i) = (ahead i, i.inside)
  advance (a_pair {p = p} {b = b} x o i u l c) =
      let w = opens_within array p x (omega arith) o in
      let w' = definite_within bs b u in
      let e = past_inside x 2 w'.1 c in
      (omega (arith, w.0, i.forward, w'.0, e.0), e.1)
  advance (a_version {p = p} u l l' i) = let w = definite_within bs p u in (omega (arith, w.0, i.forward), i.inside)

  pub elements_on : {d : ℕ} {e : Element} {low k p q : ℕ} → ElementsAt bs d e low k p q → p + k ≤ q
  elements_on no_element = omega arith
  elements_on (an_element s r) = omega (arith, (advance s).0, elements_on r)

  pub elements_inside : {d : ℕ} {e : Element} {low k p q : ℕ} → p ≤ length bs → ElementsAt bs d e low k p q → q ≤ length bs
  elements_inside h no_element = h
  elements_inside h (an_element s r) = elements_inside (advance s).1 r

  -- a pair is an item, and a version with its value two
  abbrev pub per : Element → ℕ
  per element.Item = 1
  per element.Pair = 1
  per element.Version = 2

  -- a list is an item, and so is a pair
  pub list_item : (e : Element) (x : Extent) (k : ℕ) {d p a q : ℕ} → Opens bs (opener e) p x a → ItemsAt bs d (per e * k) a q → Closes bs x k q
      → ItemAt bs (suc d) p (past x q)
  list_item element.Item (Counted n) k {d} {a = a} {q = q} o s c =
      let z : 1 * k ≡ n = omega arith in array_item o (subst (λ (n : ℕ). ItemsAt bs d n a q) z s)
  list_item element.Pair (Counted n) k {d} {a = a} {q = q} o s c =
      let z : 1 * k ≡ n = omega arith in array_item o (subst (λ (n : ℕ). ItemsAt bs d n a q) z s)
  list_item element.Version (Counted n) k {d} {a = a} {q = q} o s c =
      let z : 2 * k ≡ n * 2 = omega arith in map_item o (subst (λ (n : ℕ). ItemsAt bs d n a q) z s)
  list_item element.Item Open k {d} {p} {a} {q} (b, n) s c = open_array d p a (1 * k) q n s c b
  list_item element.Pair Open k {d} {p} {a} {q} (b, n) s c = open_array d p a (1 * k) q n s c b
  list_item element.Version Open k {d} {p} {a} {q} (b, n) s c = open_map d p a k q n s c b
  list_item e Rest k o s c = absurd o

  element_then : {d : ℕ} {e : Element} {low m p next q r : ℕ} → 0 < d → ElementAt bs d e low p next q → ItemsAt bs d m q r
      → ItemsAt bs d (per e + m) p r
  element_then {d} {m = m} {p = p} {r = r} h (an_item i) s = let z : suc m ≡ 1 + m = omega arith in subst (λ (n : ℕ). ItemsAt bs d n p r) z (item_then i s)
  element_then {d} {m = m} {p = p} {q = e} {r = r} h (a_pair {q = q} x o i u l c) s =
      let n = number_item u in
      let z : suc m ≡ 1 + m = omega arith in
      let y : suc (d - 1) ≡ d = omega arith in
      let pair : ItemAt bs d p (past x q) =
      subst (λ (n : ℕ). ItemAt bs n p (past x q)) y (list_item element.Pair x 2 o (item_then i (item_then n (none_at n.inside))) c) in
      subst (λ (n : ℕ). ItemsAt bs d n p r) z (item_then pair s)
  element_then {d} {m = m} {p = p} {r = r} h (a_version u l l' i) s =
      let z : suc (suc m) ≡ 2 + m = omega arith in
      subst (λ (n : ℕ). ItemsAt bs d n p r) z (item_then (number_item u) (item_then i s))

  elements_items : {d : ℕ} {e : Element} {low k p q : ℕ} → 0 < d → p ≤ length bs → ElementsAt bs d e low k p q → ItemsAt bs d (per e * k) p q
  elements_items {d} {e} {p = p} h l no_element = let z : 0 ≡ per e * 0 = omega arith in subst (λ (n : ℕ). ItemsAt bs d n p p) z (none_at l)
  elements_items {d} {e} {p = p} {q = r} h l (an_element {k = k} s rest) =
      let z : per e + per e * k ≡ per e * suc k = omega arith in
      subst (λ (n : ℕ). ItemsAt bs d n p r) z (element_then h s (elements_items h (advance s).1 rest))

  -- k elements that are items are k items, and the other way round
  pub items_elements : {d : ℕ} (k low : ℕ) {p q : ℕ} → ItemsAt bs d k p q → ElementsAt bs d element.Item low k p q
  items_elements {d} zero low {p} s = subst (λ (n : ℕ). ElementsAt bs d element.Item low 0 p n) (no_items s) no_element
  items_elements (suc k) low s = let f = first_item s in an_element (an_item f.1) (items_elements k 0 f.2)

  -- ---- the walk along elements

  -- no element begins with a break
  no_break : {d : ℕ} {e : Element} {low p next q : ℕ} → ElementAt bs d e low p next q → get_or bs p 0 ≡ Break → ⊥
  no_break (an_item i) e = item_no_break i e
  no_break (a_pair {p = p} (Counted n) o i u l c) e = head_no_break p o e
  no_break (a_pair Open (b, n) i u l c) e = omega arith
  no_break (a_pair Rest o i u l c) e = o
  no_break (a_version {p = p} u l l' i) e = head_no_break p u e

  -- so elements go on where one stands in front of their end
  still_open : (x : Extent) {d : ℕ} {e : Element} {low p next b : ℕ} (k : ℕ) {n q : ℕ} → ElementAt bs d e low p next b → k < n → b ≤ q
      → Closes bs x n q → closed bs x k p ≡ false
  still_open (Counted count) k s less on c = ne_eqb k count (λ e. omega arith)
  still_open Open {p = p} k s less on c = ne_eqb (get_or bs p 0) Break (no_break s)
  still_open Rest {p = p} k s less on c = ne_eqb p (length bs) (λ e. omega (arith, (advance s).0))

  module _ (d : ℕ) (e : Element) (x : Extent) where
    -- behind k elements there are j more, n in all
    abbrev pub Walked : ℕ → ℕ → ℕ → ℕ → ℕ → Type 0
    Walked k low p n q = (j : ℕ) × (n ≡ k + j) × ElementsAt bs d e low j p q × Closes bs x n q

    walk_sound : (bytes k low p : ℕ) → Pairwise (Walked k low p) (walk bs d e x bytes k low p)
    unfolding walk
    walk_sound zero k low p =
        cond_cases (Pairwise (Walked k low p)) (closed bs x k p) (λ t. (0, omega arith, no_element, closed_true x k p t)) (λ _. tt)
    walk_sound (suc bytes) k low p =
        let P : Option (ℕ × ℕ) → Type 0 = Pairwise (Walked k low p) in
        cond_cases P (closed bs x k p) (λ t. (0, omega arith, no_element, closed_true x k p t))
        (λ _.
        pair_cases P (λ next q. walk bs d e x bytes (k + 1) next q) (element_at bs d e low p) (next_sound d e low p) tt
        (λ next q s.
        pairs_map (walk bs d e x bytes (k + 1) next q) (λ n r (j, z, rest, c). (suc j, omega (arith, z), an_element s rest, c))
        (walk_sound bytes (k + 1) next q)))

    walk-found : (j bytes k low p : ℕ) {q : ℕ} → ElementsAt bs d e low j p q → Closes bs x (k + j) q → q ≤ p + bytes
        → walk bs d e x bytes k low p ≡ Some (k + j, q)
    unfolding walk
    walk-found zero zero k low p no_element c h = let z : k ≡ k + 0 = omega arith in rw (closes_true x k p (subst⁻¹ (λ (n : ℕ). Closes bs x n p) z c)) (ap (λ (n : ℕ). Some (n, p)) z)
    walk-found zero (suc bytes) k low p no_element c h = let z : k ≡ k + 0 = omega arith in rw (closes_true x k p (subst⁻¹ (λ (n : ℕ). Closes bs x n p) z c)) (ap (λ (n : ℕ). Some (n, p)) z)
    walk-found (suc j) zero k low p (an_element s r) c h = absurd (omega (arith, (advance s).0, elements_on r))
    walk-found (suc j) (suc bytes) k low p {q} (an_element {next = next} {q = b} s r) c h =
        let z : k + 1 + j ≡ k + suc j = omega arith in
        let go : walk bs d e x bytes (k + 1) next b ≡ Some (k + 1 + j, q) =
        walk-found j bytes (k + 1) next b r (subst⁻¹ (λ (n : ℕ). Closes bs x n q) z c) (omega (arith, (advance s).0)) in
        rw (still_open x k s (omega arith) (omega (arith, elements_on r)) c, next_found s) (go ∙ ap (λ (n : ℕ). Some (n, q)) z)

    pub elements_sound : (p : ℕ) → Pairwise (λ k q. ElementsAt bs d e 0 k p q × Closes bs x k q) (elements_of bs d e x p)
    elements_sound p =
        pairs_map (elements_of bs d e x p)
        (λ k q (j, z, s, c). let y : j ≡ k = omega arith in (subst (λ (n : ℕ). ElementsAt bs d e 0 n p q) y s, c)) (walk_sound (length bs) 0 0 p)

    pub elements_found : {k p q : ℕ} → p ≤ length bs → ElementsAt bs d e 0 k p q → Closes bs x k q → elements_of bs d e x p ≡ Some (k, q)
    elements_found {k} {p} {q} h s c =
        let z : 0 + k ≡ k = omega arith in
        walk-found k (length bs) 0 0 p s (subst⁻¹ (λ (n : ℕ). Closes bs x n q) z c) (omega (arith, elements_inside h s)) ∙ ap (λ (n : ℕ). Some (n, q)) z

  -- where elements are found, they end in the bytes
  elements_end : (d : ℕ) (e : Element) (x : Extent) (p : ℕ) {k q : ℕ} → p ≤ length bs → elements_of bs d e x p ≡ Some (k, q) → past x q ≤ length bs
  elements_end d e x p {k} {q} h f =
      let s = subst (Pairwise (λ k q. ElementsAt bs d e 0 k p q × Closes bs x k q)) f (elements_sound d e x p) in
      (past_inside x k (elements_inside h s.0) s.1).1

  pub list_end : (e : Element) (x : Extent) (p : ℕ) {a k q : ℕ} → opens_at bs (opener e) p ≡ Some (x, a) → elements_of bs in_list e x a ≡ Some (k, q)
      → past x q ≤ length bs
  list_end e x p {a} found f =
      let o = subst (Pairwise (λ x a. Opens bs (opener e) p x a)) found (opens_sound (opener e) p) in
      elements_end in_list e x a (opens_within (opener e) p x (opener_high e) o).1 f

  before_past : (x : Extent) (q : ℕ) → before x (past x q) ≡ q
  before_past (Counted n) q = refl
  before_past Open q = omega arith
  before_past Rest q = refl

  -- a list of items ends where its array ends
  pub items_end : (x : Extent) (p : ℕ) {a : ℕ} → opens_at bs array p ≡ Some (x, a)
      → items_up_to x a (item_end bs in_message p) ≡ listed x a (elements_of bs in_list element.Item x a)
  items_end x p {a} found =
      of (item_end bs in_message p) refl (item_sound in_message p) (elements_of bs in_list element.Item x a) refl
      (elements_sound in_list element.Item x a)
    where
      o : Opens bs array p x a
      o = subst (Pairwise (λ x a. Opens bs array p x a)) found (opens_sound array p)

      low : a ≤ length bs
      low = (opens_within array p x (omega arith) o).1

      of : (e : Option ℕ) → item_end bs in_message p ≡ e → Ends (λ q. ItemAt bs in_message p q) e → (n : Option (ℕ × ℕ))
          → elements_of bs in_list element.Item x a ≡ n → Pairwise (λ j q. ElementsAt bs in_list element.Item 0 j a q × Closes bs x j q) n
          → items_up_to x a e ≡ listed x a n
      of (Some r) h i n m s =
          let f = array_elements x o i in
          let q : ℕ = f.1 in
          let is : elements_of bs in_list element.Item x a ≡ Some (f.0, q) = elements_found in_list element.Item x low (items_elements f.0 0 f.2) f.3 in
          let b : before x r ≡ q = ap (before x) (sym f.4) ∙ before_past x q in
          ap (λ (q : ℕ). Some (part.Place a (q - a), r)) b ∙ ap (λ (r : ℕ). Some (part.Place a (q - a), r)) (sym f.4) ∙ ap (listed x a) (sym is ∙ m)
      of None h i (Some (j, q)) m (s, c) =
          let whole = item_found (list_item element.Item x j o (elements_items (omega arith) low s) c) in
          absurd (let y : Some (past x q) ≡ None = sym whole ∙ h in let x : ◌≡◌ {A = ℕ} 0 1 = cc in omega arith)
      of None h i None m s = refl

  -- ---- fields

  -- what a field says, where it says something
  abbrev pub Parts : (Value → ℕ → Type 0) → Option (Part × ℕ) → Type 0
  Parts R (Some (part.Number v, q)) = R (number v) q
  Parts R (Some (part.Place a l, q)) = R (place a l) q
  Parts R None = Unit {0}

  below_sound : (limit p : ℕ) (R : Value → ℕ → Type 0) → ((v q : ℕ) → UnsignedAt bs p v q → v < limit → R (number v) q)
      → Parts R (below limit (unsigned_at bs p))
  below_sound limit p R f =
      pair_cases (Parts R) (λ v q. cond (ltb v limit) (Some (part.Number v, q)) None) (unsigned_at bs p) (unsigned_sound p) tt
      (λ v q u. cond_cases (Parts R) (ltb v limit) (λ t. f v q u (ltb-true v limit t)) (λ _. tt))

  up_to_sound : {S : ℕ → Type 0} (a : ℕ) (R : Value → ℕ → Type 0) (e : Option ℕ) → Ends S e → ((q : ℕ) → S q → R (place a (q - a)) q)
      → Parts R (up_to a e)
  up_to_sound a R e s f = end_cases (Parts R) (λ q. Some (part.Place a (q - a), q)) e s tt f

  bool_sound : (p b : ℕ) → get_or bs p 0 ≡ b → Parts (λ x q. FieldAt bs field.Bool p x q) (bool_of b p)
  bool_sound p b e =
      cond_cases (Parts (λ x q. FieldAt bs field.Bool p x q)) (eqb b False) (λ t. matching.false (e ∙ eqb-true b False t))
      (λ _. cond_cases (Parts (λ x q. FieldAt bs field.Bool p x q)) (eqb b True) (λ t. matching.true (e ∙ eqb-true b True t)) (λ _. tt))

  pub part_sound : (f : Field) (p : ℕ) → Parts (λ x q. FieldAt bs f p x q) (part_of bs f p)
  unfolding part_of
  part_sound field.Item p =
      up_to_sound p (λ x q. FieldAt bs field.Item p x q) (item_end bs in_message p) (item_sound in_message p) (λ q i. matching.item i)
  part_sound (field.List e) p =
      let P : Option (Part × ℕ) → Type 0 = Parts (λ x q. FieldAt bs (field.List e) p x q) in
      pair_cases P (λ x a. listed x a (elements_of bs in_list e x a)) (opens_at bs (opener e) p) (opens_sound (opener e) p) tt
      (λ x a o.
      pair_cases P (λ n q. Some (part.Place a (q - a), past x q)) (elements_of bs in_list e x a) (elements_sound in_list e x a) tt
      (λ n q (s, c). matching.list x o s c))
  part_sound (field.Below limit) p = below_sound limit p (λ x q. FieldAt bs (field.Below limit) p x q) (λ v q u l. matching.below u l)
  part_sound field.Bool p = bool_sound p (get_or bs p 0) refl

  -- what a value at a place is in the answer
  abbrev pub got : Value → ℕ → Option (Part × ℕ)
  got (number v) q = Some (part.Number v, q)
  got (place a l) q = Some (part.Place a l, q)

  below_found : (limit p : ℕ) {v q : ℕ} → UnsignedAt bs p v q → v < limit → below limit (unsigned_at bs p) ≡ Some (part.Number v, q)
  below_found limit p {v} {q} u l = rw (unsigned_found p u, lt-ltb v limit l)

  pub part_found : {f : Field} {p q : ℕ} {x : Value} → FieldAt bs f p x q → part_of bs f p ≡ got x q
  unfolding part_of
  part_found (matching.item i) = rw (item_found i)
  part_found (matching.list {e = e} {p = p} x o s c) =
      rw (opens_found e p x o, elements_found in_list e x (opens_within (opener e) p x (opener_high e) o).1 s c)
  part_found (matching.below {limit = limit} {p = p} u l) = below_found limit p u l
  part_found (matching.false e) = rw e
  part_found (matching.true e) = rw e

  -- ---- a field is an item

  bool_item : (d p b : ℕ) → get_or bs p 0 ≡ b → 0 < b → enter d (initial b) ≡ some (Content 0) → ItemAt bs d p (p + 1)
  bool_item d p b e h f =
      let there : p < length bs = byte_there p b e h in
      let next : suc p ≡ p + 1 = omega arith in
      let here : b ∷ drop (p + 1) bs ≡ drop p bs =
      ap (λ (x : ℕ). x ∷ drop (p + 1) bs) (sym e) ∙ ap (λ (n : ℕ). get_or bs p 0 ∷ drop n bs) (sym next) ∙ sym (drop-cons bs p 0 there) in
      record { forward = omega arith; inside = omega arith; reads = subst (λ (l : List ℕ). Reads d One l (drop (p + 1) bs)) here (one f no_byte) }

  pub field_item : {f : Field} {p q : ℕ} {x : Value} → FieldAt bs f p x q → ItemAt bs in_message p q
  unfolding enter initial nest
  field_item (matching.item i) = i
  field_item (matching.list {e = e} {p = p} {k = k} x o s c) =
      list_item e x k o (elements_items (omega arith) (opens_within (opener e) p x (opener_high e) o).1 s) c
  field_item (matching.below u l) = number_item u
  field_item (matching.false {p = p} e) = bool_item in_message p False e (omega arith) refl
  field_item (matching.true {p = p} e) = bool_item in_message p True e (omega arith) refl
