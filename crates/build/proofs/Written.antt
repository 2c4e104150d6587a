-- A field that is made stands where it is put, says what it was made of, and has own heads as short as can be.
-- Assumes nothing.
use Rattle.std.proofs.Common.{Some, None}
use Prim.Native.Nat.{ℕ, ◌+◌, ◌-◌, ◌^◌, ◌≤◌, ◌<◌}
use mathlib.Core.Path.{◌≡◌, refl, sym, ap, subst, subst⁻¹, ◌∙◌}
use mathlib.Core.Bool.{Bool, true, false, false≢true, cond}
use mathlib.Core.List.{List, [], ◌∷◌, ◌++◌, append_assoc}
use native.Mathlib.Omega.{arith}
use lib.Dec.{eqb, ltb}
use lib.ListN.{length, get_or, take, length-append}
use lib.Seq.{take_at, drop_at, get_or-append_seam}
use borrow.Author.Tests.{eqb-true, ltb-true}
use Rattle.base.proofs.Conds.{cond_cases}
use Rattle.ring.specs.Ring.{run}
use Rattle.head.specs.Read.{head_at}
use Rattle.head.specs.declared.read.Head.TheVariants.{Definite}
use Rattle.head.specs.Write.{shortest}
use Rattle.head.proofs.WriteLaws.{reads_back}
use Rattle.elements.specs.declared.Element.{Element}
use Rattle.elements.specs.declared.Element.TheVariants as element
use Rattle.elements.specs.declared.Field.{Field}
use Rattle.elements.specs.declared.Field.TheVariants as field
use Rattle.elements.specs.declared.Extent.TheVariants.{Counted, Open}
use Rattle.elements.specs.Besides.Matching.{Value, number, place, ItemAt, Opens, ElementsAt, FieldAt}
use Rattle.elements.specs.Matching.{indefinite, Break, False, True, in_message, in_list, opener}
use Rattle.elements.specs.Besides.Matching as matching
use Rattle.elements.specs.Reading.{item_end}
use Rattle.elements.proofs.ElementLaws.{opener_low, end_cases, item_sound}
use Rattle.layout.specs.Asked.{openly}
use Rattle.parts.specs.Counting.{on_some, count_of}
use Rattle.parts.proofs.Counting.{Found, some_cases}
use Rattle.parts.proofs.Counted.{counted}
use Rattle.build.specs.Made.{one_item, headed, limited, truth, of_number, of_run}
use Rattle.build.specs.Besides.Theorem.{Least, ListLeast, FieldLeast}
use Rattle.build.proofs.Few.{Low}
use Rattle.build.proofs.Shift.{shift, elements_shift}

-- a field stands there, and its own heads are as short as can be
abbrev pub LeastAt : Bool → List ℕ → Field → ℕ → Value → ℕ → Type 0
LeastAt asked bs f p x q = (s : FieldAt bs f p x q) × FieldLeast asked s

-- a run that stands behind others
pub run_there : (xs r ys : List ℕ) (l : ℕ) → l ≡ length r → run (xs ++ (r ++ ys)) (length xs) l ≡ r
run_there xs r ys l e = ap (take l) (drop_at xs (r ++ ys) (length xs) refl) ∙ take_at r ys l (sym e)

-- ---- numbers

-- the bytes cs are the field f, which says the number v, wherever they stand
abbrev pub Says : Bool → Field → ℕ → List ℕ → Type 0
Says asked f v cs = (xs ys : List ℕ) → LeastAt asked (xs ++ (cs ++ ys)) f (length xs) (number v) (length xs + length cs)

below_says : (asked : Bool) (limit v : ℕ) → limit ≤ 2 ^ 32 → Found (Says asked (field.Below limit) v) (limited limit v)
below_says asked limit v h =
    cond_cases (Found (Says asked (field.Below limit) v)) (ltb v limit)
    (λ t xs ys.
    let low : v < limit = ltb-true v limit t in
    let cs : List ℕ = shortest 0 v in
    (matching.below (reads_back 0 v xs ys (omega arith) (omega arith)) low, run_there xs cs ys (length xs + length cs - length xs) (omega arith)))
    (λ _. tt)

truth_says : (asked : Bool) (v : ℕ) → Found (Says asked field.Bool v) (truth v)
truth_says asked v =
    cond_cases (Found (Says asked field.Bool v)) (eqb v 0)
    (λ t xs ys.
    subst⁻¹ (λ (v : ℕ). LeastAt asked (xs ++ (False ∷ ys)) field.Bool (length xs) (number v) (length xs + 1)) (eqb-true v 0 t)
    (matching.false (get_or-append_seam xs False ys 0), tt))
    (λ _.
    cond_cases (Found (Says asked field.Bool v)) (eqb v 1)
    (λ t xs ys.
    subst⁻¹ (λ (v : ℕ). LeastAt asked (xs ++ (True ∷ ys)) field.Bool (length xs) (number v) (length xs + 1)) (eqb-true v 1 t)
    (matching.true (get_or-append_seam xs True ys 0), tt))
    (λ _. tt))

pub number_says : (asked : Bool) (f : Field) (v : ℕ) → Low f → Found (Says asked f v) (of_number f v)
number_says asked field.Item v h = tt
number_says asked (field.List e) v h = tt
number_says asked (field.Below limit) v h = below_says asked limit v h
number_says asked field.Bool v h = truth_says asked v

-- ---- runs

-- the bytes cs are the field f, whose item or elements are r, wherever they stand
abbrev pub Holds : Bool → Field → List ℕ → List ℕ → Type 0
Holds asked f r cs =
    (xs ys : List ℕ)
    → (a : ℕ) × (l : ℕ) × LeastAt asked (xs ++ (cs ++ ys)) f (length xs) (place a l) (length xs + length cs) × (run (xs ++ (cs ++ ys)) a l ≡ r)

item_holds : (asked : Bool) (r : List ℕ) → Found (Holds asked field.Item r) (one_item r)
item_holds asked r =
    end_cases (Found (Holds asked field.Item r)) (λ q. cond (eqb q (length r)) (Some r) None) (item_end r in_message 0)
    (item_sound r in_message 0) tt
    (λ q i.
    cond_cases (Found (Holds asked field.Item r)) (eqb q (length r))
    (λ t xs ys.
    let p : ℕ = length xs in
    let s : ItemAt (xs ++ (r ++ ys)) in_message (p + 0) (p + length r) =
    subst (λ (e : ℕ). ItemAt (xs ++ (r ++ ys)) in_message (p + 0) (p + e)) (eqb-true q (length r) t) (shift xs r ys i) in
    let z : p + 0 ≡ p = omega arith in
    let s' : ItemAt (xs ++ (r ++ ys)) in_message p (p + length r) = subst (λ (n : ℕ). ItemAt (xs ++ (r ++ ys)) in_message n (p + length r)) z s in
    (p, p + length r - p, (matching.item s', tt), run_there xs r ys (p + length r - p) (omega arith)))
    (λ _. tt))

-- the head is as build writes it
module _ (bs : List ℕ) (asked : Bool) where
  is_least : (e : Element) (k p a : ℕ) → openly asked e ≡ false → Least bs (opener e) k p a → ListLeast bs asked e (Counted k) p a
  is_least element.Item k p a t l = (t, l)
  is_least element.Pair k p a t l = (t, l)
  is_least element.Version k p a t l = l

  is_open : (e : Element) (p a : ℕ) → openly asked e ≡ true → ListLeast bs asked e Open p a
  is_open element.Item p a t = t
  is_open element.Pair p a t = t
  is_open element.Version p a t = absurd (false≢true t)

-- a list or map of definite length: its head, and its run of so many elements
headed_holds : (asked : Bool) (e : Element) (r : List ℕ) (k : ℕ) → openly asked e ≡ false → k < 2 ^ 64 → ElementsAt r in_list e 0 k 0 (length r)
    → Holds asked (field.List e) r (shortest (opener e) k ++ r)
headed_holds asked e r k definite small s xs ys =
    let f : Field = field.List e in
    let major : ℕ = opener e in
    let h : List ℕ = shortest major k in
    let bs : List ℕ = (xs ++ h) ++ (r ++ ys) in
    let same : bs ≡ xs ++ ((h ++ r) ++ ys) = append_assoc xs h (r ++ ys) ∙ ap (λ (l : List ℕ). xs ++ l) (sym (append_assoc h r ys)) in
    let front : length (xs ++ h) ≡ length xs + length h = length-append xs h in
    let both : length (h ++ r) ≡ length h + length r = length-append h r in
    let opens : Opens bs major (length xs) (Counted k) (length (xs ++ h)) =
    ap (λ (l : List ℕ). head_at l (length xs)) (append_assoc xs h (r ++ ys)) ∙ reads_back major k xs (r ++ ys) (opener_low e) small
    ∙ ap (Definite major k) (sym front) in
    let a : ℕ = length (xs ++ h) in
    let l : ℕ = a + length r - a in
    let least : Least bs major k (length xs) a =
    ap (λ (l : List ℕ). run l (length xs) (a - length xs)) (append_assoc xs h (r ++ ys)) ∙ run_there xs h (r ++ ys) (a - length xs) (omega arith) in
    let next : a + length r ≡ length xs + length (h ++ r) = omega arith in
    let z : a + 0 ≡ a = omega arith in
    let elements = subst (λ (n : ℕ). ElementsAt bs in_list e 0 k n (a + length r)) z (elements_shift (xs ++ h) r ys s) in (
      a,
      l,
      subst (λ (bs : List ℕ). LeastAt asked bs f (length xs) (place a l) (length xs + length (h ++ r))) same
          (subst (λ (q : ℕ). LeastAt asked bs f (length xs) (place a l) q) next (matching.list (Counted k) opens elements refl, is_least bs asked e k (length xs) a definite least)),
      ap (λ (bs : List ℕ). run bs a l) (sym same) ∙ run_there (xs ++ h) r ys l (omega arith),
    )

-- a list of indefinite length: its head, its run, and a break
open_holds : (asked : Bool) (e : Element) (r : List ℕ) (k : ℕ) → openly asked e ≡ true → ElementsAt r in_list e 0 k 0 (length r)
    → Holds asked (field.List e) r (indefinite (opener e) ∷ (r ++ (Break ∷ [])))
open_holds asked e r k lasts s xs ys =
    let f : Field = field.List e in
    let b : ℕ = indefinite (opener e) in
    let front : List ℕ = xs ++ (b ∷ []) in
    let end : List ℕ = Break ∷ ys in
    let bs : List ℕ = front ++ (r ++ end) in
    let same : bs ≡ xs ++ ((b ∷ (r ++ (Break ∷ []))) ++ ys) =
    append_assoc xs (b ∷ []) (r ++ end) ∙ ap (λ (l : List ℕ). xs ++ (b ∷ l)) (sym (append_assoc r (Break ∷ []) ys)) in
    let a : ℕ = length front in
    let long : a ≡ length xs + 1 = length-append xs (b ∷ []) in
    let behind : length (r ++ (Break ∷ [])) ≡ length r + 1 = length-append r (Break ∷ []) in
    let l : ℕ = a + length r - a in
    let byte : get_or bs (length xs) 0 ≡ b =
    ap (λ (l : List ℕ). get_or l (length xs) 0) (append_assoc xs (b ∷ []) (r ++ end)) ∙ get_or-append_seam xs b (r ++ end) 0 in
    let closes : get_or bs (a + length r) 0 ≡ Break =
    ap (λ (l : List ℕ). get_or l (a + length r) 0) (sym (append_assoc front r end))
    ∙ ap (get_or' ((front ++ r) ++ end)) (sym (length-append front r))
    ∙ get_or-append_seam (front ++ r) Break ys 0 in
    let next : a + length r + 1 ≡ length xs + length (b ∷ (r ++ (Break ∷ []))) = omega arith in
    let z : a + 0 ≡ a = omega arith in
    let elements = subst (λ (n : ℕ). ElementsAt bs in_list e 0 k n (a + length r)) z (elements_shift front r end s) in (
      a,
      l,
      subst (λ (bs : List ℕ). LeastAt asked bs f (length xs) (place a l) (length xs + length (b ∷ (r ++ (Break ∷ []))))) same
          (subst (λ (q : ℕ). LeastAt asked bs f (length xs) (place a l) q) next (matching.list Open (byte, long) elements closes, is_open bs asked e (length xs) a lasts)),
      ap (λ (bs : List ℕ). run bs a l) (sym same) ∙ run_there front r end l (omega arith),
    )
  where
    get_or' : List ℕ → ℕ → ℕ
    get_or' l n = get_or l n 0

list_holds : (asked : Bool) (e : Element) (r : List ℕ) → length r < 2 ^ 64
    → Found (Holds asked (field.List e) r) (on_some (count_of e r) (λ k. Some (headed asked e r k)))
list_holds asked e r small =
    some_cases (Found (Holds asked (field.List e) r)) (λ k. Some (headed asked e r k)) (count_of e r) (counted e r) tt
    (λ k (s, h).
    cond_cases (Holds asked (field.List e) r) (openly asked e) (λ t. open_holds asked e r k t s) (λ t. headed_holds asked e r k t (omega arith) s))

pub run_holds : (asked : Bool) (f : Field) (r : List ℕ) → length r < 2 ^ 64 → Found (Holds asked f r) (of_run asked f r)
run_holds asked field.Item r small = item_holds asked r
run_holds asked (field.List e) r small = list_holds asked e r small
run_holds asked (field.Below limit) r small = tt
run_holds asked field.Bool r small = tt
