-- What stands in the whole stands in the run cut out around it, as many places earlier as there are bytes in front.
-- Assumes nothing.
use Prim.Native.Nat.{ℕ, ◌+◌, ◌-◌, ◌≤◌, ◌<◌}
use mathlib.Core.Path.{◌≡◌, refl, sym, ap, subst, ◌∙◌}
use mathlib.Core.List.{List, ◌++◌}
use native.Mathlib.Omega.{arith}
use lib.ListN.{length, get_or, drop, take-append-drop, get_or-append}
use lib.Seq.{drop-drop, drop-append-le, get_or-drop}
use Rattle.ring.specs.Ring.{run}
use Rattle.ring.proofs.Runs.{run_length}
use Rattle.head.specs.Read.{head_at}
use Rattle.head.specs.declared.read.Head.TheVariants.{Definite}
use Rattle.head.proofs.ReadLaws.{definite_within, head_front, head_behind}
use Rattle.item.specs.Grammar.{Frame, Reads}
use Rattle.item.proofs.Local.{shorter}
use Rattle.elements.specs.declared.Element.{Element}
use Rattle.elements.specs.declared.Extent.{Extent}
use Rattle.elements.specs.declared.Extent.TheVariants.{Counted, Open, Rest}
use Rattle.elements.specs.Besides.Matching.{Stands, Opens, Closes, ElementAt, an_item, a_pair, a_version, ElementsAt, no_element, an_element}
use Rattle.elements.specs.Matching.{array, past}
use Rattle.elements.proofs.ElementLaws.{opens_within, past_inside, advance, elements_on}

-- the run from place a up to place e
module _ (bs : List ℕ) (a e : ℕ) (h : a ≤ e) (l : e ≤ length bs) where
  abbrev part : List ℕ
  part = run bs a (e - a)

  long : length part ≡ e - a
  long = run_length bs a (e - a) (omega arith)

  behind : drop a bs ≡ part ++ drop e bs
  behind =
      let end : a + (e - a) ≡ e = omega arith in
      sym (take-append-drop (e - a) (drop a bs)) ∙ ap (λ (r : List ℕ). part ++ r) (drop-drop (e - a) a bs ∙ ap (λ (n : ℕ). drop n bs) end)

  head_cut : {p m v q : ℕ} → a ≤ p → q ≤ e → head_at bs p ≡ Definite m v q → head_at part (p - a) ≡ Definite m v (q - a)
  head_cut {p} {m} {v} {q} from to o =
      let w = definite_within bs p o in
      let p' : a + (p - a) ≡ p = omega arith in
      let q' : q ≡ a + (q - a) = omega (arith, w.0) in
      let there : head_at bs (a + (p - a)) ≡ Definite m v (a + (q - a)) = ap (head_at bs) p' ∙ o ∙ ap (Definite m v) q' in
      head_front part (drop e bs) (p - a)
      (ap (λ (r : List ℕ). head_at r (p - a)) (sym behind) ∙ head_behind bs a (omega arith) (p - a) there) (omega (arith, long))

  drop_cut : (p : ℕ) → a ≤ p → p ≤ e → drop p bs ≡ drop (p - a) part ++ drop e bs
  drop_cut p from to =
      let p' : p ≡ a + (p - a) = omega arith in
      ap (λ (n : ℕ). drop n bs) p' ∙ sym (drop-drop (p - a) a bs) ∙ ap (drop (p - a)) behind
      ∙ drop-append-le (p - a) part (drop e bs) (omega (arith, long))

  cut : {d : ℕ} {f : Frame} {p q : ℕ} → a ≤ p → q ≤ e → Stands bs d f p q → Stands part d f (p - a) (q - a)
  cut {d} {f} {p} {q} from to s =
      let o : p ≤ q = s.forward in
      record {
        forward = omega arith;
        inside = omega (arith, long);
        reads =
            shorter (drop (p - a) part) (drop (q - a) part) (drop e bs)
            (subst (λ (r : List ℕ). Reads d f r (drop (q - a) part ++ drop e bs)) (drop_cut p from (omega arith))
            (subst (Reads d f (drop p bs)) (drop_cut q (omega arith) to) s.reads));
      }

  byte_cut : (p : ℕ) {b : ℕ} → a ≤ p → p < e → get_or bs p 0 ≡ b → get_or part (p - a) 0 ≡ b
  byte_cut p {b} from to f =
      let there : a + (p - a) ≡ p = omega arith in
      sym (get_or-append part (drop e bs) 0 (p - a) (omega (arith, long)))
      ∙ ap (λ (l : List ℕ). get_or l (p - a) 0) (sym behind)
      ∙ get_or-drop a bs (p - a) 0
      ∙ ap (λ (n : ℕ). get_or bs n 0) there
      ∙ f

  opens_cut : (m p : ℕ) (x : Extent) {b : ℕ} → a ≤ p → b ≤ e → Opens bs m p x b → Opens part m (p - a) x (b - a)
  opens_cut m p (Counted k) from to o = head_cut from to o
  opens_cut m p Open from to (f, n) = (byte_cut p from (omega arith) f, omega arith)
  opens_cut m p Rest from to o = absurd o

  closes_cut : (m p b : ℕ) (x : Extent) (k : ℕ) {q : ℕ} → a ≤ q → past x q ≤ e → Opens bs m p x b → Closes bs x k q → Closes part x k (q - a)
  closes_cut m p b (Counted n) k from to o c = c
  closes_cut m p b Open k {q} from to o c = byte_cut q from (omega arith) c
  closes_cut m p b Rest k from to o c = absurd o

  past_cut : (x : Extent) (q : ℕ) → a ≤ q → past x (q - a) ≡ past x q - a
  past_cut (Counted n) q from = refl
  past_cut Open q from = omega arith
  past_cut Rest q from = refl

  element_cut : {d : ℕ} {el : Element} {low p next q : ℕ} → a ≤ p → q ≤ e → ElementAt bs d el low p next q → ElementAt part d el low (p - a) next (q - a)
  element_cut from to (an_item i) = an_item (cut from to i)
  element_cut {d} {el} {low} {p} {next} from to (a_pair {a = first} {b = b} {q = q} x o i u less c) =
      let w = opens_within bs array p x (omega arith) o in
      let w' = definite_within bs b u in
      let end = past_inside bs x 2 w'.1 c in
      let on : q ≤ e = omega (arith, end.0) in
      let behind-p : a ≤ q = omega (arith, w.0, i.forward, w'.0) in
      subst (λ (r : ℕ). ElementAt part d el low (p - a) next r) (past_cut x q behind-p)
      (a_pair x (opens_cut array p x from (omega (arith, i.forward, w'.0)) o) (cut (omega (arith, w.0)) (omega (arith, w'.0)) i)
      (head_cut (omega (arith, w.0, i.forward)) on u)
      less
      (closes_cut array p first x 2 behind-p to o c))
  element_cut from to (a_version {p = p} u low high i) =
      let w = definite_within bs p u in
      a_version (head_cut from (omega (arith, i.forward)) u) low high (cut (omega (arith, w.0)) to i)

  elements_cut : {d : ℕ} {el : Element} {low k p q : ℕ} → a ≤ p → q ≤ e → ElementsAt bs d el low k p q → ElementsAt part d el low k (p - a) (q - a)
  elements_cut from to no_element = no_element
  elements_cut from to (an_element s r) =
      an_element (element_cut from (omega (arith, elements_on bs r)) s) (elements_cut (omega (arith, (advance bs s).0)) to r)

-- the run from where it begins up to where it ends: from its first place up to its last
module _ (bs : List ℕ) (p q : ℕ) (h : p ≤ q) (l : q ≤ length bs) where
  abbrev alone : List ℕ
  alone = run bs p (q - p)

  from_first : (P : ℕ → ℕ → Type 0) → P (p - p) (q - p) → P 0 (length alone)
  from_first P x =
      let z : p - p ≡ 0 = omega arith in
      let n : q - p ≡ length alone = omega (arith, run_length bs p (q - p) (omega arith)) in
      subst (λ (i : ℕ). P i (length alone)) z (subst (P (p - p)) n x)

  pub stands_alone : {d : ℕ} {f : Frame} → Stands bs d f p q → Stands alone d f 0 (length alone)
  stands_alone {d} {f} s = from_first (Stands alone d f) (cut bs p q h l (omega arith) (omega arith) s)

  pub elements_alone : {d : ℕ} {e : Element} {low k : ℕ} → ElementsAt bs d e low k p q → ElementsAt alone d e low k 0 (length alone)
  elements_alone {d} {e} {low} {k} r = from_first (ElementsAt alone d e low k) (elements_cut bs p q h l (omega arith) (omega arith) r)
