-- What stands in a part stands in the whole, as many places further on as there are bytes in front.
-- Assumes nothing.
use Prim.Native.Nat.{ℕ, ◌+◌, ◌≤◌, ◌<◌}
use mathlib.Core.Path.{◌≡◌, refl, sym, ap, subst, ◌∙◌}
use mathlib.Core.List.{List, ◌++◌}
use native.Mathlib.Omega.{arith}
use lib.ListN.{length, get_or, drop, length-append, get_or-append}
use lib.Seq.{drop-append-add, drop-append-le, drop-append_seam, get_or-drop}
use Rattle.head.specs.Read.{head_at}
use Rattle.head.specs.declared.read.Head.TheVariants.{Definite}
use Rattle.head.proofs.ReadLaws.{moved, cut_short, head_longer, head_moved}
use Rattle.item.specs.Grammar.{Frame, Reads}
use Rattle.item.proofs.Local.{longer}
use Rattle.elements.specs.declared.Element.{Element}
use Rattle.elements.proofs.ElementLaws.{byte_there}
use Rattle.elements.specs.declared.Extent.{Extent}
use Rattle.elements.specs.declared.Extent.TheVariants.{Counted, Open, Rest}
use Rattle.elements.specs.Besides.Matching.{Stands, Opens, Closes, ElementAt, an_item, a_pair, a_version, ElementsAt, no_element, an_element}
use Rattle.elements.specs.Matching.{array, past}

module _ (xs bs ys : List ℕ) where
  abbrev whole : List ℕ
  whole = xs ++ (bs ++ ys)

  pub head_shift : (p : ℕ) {m v q : ℕ} → head_at bs p ≡ Definite m v q → head_at whole (length xs + p) ≡ Definite m v (length xs + q)
  unfolding moved
  head_shift p {m} {v} {q} e =
      head_moved whole (length xs) (omega (arith, length-append xs (bs ++ ys))) p
      ∙ ap (λ (l : List ℕ). moved (length xs) (head_at l p)) (drop-append_seam xs (bs ++ ys))
      ∙ ap (moved (length xs)) (head_longer bs ys p (λ s. cut_short (sym s ∙ e)) ∙ e)

  drop_shift : (p : ℕ) → p ≤ length bs → drop (length xs + p) whole ≡ drop p bs ++ ys
  drop_shift p h = drop-append-add xs (bs ++ ys) p ∙ drop-append-le p bs ys h

  pub shift : {d : ℕ} {f : Frame} {p q : ℕ} → Stands bs d f p q → Stands whole d f (length xs + p) (length xs + q)
  shift {d} {f} {p} {q} s =
      let l : p ≤ length bs = omega (arith, s.forward, s.inside) in
      record {
        forward = omega (arith, s.forward);
        inside = omega (arith, s.inside, length-append xs (bs ++ ys), length-append bs ys);
        reads =
            subst (λ (l : List ℕ). Reads d f l (drop (length xs + q) whole)) (sym (drop_shift p l))
            (subst (λ (l : List ℕ). Reads d f (drop p bs ++ ys) l) (sym (drop_shift q s.inside)) (longer ys s.reads));
      }

  byte_shift : (p : ℕ) {b : ℕ} → get_or bs p 0 ≡ b → 0 < b → get_or whole (length xs + p) 0 ≡ b
  byte_shift p {b} e h =
      sym (get_or-drop (length xs) whole p 0)
      ∙ ap (λ (l : List ℕ). get_or l p 0) (drop-append_seam xs (bs ++ ys))
      ∙ get_or-append bs ys 0 p (byte_there bs p b e h)
      ∙ e

  opens_shift : (m p a : ℕ) (x : Extent) → 0 < m → Opens bs m p x a → Opens whole m (length xs + p) x (length xs + a)
  opens_shift m p a (Counted k) h o = head_shift p o
  opens_shift m p a Open h (b, n) = (byte_shift p b (omega arith), omega arith)
  opens_shift m p a Rest h o = absurd o

  closes_shift : (m p a : ℕ) (x : Extent) (k q : ℕ) → Opens bs m p x a → Closes bs x k q → Closes whole x k (length xs + q)
  closes_shift m p a (Counted n) k q o c = c
  closes_shift m p a Open k q o c = byte_shift q c (omega arith)
  closes_shift m p a Rest k q o c = absurd o

  past_shift : (x : Extent) (q : ℕ) → past x (length xs + q) ≡ length xs + past x q
  past_shift (Counted n) q = refl
  past_shift Open q = omega arith
  past_shift Rest q = refl

  element_shift : {d : ℕ} {e : Element} {low p next q : ℕ} → ElementAt bs d e low p next q → ElementAt whole d e low (length xs + p) next (length xs + q)
  element_shift (an_item i) = an_item (shift i)
  element_shift {d} {e} {low} {p} {next} (a_pair {a = a} {b = b} {q = q} x o i u l c) =
      subst (λ (r : ℕ). ElementAt whole d e low (length xs + p) next r) (past_shift x q)
      (a_pair x (opens_shift array p a x (omega arith) o) (shift i) (head_shift b u) l (closes_shift array p a x 2 q o c))
  element_shift (a_version {p = p} u l h i) = a_version (head_shift p u) l h (shift i)

  pub elements_shift : {d : ℕ} {e : Element} {low k p q : ℕ} → ElementsAt bs d e low k p q → ElementsAt whole d e low k (length xs + p) (length xs + q)
  elements_shift no_element = no_element
  elements_shift (an_element s r) = an_element (element_shift s) (elements_shift r)
