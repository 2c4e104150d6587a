-- A point or a tip written with heads of any width, in arrays of either form, stands where it was written; so it reads back.
-- Assumes nothing.
use Prim.Native.Nat.{ℕ, suc, ◌+◌, ◌≤◌}
use mathlib.Core.Path.{◌≡◌, refl, sym, ap, subst, ◌∙◌}
use mathlib.Core.List.{List, [], ◌∷◌, ◌++◌, append_assoc, append-nil}
use native.Mathlib.Omega.{arith}
use native.Mathlib.Nat.{add-zero, zero-add}
use lib.ListN.{length, drop, length-append}
use lib.Seq.{drop-append_seam}
use Rattle.ring.specs.Ring.{run}
use Rattle.ring.proofs.Runs.{run_front, run_drop}
use Rattle.head.specs.Initial.{initial}
use Rattle.head.specs.Read.{head_at, head_by}
use Rattle.head.specs.declared.read.Head.{Head}
use Rattle.head.specs.declared.read.Head.TheVariants.{Definite, Indefinite, Break, Short}
use Rattle.head.proofs.ReadLaws.{moved, head_moved, head_longer}
use Rattle.points.specs.declared.Hash.{Hash}
use Rattle.points.specs.declared.Place.{Place}
use Rattle.points.specs.declared.Place.TheVariants.{Block}
use Rattle.points.specs.Points.{unsigned, bytes, array, hash_at, point}
use Rattle.points.specs.Besides.Standing as at
use Rattle.points.specs.Besides.Standing.{ArrayAt, PointAt, TipAt}
use Rattle.points.specs.Besides.ReadsBack.{HeadOf, ArrayOf, definite, indefinite, PointOf, origin, block, TipOf, tip, PointBack, TipBack}
use Rattle.points.proofs.StandingLaws.{readings}

-- ---- a head where it was written

-- w is the bytes of a head, h, behind those of b, with others behind it
module _ (w b h rest : List ℕ) (is : w ≡ b ++ (h ++ rest)) where
  placed : (x : Head) → head_at h 0 ≡ x → (x ≡ Short → ⊥) → head_at w (length b) ≡ moved (length b) x
  placed x e whole =
      let n = length b in
      let long : length w ≡ n + length (h ++ rest) = ap length is ∙ length-append b (h ++ rest) in
      ap (head_at w) (sym (add-zero n)) ∙ head_moved w n (omega arith) 0
      ∙ ap (λ (l : List ℕ). moved n (head_at l 0)) (ap (drop n) is ∙ drop-append_seam b (h ++ rest))
      ∙ ap (moved n) (head_longer h rest 0 (λ s. whole (sym e ∙ s)) ∙ e)

  head_in : (m v : ℕ) → HeadOf m v h → head_at w (length b) ≡ Definite m v (length b + length h)
  unfolding moved
  head_in m v e = placed (Definite m v (length h)) e (λ s. let z : ◌≡◌ {A = ℕ} 0 1 = cc in absurd (omega arith))

opens : head_at (0x9f ∷ []) 0 ≡ Indefinite array 1
unfolding head_at head_by initial
opens = refl

ends : head_at (0xff ∷ []) 0 ≡ Break 1
unfolding head_at head_by initial
ends = refl

-- ---- an array

-- bytes bs behind those of b are an array of k elements, xs: these lie behind those of `front`
record Framed (k : ℕ) (xs b bs after : List ℕ) : Type 0 where
  front : List ℕ
  back : List ℕ
  is : b ++ (bs ++ after) ≡ front ++ (xs ++ back)
  stands : ArrayAt (b ++ (bs ++ after)) k (length b) (length front) (length front + length xs) (length b + length bs)

framed : {k : ℕ} {xs bs : List ℕ} → ArrayOf k xs bs → (b after : List ℕ) → Framed k xs b bs after
unfolding moved
framed {k} {xs} (definite h e) b after =
    let w = b ++ ((h ++ xs) ++ after) in
    let far : w ≡ b ++ (h ++ (xs ++ after)) = ap (λ (l : List ℕ). b ++ l) (append_assoc h xs after) in
    let n : length (b ++ h) ≡ length b + length h = length-append b h in
    let m : length (h ++ xs) ≡ length h + length xs = length-append h xs in
    let same : length (b ++ h) + length xs ≡ length b + length (h ++ xs) = omega arith in
    let head : head_at w (length b) ≡ Definite array k (length (b ++ h)) = head_in w b h (xs ++ after) far array k e ∙ ap (Definite array k) (sym n) in
    record {
      front = b ++ h;
      back = after;
      is = far ∙ sym (append_assoc b h (xs ++ after));
      stands = subst (λ (q : ℕ). ArrayAt w k (length b) (length (b ++ h)) (length (b ++ h) + length xs) q) same (at.definite head);
    }
framed {k} {xs} indefinite b after =
    let start : List ℕ = 0x9f ∷ [] in
    let shut : List ℕ = 0xff ∷ [] in
    let w = b ++ ((0x9f ∷ (xs ++ shut)) ++ after) in
    let behind : (xs ++ shut) ++ after ≡ xs ++ (0xff ∷ after) = append_assoc xs shut after in
    let far : w ≡ b ++ (start ++ (xs ++ (0xff ∷ after))) = ap (λ (l : List ℕ). b ++ (0x9f ∷ l)) behind in
    let n : length (b ++ start) ≡ length b + 1 = length-append b start in
    let m : length (xs ++ shut) ≡ length xs + 1 = length-append xs shut in
    let mid : w ≡ (b ++ start) ++ (xs ++ (0xff ∷ after)) = far ∙ sym (append_assoc b start (xs ++ (0xff ∷ after))) in
    let last : w ≡ ((b ++ start) ++ xs) ++ (shut ++ after) = mid ∙ sym (append_assoc (b ++ start) xs (0xff ∷ after)) in
    let end : length ((b ++ start) ++ xs) ≡ length (b ++ start) + length xs = length-append (b ++ start) xs in
    let first : head_at w (length b) ≡ Indefinite array (length (b ++ start)) =
    placed w b start (xs ++ (0xff ∷ after)) far (Indefinite array 1) opens (λ s. let z : ◌≡◌ {A = ℕ} 0 1 = cc in absurd (omega arith)) ∙ ap (Indefinite array) (sym n) in
    let break : head_at w (length ((b ++ start) ++ xs)) ≡ Break (length ((b ++ start) ++ xs) + 1) =
    placed w ((b ++ start) ++ xs) shut after last (Break 1) ends (λ s. let z : ◌≡◌ {A = ℕ} 0 1 = cc in absurd (omega arith)) in
    let same : length ((b ++ start) ++ xs) + 1 ≡ length b + suc (length (xs ++ shut)) = omega arith in
    record {
      front = b ++ start;
      back = 0xff ∷ after;
      is = mid;
      stands =
          at.indefinite first (ap (head_at w) (sym end) ∙ break ∙ ap Break same);
    }

-- ---- a hash

-- eight bytes of 32 behind those of b
eight : (w b hash rest : List ℕ) → w ≡ b ++ (hash ++ rest) → (i : ℕ) → i + 8 ≤ length hash → run w (length b + i) 8 ≡ run hash i 8
eight w b hash rest is i h =
    sym (run_drop w (length b) i 8) ∙ ap (λ (l : List ℕ). run l i 8) (ap (drop (length b)) is ∙ drop-append_seam b (hash ++ rest)) ∙ run_front hash rest i 8 h

hash_in_lem : (w b hash rest : List ℕ) → w ≡ b ++ (hash ++ rest) → length hash ≡ 32 → hash_at w (length b) ≡ hash_at hash 0
hash_in_lem w b hash rest is l =
    let zero_at : length b ≡ length b + 0 = sym (add-zero (length b)) in
    let e0 = eight w b hash rest is 0 (omega arith) in
    let e1 = eight w b hash rest is 8 (omega arith) in
    let e2 = eight w b hash rest is 16 (omega arith) in
    let e3 = eight w b hash rest is 24 (omega arith) in
    let f0 : run w (length b) 8 ≡ run hash 0 8 = ap (λ (n : ℕ). run w n 8) zero_at ∙ e0 in
    rw (f0, e1, e2, e3)

-- ---- points and tips

point_at : {place : Place} {bs : List ℕ} → PointOf place bs → (b after : List ℕ) → PointAt (b ++ (bs ++ after)) (length b) place (length b + length bs)
point_at {bs = bs} (origin s) b after =
    let f = framed s b after in
    at.origin (subst (λ (e : ℕ). ArrayAt (b ++ (bs ++ after)) 0 (length b) (length f.front) e (length b + length bs)) (add-zero (length f.front)) f.stands)
point_at {bs = bs} (block slot g h hash eg eh size s) b after =
    let f = framed s b after in
    let w = b ++ (bs ++ after) in
    let at1 : w ≡ f.front ++ (g ++ ((h ++ hash) ++ f.back)) = f.is ∙ ap (λ (l : List ℕ). f.front ++ l) (append_assoc g (h ++ hash) f.back) in
    let far : w ≡ (f.front ++ g) ++ ((h ++ hash) ++ f.back) = at1 ∙ sym (append_assoc f.front g ((h ++ hash) ++ f.back)) in
    let at2 : w ≡ (f.front ++ g) ++ (h ++ (hash ++ f.back)) = far ∙ ap (λ (l : List ℕ). (f.front ++ g) ++ l) (append_assoc h hash f.back) in
    let at3 : w ≡ ((f.front ++ g) ++ h) ++ (hash ++ f.back) = at2 ∙ sym (append_assoc (f.front ++ g) h (hash ++ f.back)) in
    let n1 : length (f.front ++ g) ≡ length f.front + length g = length-append f.front g in
    let n2 : length ((f.front ++ g) ++ h) ≡ length (f.front ++ g) + length h = length-append (f.front ++ g) h in
    let n3 : length w ≡ length ((f.front ++ g) ++ h) + length (hash ++ f.back) = ap length at3 ∙ length-append ((f.front ++ g) ++ h) (hash ++ f.back) in
    let n4 : length (hash ++ f.back) ≡ length hash + length f.back = length-append hash f.back in
    let n5 : length (g ++ (h ++ hash)) ≡ length g + length (h ++ hash) = length-append g (h ++ hash) in
    let n6 : length (h ++ hash) ≡ length h + length hash = length-append h hash in
    let c = length ((f.front ++ g) ++ h) in
    let ends_at : length f.front + length (g ++ (h ++ hash)) ≡ c + 32 = omega arith in
    let arr = subst (λ (e : ℕ). ArrayAt w 2 (length b) (length f.front) e (length b + length bs)) ends_at f.stands in
    let first : head_at w (length f.front) ≡ Definite unsigned slot (length (f.front ++ g)) =
    head_in w f.front g ((h ++ hash) ++ f.back) at1 unsigned slot eg ∙ ap (Definite unsigned slot) (sym n1) in
    let second : head_at w (length (f.front ++ g)) ≡ Definite bytes 32 c =
    head_in w (f.front ++ g) h (hash ++ f.back) at2 bytes 32 eh ∙ ap (Definite bytes 32) (sym n2) in
    subst (λ (x : Hash). PointAt w (length b) (Block (point slot x)) (length b + length bs)) (hash_in_lem w ((f.front ++ g) ++ h) hash f.back at3 size)
    (at.block arr first second (omega arith))

tip_at_lem : {place : Place} {n : ℕ} {bs : List ℕ} → TipOf place n bs → (b after : List ℕ) → TipAt (b ++ (bs ++ after)) (length b) place n (length b + length bs)
tip_at_lem {place} {n} {bs} (tip p h s e a) b after =
    let f = framed a b after in
    let w = b ++ (bs ++ after) in
    let at1 : w ≡ f.front ++ (p ++ (h ++ f.back)) = f.is ∙ ap (λ (l : List ℕ). f.front ++ l) (append_assoc p h f.back) in
    let at2 : w ≡ (f.front ++ p) ++ (h ++ f.back) = at1 ∙ sym (append_assoc f.front p (h ++ f.back)) in
    let n1 : length (f.front ++ p) ≡ length f.front + length p = length-append f.front p in
    let n2 : length (p ++ h) ≡ length p + length h = length-append p h in
    let inner : PointAt w (length f.front) place (length (f.front ++ p)) =
    subst (λ (l : List ℕ). PointAt l (length f.front) place (length (f.front ++ p))) (sym at1)
    (subst (λ (q : ℕ). PointAt (f.front ++ (p ++ (h ++ f.back))) (length f.front) place q) (sym n1) (point_at s f.front (h ++ f.back))) in
    let ends_at : length f.front + length (p ++ h) ≡ length (f.front ++ p) + length h = omega arith in
    at.tip (subst (λ (c : ℕ). ArrayAt w 2 (length b) (length f.front) c (length b + length bs)) ends_at f.stands) inner
    (head_in w (f.front ++ p) h f.back at2 unsigned n e)

pub point_back : PointBack
point_back place bs s =
    ((readings bs).point_reads place).1 (subst (λ (q : ℕ). PointAt bs 0 place q) (zero-add (length bs)) (subst (λ (l : List ℕ). PointAt l 0 place (0 + length bs)) (append-nil bs) (point_at s [] [])))

pub tip_back : TipBack
tip_back place n bs s =
    ((readings bs).tip_reads place n).1 (subst (λ (q : ℕ). TipAt bs 0 place n q) (zero-add (length bs)) (subst (λ (l : List ℕ). TipAt l 0 place n (0 + length bs)) (append-nil bs) (tip_at_lem s [] [])))
