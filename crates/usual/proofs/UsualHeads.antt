-- What the usual heads do, at any frame of items: one law for each way out of the code.
-- Assumes nothing.
use Prim.Native.Nat.{ℕ, ◌+◌, ◌*◌, ◌-◌, ◌^◌, ◌≤◌, ◌<◌, ◌/◌, ◌%◌}
use mathlib.Core.List.{List, ◌++◌}
use mathlib.Core.Bool.{Bool, true, false, cond}
use mathlib.Core.Option.{some}
use mathlib.Core.Path.{◌≡◌, refl, sym, ap, ap₂, subst, ◌∙◌}
use lib.Dec.{ltb, eqb}
use lib.ListN.{length, get_or, length-append}
use lib.Seq.{drop-cons}
use native.Mathlib.Omega.{arith}
use borrow.Author.Tests.{lt-ltb, ltb-true, ltb-false, ne_eqb, eqb-true, eqb-false}
use Rattle.base.specs.Numbers.{spelled, number}
use Rattle.ring.specs.Ring.{run}
use Rattle.head.specs.Initial.{initial, major_of}
use Rattle.head.specs.declared.Major.{Major}
use Rattle.head.specs.declared.Major.TheVariants.{Array, Map}
use Rattle.head.specs.declared.Initial.TheVariants.{Short, Long, Indefinite}
use Rattle.item.specs.Grammar.{Frame, Items, Content, Argument, content, indefinite, enter, nesting}
use Rattle.item.specs.Verdict.{Stack, push}
use Rattle.moves.specs.Inside.Levels.{frame_of, tell}
use Rattle.moves.specs.Inside.Frames.{kept, Wants, room_for}
use Rattle.usual.specs.Inside.Usual.{following, small_of}
use Rattle.moves.specs.Inside.Moves.{Goes}
use Rattle.usual.specs.Inside.Usual.{Passes, Enters, Breaks}
use Rattle.moves.proofs.Tell.{tell_one, tell_string}
use Rattle.moves.proofs.Frames.{tell_into, room_some, indefinite_some}
use Rattle.moves.proofs.AnyHead.{here, longer, long_head, number_here}

-- A head of which all is there, at any frame of items within d levels, asks for g from the place p on.
abbrev Heads : List ℕ → ℕ → ℕ → Frame → ℕ → Type 0
Heads xs at d g p =
    (f : Frame) → Wants f → Goes xs at p (push (nesting - d) f) (λ fs. push (nesting - d - 1) g (push (nesting - d) (kept f) fs))

module _ (xs : List ℕ) (at d : ℕ) (l : at < length xs) where
  heads_short : (m : Major) (v : ℕ) → initial (get_or xs at 0) ≡ Short m v → room_for m d ≡ true → Heads xs at d (content m v) (at + 1)
  unfolding enter
  heads_short m v e r f w ys fs h =
      tell_into (xs ++ ys) at h (nesting - d) f fs (longer xs ys at l) w.holds w.unspent (Short m v) (content m v) (here xs ys at l e)
      (w.items (nesting - d) (Short m v) ∙ room_some m d (content m v) r)

  heads_long : (m : Major) (j : ℕ) → initial (get_or xs at 0) ≡ Long m j → room_for m d ≡ true → at + 1 + j < length xs
      → Heads xs at d (content m (number (run xs (at + 1) (j + 1)))) (at + 1 + (j + 1))
  unfolding enter
  heads_long m j e r q f w ys fs h =
      long_head (xs ++ ys) at h (nesting - d) f fs (longer xs ys at l) w.holds w.unspent m j (here xs ys at l e)
      (w.items (nesting - d) (Long m j) ∙ room_some m d (Argument m 0 j) r) (omega (arith, length-append xs ys))
      ∙ ap (λ (v : ℕ). tell (xs ++ ys) (at + 1 + (j + 1)) (h + 1) (push (nesting - d - 1) (content m v) (push (nesting - d) (kept f) fs)))
      (number_here xs ys (at + 1) (j + 1) (omega arith))

  -- an array or a map that goes up to a break
  pub enters_open : (m : Major) (k c : ℕ) → initial (get_or xs at 0) ≡ Indefinite m → room_for m d ≡ true → indefinite m 1 ≡ some (frame_of k c) → k < 4
      → d < nesting → Enters xs at d (at + 1) k c
  unfolding enter
  enters_open m k c e r i q z =
      record {
        on = omega arith;
        inside = omega arith;
        room = z;
        items = q;
        same = λ f w ys fs h.
            let y : nesting - d - 1 ≡ nesting - (d + 1) = omega arith in
            tell_into (xs ++ ys) at h (nesting - d) f fs (longer xs ys at l) w.holds w.unspent (Indefinite m) (frame_of k c) (here xs ys at l e)
            (w.items (nesting - d) (Indefinite m) ∙ indefinite_some m d r (frame_of k c) i)
            ∙ ap (λ (n : ℕ). tell (xs ++ ys) (at + 1) (h + 1) (push n (frame_of k c) (push (nesting - d) (kept f) fs))) y;
      }

  -- bytes are asked for that are there; items are asked for
  passes : (p v : ℕ) (g : Frame) → at < p → p + v ≤ length xs → g ≡ Content v → Heads xs at d g p → Passes xs at d (p + v)
  passes p v g a b e t =
      record {
        on = omega arith;
        inside = b;
        same = λ f w ys fs h.
            t f w ys fs h
            ∙ ap (λ (x : Frame). tell (xs ++ ys) p (h + 1) (push (nesting - d - 1) x (push (nesting - d) (kept f) fs))) e
            ∙ tell_string (xs ++ ys) p (h + 1) v (nesting - d - 1) (push (nesting - d) (kept f) fs) (omega (arith, length-append xs ys));
      }

  enters : (p c : ℕ) (g : Frame) → at < p → p ≤ length xs → d < nesting
      → ((zs : List ℕ) (h : ℕ) (fs : Stack) → tell zs p h (push (nesting - d - 1) g fs) ≡ tell zs p h (push (nesting - d - 1) (Items c) fs))
      → Heads xs at d g p → Enters xs at d p 0 c
  enters p c g a b z e t =
      record {
        on = a;
        inside = b;
        room = z;
        items = omega arith;
        same = λ f w ys fs h.
            let y : nesting - d - 1 ≡ nesting - (d + 1) = omega arith in
            t f w ys fs h ∙ e (xs ++ ys) (h + 1) (push (nesting - d) (kept f) fs)
            ∙ ap (λ (n : ℕ). tell (xs ++ ys) p (h + 1) (push n (Items c) (push (nesting - d) (kept f) fs))) y;
      }

-- What an initial byte below 28 in its additional information says.
short_initial : (b : ℕ) → b % 32 < 24 → initial b ≡ Short (major_of (b / 32)) (b % 32)
unfolding initial
short_initial b h = rw (lt-ltb (b % 32) 24 h)

long_initial : (b : ℕ) → 24 ≤ b % 32 → b % 32 < 28 → (b / 32 ≡ 7 → b % 32 ≡ 24 → ⊥) → initial b ≡ Long (major_of (b / 32)) (following (b % 32) - 1)
unfolding initial
long_initial b h l n = of_24 (eqb (b % 32) 24) refl
  where
    of_26 : (t : Bool) → eqb (b % 32) 26 ≡ t → 25 < b % 32 → initial b ≡ Long (major_of (b / 32)) (following (b % 32) - 1)
    of_26 true q m = let z : b % 32 ≡ 26 = eqb-true _ _ q in rw z
    of_26 false q m = let y : b % 32 ≡ 26 → ⊥ = eqb-false _ _ q in let z : b % 32 ≡ 27 = omega arith in rw z

    of_25 : (t : Bool) → eqb (b % 32) 25 ≡ t → 24 < b % 32 → initial b ≡ Long (major_of (b / 32)) (following (b % 32) - 1)
    of_25 true q m = let z : b % 32 ≡ 25 = eqb-true _ _ q in rw z
    of_25 false q m = let y : b % 32 ≡ 25 → ⊥ = eqb-false _ _ q in of_26 (eqb (b % 32) 26) refl (omega arith)

    of_24 : (t : Bool) → eqb (b % 32) 24 ≡ t → initial b ≡ Long (major_of (b / 32)) (following (b % 32) - 1)
    of_24 true q = let z : b % 32 ≡ 24 = eqb-true _ _ q in rw (z, ne_eqb (b / 32) 7 (λ x. n x z))
    of_24 false q = let y : b % 32 ≡ 24 → ⊥ = eqb-false _ _ q in of_25 (eqb (b % 32) 25) refl (omega arith)

-- how many bytes follow
pub width_24 : (i : ℕ) → i ≡ 24 → 1 ≡ following i
width_24 i e = rw e

pub width_25 : (i : ℕ) → i ≡ 25 → 2 ≡ following i
width_25 i e = rw e

pub width_26 : (i : ℕ) → i ≡ 26 → 4 ≡ following i
width_26 i e = rw e

pub width_27 : (i : ℕ) → i ≡ 27 → 8 ≡ following i
width_27 i e = rw e

pub width_other : (i : ℕ) → (i ≡ 24 → ⊥) → (i ≡ 25 → ⊥) → (i ≡ 26 → ⊥) → (i ≡ 27 → ⊥) → 0 ≡ following i
width_other i a b c d = rw (ne_eqb i 24 a, ne_eqb i 25 b, ne_eqb i 26 c, ne_eqb i 27 d)

pub width_short : (i : ℕ) → i < 24 → 0 ≡ following i
width_short i h = width_other i (λ e. omega arith) (λ e. omega arith) (λ e. omega arith) (λ e. omega arith)

pub width_most : (i : ℕ) → following i ≤ 8
width_most i = of (eqb i 24) (eqb i 25) (eqb i 26) (eqb i 27)
  where
    of : (a b c d : Bool) → cond a 1 (cond b 2 (cond c 4 (cond d 8 0))) ≤ 8
    of true b c d = omega arith
    of false true c d = omega arith
    of false false true d = omega arith
    of false false false true = omega arith
    of false false false false = omega arith

width_some : (i : ℕ) → 24 ≤ i → i < 28 → 0 < following i
width_some i h l = of (eqb i 24) (eqb i 25) (eqb i 26) (eqb i 27) refl refl refl refl
  where
    of : (a b c d : Bool) → eqb i 24 ≡ a → eqb i 25 ≡ b → eqb i 26 ≡ c → eqb i 27 ≡ d → 0 < cond a 1 (cond b 2 (cond c 4 (cond d 8 0)))
    of true b c d p q r s = omega arith
    of false true c d p q r s = omega arith
    of false false true d p q r s = omega arith
    of false false false true p q r s = omega arith
    of false false false false p q r s =
        let w : i ≡ 24 → ⊥ = eqb-false _ _ p in
        let x : i ≡ 25 → ⊥ = eqb-false _ _ q in
        let y : i ≡ 26 → ⊥ = eqb-false _ _ r in
        let z : i ≡ 27 → ⊥ = eqb-false _ _ s in
        absurd (omega arith)

number_one : (xs : List ℕ) (p : ℕ) → p < length xs → number (run xs p 1) ≡ get_or xs p 0
unfolding spelled
number_one xs p h = rw (drop-cons xs p 0 h) (omega arith)

-- A head at a place with eight bytes after it.
module _ (xs : List ℕ) (at d b : ℕ) (l : at + 8 < length xs) (e : b ≡ get_or xs at 0) where
  at_here : at < length xs
  at_here = omega arith

  -- whatever its argument is
  any_head : b % 32 < 28 → (b / 32 ≡ 7 → b % 32 ≡ 24 → ⊥) → room_for (major_of (b / 32)) d ≡ true
      → (v : ℕ) × Heads xs at d (content (major_of (b / 32)) v) (at + 1 + following (b % 32))
  any_head h n r = of (ltb (b % 32) 24) refl
    where
      of : (t : Bool) → ltb (b % 32) 24 ≡ t → (v : ℕ) × Heads xs at d (content (major_of (b / 32)) v) (at + 1 + following (b % 32))
      of true q =
          let w : 0 ≡ following (b % 32) = width_short (b % 32) (ltb-true _ _ q) in
          let z : at + 1 ≡ at + 1 + following (b % 32) = omega arith in (
            b % 32,
            subst (λ (p : ℕ). Heads xs at d (content (major_of (b / 32)) (b % 32)) p) z
                (heads_short xs at d at_here (major_of (b / 32)) (b % 32) (ap initial (sym e) ∙ short_initial b (ltb-true _ _ q)) r),
          )
      of false q =
          let w = width_most (b % 32) in
          let u = width_some (b % 32) (ltb-false _ _ q) h in
          let z : at + 1 + (following (b % 32) - 1 + 1) ≡ at + 1 + following (b % 32) = omega arith in (
            number (run xs (at + 1) (following (b % 32) - 1 + 1)),
            subst (λ (p : ℕ). Heads xs at d (content (major_of (b / 32)) (number (run xs (at + 1) (following (b % 32) - 1 + 1)))) p) z
                (heads_long xs at d at_here (major_of (b / 32)) (following (b % 32) - 1) (ap initial (sym e) ∙ long_initial b (ltb-false _ _ q) h n) r (omega arith)),
          )

  -- an integer, a simple value or a float
  pass_plain : (p m : ℕ) → p ≡ at + 1 + following (b % 32) → b % 32 < 28 → (b / 32 ≡ 7 → b % 32 ≡ 24 → ⊥) → b / 32 ≡ m
      → room_for (major_of m) d ≡ true → ((v : ℕ) → content (major_of m) v ≡ Content 0) → Passes xs at d p
  pass_plain p m z h n q r c =
      let w = width_most (b % 32) in
      let y : at + 1 + following (b % 32) + 0 ≡ p = omega arith in
      let t = any_head h n (ap (λ (j : ℕ). room_for (major_of j) d) q ∙ r) in
      subst (Passes xs at d) y
      (passes xs at d at_here (at + 1 + following (b % 32)) 0 (content (major_of (b / 32)) t.0) (omega arith) (omega arith)
      (ap (λ (j : ℕ). content (major_of j) t.0) q ∙ c t.0) t.1)

  pub pass_number : (p : ℕ) → p ≡ at + 1 + following (b % 32) → b % 32 < 28 → b < 64 → Passes xs at d p
  pass_number p z h k = of (ltb b 32) refl
    where
      of : (t : Bool) → ltb b 32 ≡ t → Passes xs at d p
      of true q = let y : b < 32 = ltb-true _ _ q in pass_plain p 0 z h (λ u v. omega arith) (omega arith) refl (λ v. refl)
      of false q = let y : 32 ≤ b = ltb-false _ _ q in pass_plain p 1 z h (λ u v. omega arith) (omega arith) refl (λ v. refl)

  pub pass_simple : (p : ℕ) → p ≡ at + 1 + following (b % 32) → b % 32 < 28 → 224 ≤ b → b < 256 → (b % 32 ≡ 24 → ⊥) → Passes xs at d p
  pass_simple p z h k k' n = pass_plain p 7 z h (λ u v. n v) (omega arith) refl (λ v. refl)

  -- a string of less than 256 bytes
  small_head : (m v : ℕ) → b % 32 ≤ 24 → b / 32 ≡ m → m < 7 → room_for (major_of m) d ≡ true → v ≡ small_of (b % 32) (get_or xs (at + 1) 0)
      → Heads xs at d (content (major_of m) v) (at + 1 + following (b % 32))
  small_head m v h q k r z = of (ltb (b % 32) 24) refl
    where
      of : (t : Bool) → ltb (b % 32) 24 ≡ t → Heads xs at d (content (major_of m) v) (at + 1 + following (b % 32))
      of true p =
          let w : 0 ≡ following (b % 32) = width_short (b % 32) (ltb-true _ _ p) in
          let y : at + 1 ≡ at + 1 + following (b % 32) = omega arith in
          let x : b % 32 ≡ v = sym (z ∙ ap (λ (t : Bool). cond t (b % 32) (get_or xs (at + 1) 0)) p) in
          subst (λ (p : ℕ). Heads xs at d (content (major_of m) v) p) y
          (heads_short xs at d at_here (major_of m) v
          (ap initial (sym e) ∙ short_initial b (ltb-true _ _ p) ∙ ap₂ (λ (j n : ℕ). Short (major_of j) n) q x) r)
      of false p =
          let i : 24 ≤ b % 32 = ltb-false _ _ p in
          let i' : b % 32 ≡ 24 = omega arith in
          let x : number (run xs (at + 1) 1) ≡ v = number_one xs (at + 1) (omega arith) ∙ sym (z ∙ ap (λ (t : Bool). cond t (b % 32) (get_or xs (at + 1) 0)) p) in
          let y : at + 1 + (0 + 1) ≡ at + 1 + following (b % 32) = rw i' in
          subst (λ (p : ℕ). Heads xs at d (content (major_of m) v) p) y
          (subst (λ (n : ℕ). Heads xs at d (content (major_of m) n) (at + 1 + (0 + 1))) x
          (heads_long xs at d at_here (major_of m) 0
          (ap initial (sym e) ∙ long_initial b i (omega arith) (λ u t. omega arith) ∙ rw (i', q)) r (omega arith)))

  pub pass_string : (p v : ℕ) → p ≡ at + 1 + following (b % 32) → b % 32 ≤ 24 → 64 ≤ b → b < 128 → v ≡ small_of (b % 32) (get_or xs (at + 1) 0)
      → v ≤ length xs - p → Passes xs at d (p + v)
  pass_string p v z h k k' q t = of (ltb b 96) refl
    where
      go : (m : ℕ) → b / 32 ≡ m → m < 7 → room_for (major_of m) d ≡ true → content (major_of m) v ≡ Content v → Passes xs at d (p + v)
      go m r j f c =
          let w = width_most (b % 32) in
          passes xs at d at_here p v (content (major_of m) v) (omega arith) (omega arith) c
          (subst (λ (n : ℕ). Heads xs at d (content (major_of m) v) n) (sym z) (small_head m v h r j f q))

      of : (t : Bool) → ltb b 96 ≡ t → Passes xs at d (p + v)
      of true x = let y : b < 96 = ltb-true _ _ x in go 2 (omega arith) (omega arith) refl refl
      of false x = let y : 96 ≤ b = ltb-false _ _ x in go 3 (omega arith) (omega arith) refl refl

  -- an array or a map of less than 24, and a tag
  first_short : (m : ℕ) → b % 32 < 24 → b / 32 ≡ m → initial (get_or xs at 0) ≡ Short (major_of m) (b % 32)
  first_short m h q = ap initial (sym e) ∙ short_initial b h ∙ ap (λ (j : ℕ). Short (major_of j) (b % 32)) q

  pub enter_array : b % 32 < 24 → d < nesting → 128 ≤ b → b < 160 → Enters xs at d (at + 1) 0 (b % 32)
  enter_array h z k k' =
      enters xs at d at_here (at + 1) (b % 32) (Items (b % 32)) (omega arith) (omega arith) z (λ zs h fs. refl)
      (heads_short xs at d at_here Array (b % 32) (first_short 4 h (omega arith)) (lt-ltb d nesting z))

  pub enter_map : b % 32 < 24 → d < nesting → 160 ≤ b → b < 192 → Enters xs at d (at + 1) 0 (b % 32 * 2)
  enter_map h z k k' =
      enters xs at d at_here (at + 1) (b % 32 * 2) (Items (b % 32 * 2)) (omega arith) (omega arith) z (λ zs h fs. refl)
      (heads_short xs at d at_here Map (b % 32) (first_short 5 h (omega arith)) (lt-ltb d nesting z))

  pub enter_tag : (p : ℕ) → p ≡ at + 1 + following (b % 32) → b % 32 < 28 → d < nesting → 192 ≤ b → b < 224 → Enters xs at d p 0 1
  enter_tag p z h y k k' =
      let w = width_most (b % 32) in
      let q : b / 32 ≡ 6 = omega arith in
      let t = any_head h (λ u v. omega arith) (ap (λ (j : ℕ). room_for (major_of j) d) q ∙ lt-ltb d nesting y) in
      enters xs at d at_here p 1 (content (major_of (b / 32)) t.0) (omega arith) (omega arith) y
      (λ zs h fs. ap (λ (j : ℕ). tell zs p h (push (nesting - d - 1) (content (major_of j) t.0) fs)) q ∙ tell_one zs p h (nesting - d - 1) fs)
      (subst (λ (n : ℕ). Heads xs at d (content (major_of (b / 32)) t.0) n) (sym z) t.1)

  -- an array or a map that goes up to a break; a break
  pub open_array : b ≡ 159 → d < nesting → Enters xs at d (at + 1) 2 (2 ^ 63)
  unfolding initial indefinite
  open_array q z = enters_open xs at d at_here Array 2 (2 ^ 63) (ap initial (sym e ∙ q)) (lt-ltb d nesting z) refl (omega arith) z

  pub open_map : b ≡ 191 → d < nesting → Enters xs at d (at + 1) 3 (2 ^ 63)
  unfolding initial indefinite
  open_map q z = enters_open xs at d at_here Map 3 (2 ^ 63) (ap initial (sym e ∙ q)) (lt-ltb d nesting z) refl (omega arith) z

  pub is_break : b ≡ 255 → Breaks xs at (at + 1)
  unfolding initial
  is_break q = record { next = refl; inside = omega arith; is = ap initial (sym e ∙ q) }
