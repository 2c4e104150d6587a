-- Laws of a head read at a place: what it is by each test, and how far it reaches.
-- Assumes nothing.
use mathlib.Core.Path.{◌≡◌, refl, sym, ap, subst, ◌∙◌}
use mathlib.Core.List.{List, ◌++◌}
use Prim.Native.Nat.{ℕ, ◌+◌, ◌/◌, ◌%◌, ◌^◌, ◌<◌, ◌≤◌}
use native.Mathlib.Omega.{arith}
use native.Mathlib.Decide.{dec_lt}
use lib.Pow.{pow_mono}
use lib.Dec.{lit≤, ltb, leb, eqb}
use lib.ListN.{length, get_or, drop, length-append, length-drop, get_or-append}
use lib.Seq.{get_or-drop}
use borrow.Author.Tests.{lt-ltb, le-ltb, le-leb, lt-leb, ltb-true, leb-true, eqb-true}
use Rattle.base.specs.Numbers.{number}
use Rattle.base.proofs.Conds.{cond_cases}
use Rattle.ring.specs.Ring.{run}
use Rattle.ring.specs.Inside.{around}
use Rattle.ring.proofs.Runs.{run_front, run_drop}
use Rattle.ring.proofs.Around.{around_length}
use Rattle.head.specs.Initial.{major_of, initial}
use Rattle.head.specs.Read.{long_at, simple_at, head_by, head_at}
use Rattle.head.specs.declared.Major.{Major}
use Rattle.head.specs.declared.Initial.{Initial}
use Rattle.head.specs.declared.Initial.TheVariants as says
use Rattle.head.specs.declared.read.Head.{Head}
use Rattle.head.specs.declared.read.Head.TheVariants.{Definite, Indefinite, Break, Short, Bad}

-- ---- by each test

module _ (bs : List ℕ) where
  pub long_here : (m k at : ℕ) → at + k ≤ length bs → long_at bs m k at ≡ Definite m (number (run bs at k)) (at + k)
  unfolding long_at
  long_here m k at h = rw (le-leb (at + k) (length bs) h)

  pub long_short : (m k at : ℕ) → length bs < at + k → long_at bs m k at ≡ Short
  unfolding long_at
  long_short m k at h = rw (lt-leb (at + k) (length bs) h)

  pub simple_here : (at : ℕ) → at < length bs → 32 ≤ get_or bs at 0 → simple_at bs at ≡ Definite 7 (get_or bs at 0) (at + 1)
  unfolding simple_at
  simple_here at h l = rw (lt-ltb at (length bs) h, le-ltb (get_or bs at 0) 32 l)

  pub simple_bad : (at : ℕ) → at < length bs → get_or bs at 0 < 32 → simple_at bs at ≡ Bad
  unfolding simple_at
  simple_bad at h l = rw (lt-ltb at (length bs) h, lt-ltb (get_or bs at 0) 32 l)

  pub simple_short : (at : ℕ) → length bs ≤ at → simple_at bs at ≡ Short
  unfolding simple_at
  simple_short at h = rw (le-ltb at (length bs) h)

  -- the head is what the byte at the place says
  pub head_by_lem : {at b : ℕ} {r i : Initial} → at < length bs → b ≡ get_or bs at 0 → r ≡ initial b → r ≡ i
      → head_at bs at ≡ head_by i bs (b / 32) (at + 1)
  unfolding head_at
  head_by_lem {at} {b} {r} {i} h e f g = rw (lt-ltb at (length bs) h, ← e, ← f, g)

  pub head_none : (at : ℕ) → length bs ≤ at → head_at bs at ≡ Short
  unfolding head_at
  head_none at h = rw (le-ltb at (length bs) h)

-- the same of the n bytes of a ring, as `head_around` comes to it
pub head_by_around : (s : List ℕ) (from n : ℕ) {at b : ℕ} {r i : Initial} → n ≤ length s → at < n
    → b ≡ get_or (around s from n) at 0 → r ≡ initial b → r ≡ i
    → head_by i (around s from n) (b / 32) (at + 1) ≡ head_at (around s from n) at
head_by_around s from n h l e f g =
    let long : length (around s from n) ≡ n = around_length s from n h in
    sym (head_by_lem (around s from n) (omega arith) e f g)

-- ---- what an initial byte can say

-- of major type m: the type that it names is m's; an argument in the byte is below 24; one that follows has 1, 2, 4 or 8 bytes
unfoldable pub Sound : ℕ → Initial → Type 0
Sound m (says.Short M v) = (M ≡ major_of m) × (v < 24)
Sound m (says.Long M k) = (M ≡ major_of m) × ((e : ℕ) × (e ≤ 3) × (k + 1 ≡ 2 ^ e))
Sound m (says.Indefinite _) = Unit {0}
Sound m says.Simple = m ≡ 7
Sound m says.Break = Unit {0}
Sound m says.Reserved = Unit {0}

pub sound : (b : ℕ) → Sound (b / 32) (initial b)
unfolding initial Sound
sound b =
    let m : ℕ = b / 32 in
    let i : ℕ = b % 32 in
    let P : Initial → Type 0 = Sound m in
    cond_cases P (ltb i 24) (λ t. (refl, ltb-true i 24 t))
    (λ _.
    cond_cases P (eqb i 24) (λ _. cond_cases P (eqb m 7) (λ t. eqb-true m 7 t) (λ _. (refl, (0, lit≤ tt, refl))))
    (λ _.
    cond_cases P (eqb i 25) (λ _. (refl, (1, lit≤ tt, refl)))
    (λ _.
    cond_cases P (eqb i 26) (λ _. (refl, (2, lit≤ tt, refl)))
    (λ _.
    cond_cases P (eqb i 27) (λ _. (refl, (3, lit≤ tt, refl)))
    (λ _.
    cond_cases P (eqb i 31)
    (λ _.
    cond_cases P (eqb m 7) (λ _. tt)
    (λ _. cond_cases P (leb 2 m) (λ _. cond_cases P (leb m 5) (λ _. tt) (λ _. tt)) (λ _. tt)))
    (λ _. tt))))))

-- so an argument that follows has at most eight bytes
pub long_small : (b : ℕ) {k : ℕ} {r : Initial} {M : Major} → r ≡ initial b → r ≡ says.Long M k → k + 1 ≤ 8
unfolding Sound
long_small b {k} {r} {M} e f =
    let s : Sound (b / 32) (says.Long M k) = subst (Sound (b / 32)) (sym e ∙ f) (sound b) in
    omega (arith, s.1.2, pow_mono {j = 3} s.1.1)

-- ---- how far a head reaches

Within : List ℕ → ℕ → Head → Type 0
Within bs at (Definite _ _ next) = (at < next) × (next ≤ length bs)
Within bs at (Indefinite _ next) = (next ≡ at + 1) × (next ≤ length bs)
Within bs at (Break next) = (next ≡ at + 1) × (next ≤ length bs)
Within bs at Short = Unit {0}
Within bs at Bad = at < length bs

module _ (bs : List ℕ) (at : ℕ) where
  by_within : (i : Initial) (m : ℕ) → at < length bs → Within bs at (head_by i bs m (at + 1))
  unfolding head_by long_at simple_at Within
  by_within (says.Short _ v) m h = (omega arith, omega arith)
  by_within (says.Long _ k) m h =
      cond_cases (Within bs at) (leb (at + 1 + (k + 1)) (length bs)) (λ t. (omega arith, leb-true (at + 1 + (k + 1)) (length bs) t)) (λ _. tt)
  by_within (says.Indefinite _) m h = (refl, omega arith)
  by_within says.Simple m h =
      cond_cases (Within bs at) (ltb (at + 1) (length bs))
      (λ t.
      let in-bs : at + 1 < length bs = ltb-true (at + 1) (length bs) t in
      cond_cases (Within bs at) (ltb (get_or bs (at + 1) 0) 32) (λ _. h) (λ _. (omega arith, omega arith)))
      (λ _. tt)
  by_within says.Break m h = (refl, omega arith)
  by_within says.Reserved m h = h

  within : Within bs at (head_at bs at)
  unfolding head_at Within
  within =
      cond_cases (Within bs at) (ltb at (length bs))
      (λ t. by_within (initial (get_or bs at 0)) (get_or bs at 0 / 32) (ltb-true at (length bs) t))
      (λ _. tt)

  pub definite_within : {m v next : ℕ} → head_at bs at ≡ Definite m v next → (at < next) × (next ≤ length bs)
  unfolding Within
  definite_within e = subst (Within bs at) e within

  pub indefinite_within : {m next : ℕ} → head_at bs at ≡ Indefinite m next → (next ≡ at + 1) × (next ≤ length bs)
  unfolding Within
  indefinite_within e = subst (Within bs at) e within

  pub break_within : {next : ℕ} → head_at bs at ≡ Break next → (next ≡ at + 1) × (next ≤ length bs)
  unfolding Within
  break_within e = subst (Within bs at) e within

  pub bad_within : head_at bs at ≡ Bad → at < length bs
  unfolding Within
  bad_within e = subst (Within bs at) e within

-- ---- a head in a part

-- a head that is not cut short is the same with more bytes behind
module _ (bs more : List ℕ) where
  long_there : (m k at : ℕ) → at + k ≤ length bs → long_at (bs ++ more) m k at ≡ long_at bs m k at
  long_there m k at fits =
      long_here (bs ++ more) m k at (omega (arith, length-append bs more))
      ∙ ap (λ (r : List ℕ). Definite m (number r) (at + k)) (run_front bs more at k fits)
      ∙ sym (long_here bs m k at fits)

  long_longer : (m k at : ℕ) → (long_at bs m k at ≡ Short → ⊥) → long_at (bs ++ more) m k at ≡ long_at bs m k at
  long_longer m k at told = elim (dec_lt (length bs) (at + k)) [
    | yes y ↦ absurd (told (long_short bs m k at y))
    | no x ↦ long_there m k at (omega arith)
  ]

  simple_there : (at : ℕ) → at < length bs → simple_at (bs ++ more) at ≡ simple_at bs at
  unfolding simple_at
  simple_there at y =
      let y' : at < length (bs ++ more) = omega (arith, length-append bs more) in
      rw (lt-ltb at (length bs) y, lt-ltb at (length (bs ++ more)) y', get_or-append bs more 0 at y)

  simple_longer : (at : ℕ) → (simple_at bs at ≡ Short → ⊥) → simple_at (bs ++ more) at ≡ simple_at bs at
  simple_longer at told = elim (dec_lt at (length bs)) [
    | yes y ↦ simple_there at y
    | no x ↦ absurd (told (simple_short bs at (omega arith)))
  ]

  by_longer : (i : Initial) (m at : ℕ) → (head_by i bs m at ≡ Short → ⊥) → head_by i (bs ++ more) m at ≡ head_by i bs m at
  unfolding head_by
  by_longer (says.Short _ v) m at told = refl
  by_longer (says.Long _ k) m at told = long_longer m (k + 1) at told
  by_longer (says.Indefinite _) m at told = refl
  by_longer says.Simple m at told = simple_longer at told
  by_longer says.Break m at told = refl
  by_longer says.Reserved m at told = refl

  pub head_longer : (at : ℕ) → (head_at bs at ≡ Short → ⊥) → head_at (bs ++ more) at ≡ head_at bs at
  head_longer at told = elim (dec_lt at (length bs)) [
    | yes y ↦
        let b : ℕ = get_or bs at 0 in
        let is : head_at bs at ≡ head_by (initial b) bs (b / 32) (at + 1) = head_by_lem bs y refl refl refl in
        head_by_lem (bs ++ more) (omega (arith, length-append bs more)) (sym (get_or-append bs more 0 at y)) refl refl
        ∙ by_longer (initial b) (b / 32) (at + 1) (λ e. told (is ∙ e))
        ∙ sym is
    | no x ↦ absurd (told (head_none bs at (omega arith)))
  ]

-- a head that ends in the front part is the same head in that part alone
pub cut_short : {m v q : ℕ} → Short ≡ Definite m v q → ⊥
cut_short e = let z : ◌≡◌ {A = ℕ} 0 1 = cc in omega arith

long_end : (bs : List ℕ) (m k at : ℕ) {M v q : ℕ} → long_at bs m k at ≡ Definite M v q → at + k ≡ q
unfolding long_at
long_end bs m k at {M} {v} {q} =
    cond_cases (λ (h : Head). h ≡ Definite M v q → at + k ≡ q) (leb (at + k) (length bs)) (λ _ e. cc) (λ _ e. absurd (cut_short e))

simple_end : (bs : List ℕ) (at : ℕ) {M v q : ℕ} → simple_at bs at ≡ Definite M v q → at + 1 ≡ q
unfolding simple_at
simple_end bs at {M} {v} {q} =
    let P : Head → Type 0 = λ h. h ≡ Definite M v q → at + 1 ≡ q in
    cond_cases P (ltb at (length bs))
    (λ _. cond_cases P (ltb (get_or bs at 0) 32) (λ _ e. absurd (let z : ◌≡◌ {A = ℕ} 0 1 = cc in omega arith)) (λ _ e. cc))
    (λ _ e. absurd (cut_short e))

module _ (bs more : List ℕ) where
  by_front : (i : Initial) (m at : ℕ) {M v q : ℕ} → head_by i (bs ++ more) m at ≡ Definite M v q → q ≤ length bs
      → head_by i bs m at ≡ Definite M v q
  unfolding head_by
  by_front (says.Short _ v) m at e h = e
  by_front (says.Long _ k) m at e h =
      let end = long_end (bs ++ more) m (k + 1) at e in sym (long_there bs more m (k + 1) at (omega (arith, end))) ∙ e
  by_front (says.Indefinite _) m at e h = e
  by_front says.Simple m at e h = let end = simple_end (bs ++ more) at e in sym (simple_there bs more at (omega (arith, end))) ∙ e
  by_front says.Break m at e h = e
  by_front says.Reserved m at e h = e

  pub head_front : (at : ℕ) {m v q : ℕ} → head_at (bs ++ more) at ≡ Definite m v q → q ≤ length bs → head_at bs at ≡ Definite m v q
  head_front at {m} {v} {q} e h =
      let y : at < length bs = omega (arith, (definite_within (bs ++ more) at e).0) in
      let b : ℕ = get_or bs at 0 in
      let longer : at < length (bs ++ more) = omega (arith, length-append bs more) in
      head_by_lem bs y refl refl refl
      ∙ by_front (initial b) (b / 32) (at + 1) (sym (head_by_lem (bs ++ more) longer (sym (get_or-append bs more 0 at y)) refl refl) ∙ e) h

-- a head whose places are counted from n bytes earlier
unfoldable pub moved : ℕ → Head → Head
moved n (Definite m v next) = Definite m v (n + next)
moved n (Indefinite m next) = Indefinite m (n + next)
moved n (Break next) = Break (n + next)
moved n Short = Short
moved n Bad = Bad

unmoved : (n : ℕ) (h : Head) {m v q : ℕ} → moved n h ≡ Definite m v (n + q) → h ≡ Definite m v q
unfolding moved
unmoved n (Definite M w r) {m} {v} {q} e =
    let x : M ≡ m = cc in
    let y : w ≡ v = cc in
    let z : n + r ≡ n + q = cc in
    let next : r ≡ q = omega arith in
    cc
unmoved n (Indefinite M r) e = absurd (let z : ◌≡◌ {A = ℕ} 0 1 = cc in omega arith)
unmoved n (Break r) e = absurd (let z : ◌≡◌ {A = ℕ} 0 1 = cc in omega arith)
unmoved n Short e = absurd (cut_short e)
unmoved n Bad e = absurd (let z : ◌≡◌ {A = ℕ} 0 1 = cc in omega arith)

-- a head is the same in the part behind n bytes, but for where its places are counted from
module _ (bs : List ℕ) (n : ℕ) (h : n ≤ length bs) where
  long_moved : (m k at : ℕ) → long_at bs m k (n + at) ≡ moved n (long_at (drop n bs) m k at)
  unfolding moved
  long_moved m k at = elim (dec_lt (length bs) (n + at + k)) [
    | yes y ↦
        rw (long_short bs m k (n + at) y, long_short (drop n bs) m k at (omega (arith, length-drop n bs)))
    | no x ↦
        let next : n + at + k ≡ n + (at + k) = omega arith in
        rw (long_here bs m k (n + at) (omega arith), long_here (drop n bs) m k at (omega (arith, length-drop n bs)), run_drop, next)
  ]

  simple_moved : (at : ℕ) → simple_at bs (n + at) ≡ moved n (simple_at (drop n bs) at)
  unfolding moved
  simple_moved at =
      let byte : get_or (drop n bs) at 0 ≡ get_or bs (n + at) 0 = get_or-drop n bs at 0 in
      elim (dec_lt (n + at) (length bs)) [
        | yes y ↦
            let y' : at < length (drop n bs) = omega (arith, length-drop n bs) in
            elim (dec_lt (get_or bs (n + at) 0) 32) [
              | yes z ↦ rw (simple_bad bs (n + at) y z, simple_bad (drop n bs) at y' (omega arith))
              | no z ↦
                  let next : n + at + 1 ≡ n + (at + 1) = omega arith in
                  rw (simple_here bs (n + at) y (omega arith), simple_here (drop n bs) at y' (omega arith), byte, next)
            ]
        | no x ↦ rw (simple_short bs (n + at) (omega arith), simple_short (drop n bs) at (omega (arith, length-drop n bs)))
      ]

  by_moved : (i : Initial) (m at : ℕ) → head_by i bs m (n + at) ≡ moved n (head_by i (drop n bs) m at)
  unfolding head_by moved
  by_moved (says.Short _ v) m at = refl
  by_moved (says.Long _ k) m at = long_moved m (k + 1) at
  by_moved (says.Indefinite _) m at = refl
  by_moved says.Simple m at = simple_moved at
  by_moved says.Break m at = refl
  by_moved says.Reserved m at = refl

  pub head_moved : (at : ℕ) → head_at bs (n + at) ≡ moved n (head_at (drop n bs) at)
  unfolding moved
  head_moved at = elim (dec_lt (n + at) (length bs)) [
    | yes y ↦
        let b : ℕ = get_or bs (n + at) 0 in
        let next : n + at + 1 ≡ n + (at + 1) = omega arith in
        head_by_lem bs y refl refl refl
        ∙ ap (head_by (initial b) bs (b / 32)) next
        ∙ by_moved (initial b) (b / 32) (at + 1)
        ∙ ap (moved n) (sym (head_by_lem (drop n bs) (omega (arith, length-drop n bs)) (sym (get_or-drop n bs at 0)) refl refl))
    | no x ↦ rw (head_none bs (n + at) (omega arith), head_none (drop n bs) at (omega (arith, length-drop n bs)))
  ]

  -- so a head in the whole is a head in the part behind
  pub head_behind : (at : ℕ) {m v q : ℕ} → head_at bs (n + at) ≡ Definite m v (n + q) → head_at (drop n bs) at ≡ Definite m v q
  head_behind at e = unmoved n (head_at (drop n bs) at) (sym (head_moved at) ∙ e)
