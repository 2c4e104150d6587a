-- A head in the grammar: what stands at a place where a head is read is an item, and what is in it follows the head.
-- Assumes nothing.
use Prim.Native.Nat.{ℕ, zero, suc, ◌+◌, ◌-◌, ◌/◌, ◌%◌, ◌*◌, ◌<◌}
use mathlib.Core.Path.{◌≡◌, refl, sym, ap, subst, subst⁻¹, ◌∙◌}
use mathlib.Core.List.{List, [], ◌∷◌}
use mathlib.Core.Option.{some}
use native.Mathlib.Omega.{arith}
use native.Mathlib.Decide.{dec_lt}
use lib.Dec.{ltb, leb, eqb}
use lib.ListN.{length, get_or, take, drop, length-drop, get_or-eq_default}
use lib.Seq.{drop-cons, drop-drop}
use borrow.Author.Tests.{eqb-true}
use Rattle.base.specs.Numbers.{spelled, number}
use Rattle.base.proofs.Conds.{cond_cases}
use Rattle.ring.specs.Ring.{run}
use Rattle.head.specs.Initial.{major_of, initial}
use Rattle.head.specs.Read.{head_at, head_by, long_at, simple_at}
use Rattle.head.specs.declared.Major.{Major}
use Rattle.head.specs.declared.Initial.{Initial}
use Rattle.head.specs.declared.Initial.TheVariants as says
use Rattle.head.specs.declared.read.Head.{Head}
use Rattle.head.specs.declared.read.Head.TheVariants.{Definite, Indefinite, Short, Bad}
use Rattle.head.proofs.ReadLaws.{Sound, sound, head_by_lem, long_here, long_short, cut_short, definite_within, indefinite_within}
use Rattle.item.specs.Grammar.{Frame, One, Argument, content, nest, enter, Reads, one, last, digit}
use Rattle.item.proofs.Heads.{nest_is}

-- ---- arguments

-- the bytes of an argument, and then what it announces
argument : {d : ℕ} {m : Major} (k v : ℕ) (xs : List ℕ) {ds : List ℕ} → k < length xs
    → Reads d (content m (spelled v (take (suc k) xs))) (drop (suc k) xs) ds → Reads d (Argument m v k) xs ds
unfolding spelled
argument k v [] h r = absurd (omega arith)
argument zero v (x ∷ xs) h r = last r
argument (suc k) v (x ∷ xs) h r = digit (argument k (v * 256 + x) xs (omega arith) r)

argued : {d : ℕ} {m : Major} (k v : ℕ) (xs : List ℕ) {ds : List ℕ} → Reads d (Argument m v k) xs ds
    → Reads d (content m (spelled v (take (suc k) xs))) (drop (suc k) xs) ds
unfolding spelled
argued zero v (x ∷ xs) (last r) = r
argued (suc k) v (x ∷ xs) (digit r) = argued k (v * 256 + x) xs r
argued {d = d} {m = m} zero v [] {ds = ds} r = elim r [ ]
argued {d = d} {m = m} (suc k) v [] {ds = ds} r = elim r [ ]

-- ---- what a head asks for

-- the nesting leaves room for what a head of this major type holds
abbrev pub Room : ℕ → ℕ → Type 0
Room d m = (f : Frame) → nest (major_of m) d f ≡ some f

module _ (bs : List ℕ) (p : ℕ) (h : p < length bs) where
  abbrev b : ℕ
  b = get_or bs p 0

  abbrev rest : List ℕ
  rest = drop (suc p) bs

  -- the bytes from p on
  here : drop p bs ≡ b ∷ rest
  here = drop-cons bs p 0 h

  past : (k : ℕ) → drop k rest ≡ drop (p + 1 + k) bs
  past k = drop-drop k (suc p) bs ∙ ap (λ (n : ℕ). drop n bs) (let e : suc p + k ≡ p + 1 + k = omega arith in e)

  simple_seven : {m v q : ℕ} → simple_at bs (p + 1) ≡ Definite m v q → m ≡ 7
  unfolding simple_at
  simple_seven {m} {v} {q} =
      let P : Head → Type 0 = λ k. k ≡ Definite m v q → m ≡ 7 in
      cond_cases P (ltb (p + 1) (length bs)) (λ _. cond_cases P (ltb (get_or bs (p + 1) 0) 32) (λ _ e. absurd (bad e)) (λ _ e. cc))
      (λ _ e. absurd (cut_short e))
    where
      bad : {m v q : ℕ} → Bad ≡ Definite m v q → ⊥
      bad e = let z : ◌≡◌ {A = ℕ} 0 1 = cc in omega arith

-- what the bytes of a head ask for: in the initial byte, or in the k + 1 bytes behind it
data Asks (bs : List ℕ) (p m v q : ℕ) : Type 0 where
  inside : initial (get_or bs p 0) ≡ says.Short (major_of m) v → p + 1 ≡ q → Asks bs p m v q
  behind : (k : ℕ) → initial (get_or bs p 0) ≡ says.Long (major_of m) k → k < length (drop (suc p) bs)
      → spelled 0 (take (suc k) (drop (suc p) bs)) ≡ v → drop (suc k) (drop (suc p) bs) ≡ drop q bs → Asks bs p m v q

module _ (bs : List ℕ) (p m v q : ℕ) (low : m < 7) where
  abbrev b' : ℕ
  b' = get_or bs p 0

  by : p < length bs → (i : Initial) → initial b' ≡ i → Sound (b' / 32) i → head_by i bs (b' / 32) (p + 1) ≡ Definite m v q → Asks bs p m v q
  unfolding head_by Sound
  by h (says.Short M w) e n f =
      let x : b' / 32 ≡ m = cc in
      let y : w ≡ v = cc in
      inside (e ∙ ap (λ (N : Major). says.Short N w) (n.0 ∙ ap major_of x) ∙ ap (says.Short (major_of m)) y) cc
  by h (says.Long M k) e n f = elim (dec_lt (length bs) (p + 1 + (k + 1))) [
    | yes y ↦ absurd (cut_short (sym (long_short bs (b' / 32) (k + 1) (p + 1) y) ∙ f))
    | no x ↦
        let g : Definite (b' / 32) (number (run bs (p + 1) (k + 1))) (p + 1 + (k + 1)) ≡ Definite m v q =
        sym (long_here bs (b' / 32) (k + 1) (p + 1) (omega arith)) ∙ f in
        let is : b' / 32 ≡ m = cc in
        let spells : number (run bs (p + 1) (k + 1)) ≡ v = cc in
        let next : p + 1 + (k + 1) ≡ q = cc in
        let from : p + 1 ≡ suc p = omega arith in
        let size : k + 1 ≡ suc k = omega arith in
        behind k (e ∙ ap (λ (N : Major). says.Long N k) (n.0 ∙ ap major_of is)) (omega (arith, length-drop (suc p) bs))
        (ap (λ (n : ℕ). number (take (suc k) (drop n bs))) (sym from) ∙ ap (λ (n : ℕ). number (take n (drop (p + 1) bs))) (sym size) ∙ spells)
        (drop-drop (suc k) (suc p) bs ∙ ap (λ (n : ℕ). drop n bs) (let e : suc p + suc k ≡ q = omega arith in e))
  ]
  by h (says.Indefinite M) e n f = absurd (let z : ◌≡◌ {A = ℕ} 0 1 = cc in omega arith)
  by h says.Simple e n f = absurd (omega (arith, simple_seven bs p h f))
  by h says.Break e n f = absurd (let z : ◌≡◌ {A = ℕ} 0 1 = cc in omega arith)
  by h says.Reserved e n f = absurd (let z : ◌≡◌ {A = ℕ} 0 1 = cc in omega arith)

  asks : head_at bs p ≡ Definite m v q → Asks bs p m v q
  asks e = let h : p < length bs = omega (arith, (definite_within bs p e).0, (definite_within bs p e).1) in
      by h (initial b') refl (sound b') (sym (head_by_lem bs {at = p} h refl refl refl) ∙ e)

  module _ (head : head_at bs p ≡ Definite m v q) where
    in_bytes : p < length bs
    in_bytes = omega (arith, (definite_within bs p head).0, (definite_within bs p head).1)

    -- an item that begins with this head, where what is in it follows
    pub into : {d : ℕ} {ds : List ℕ} → Room d m → Reads (d - 1) (content (major_of m) v) (drop q bs) ds → Reads d One (drop p bs) ds
    unfolding enter
    into {d} {ds} room r = subst⁻¹ (λ (l : List ℕ). Reads d One l ds) (here bs p in_bytes) (of (asks head))
      where
        of : Asks bs p m v q → Reads d One (b' ∷ drop (suc p) bs) ds
        of (inside e n) =
            let n' : q ≡ suc p = omega arith in
            one (ap (enter d) e ∙ room (content (major_of m) v)) (subst (λ (k : ℕ). Reads (d - 1) (content (major_of m) v) (drop k bs) ds) n' r)
        of (behind k e l s n) =
            one (ap (enter d) e ∙ room (Argument (major_of m) 0 k))
            (argument k 0 (drop (suc p) bs) l
            (subst⁻¹ (λ (w : ℕ). Reads (d - 1) (content (major_of m) w) (drop (suc k) (drop (suc p) bs)) ds) s
            (subst⁻¹ (λ (l : List ℕ). Reads (d - 1) (content (major_of m) v) l ds) n r)))

    -- and what is in it, where an item begins with this head
    pub out : {d : ℕ} {ds : List ℕ} → Reads d One (drop p bs) ds → Reads (d - 1) (content (major_of m) v) (drop q bs) ds
    unfolding enter
    out {d} {ds} r = of (asks head) (subst (λ (l : List ℕ). Reads d One l ds) (here bs p in_bytes) r)
      where
        of : Asks bs p m v q → Reads d One (b' ∷ drop (suc p) bs) ds → Reads (d - 1) (content (major_of m) v) (drop q bs) ds
        of (inside e n) (one {f = f} w r) =
            let n' : suc p ≡ q = omega arith in
            let g : content (major_of m) v ≡ f = nest_is (major_of m) d (content (major_of m) v) f (ap (enter d) (sym e) ∙ w) in
            subst (λ (k : ℕ). Reads (d - 1) (content (major_of m) v) (drop k bs) ds) n'
            (subst⁻¹ (λ (x : Frame). Reads (d - 1) x (drop (suc p) bs) ds) g r)
        of (behind k e l s n) (one {f = f} w r) =
            let g : Argument (major_of m) 0 k ≡ f = nest_is (major_of m) d (Argument (major_of m) 0 k) f (ap (enter d) (sym e) ∙ w) in
            subst (λ (l : List ℕ). Reads (d - 1) (content (major_of m) v) l ds) n
            (subst (λ (w : ℕ). Reads (d - 1) (content (major_of m) w) (drop (suc k) (drop (suc p) bs)) ds) s
            (argued k 0 (drop (suc p) bs) (subst⁻¹ (λ (x : Frame). Reads (d - 1) x (drop (suc p) bs) ds) g r)))

-- ---- heads of indefinite length, and breaks

-- which byte has such an initial
abbrev Marks : ℕ → Initial → Type 0
Marks b (says.Short m v) = Unit {0}
Marks b (says.Long m k) = Unit {0}
Marks b (says.Indefinite m) = b % 32 ≡ 31
Marks b says.Simple = Unit {0}
Marks b says.Break = (b % 32 ≡ 31) × (b / 32 ≡ 7)
Marks b says.Reserved = Unit {0}

marks : (b : ℕ) → Marks b (initial b)
unfolding initial
marks b =
    let m : ℕ = b / 32 in
    let i : ℕ = b % 32 in
    let P : Initial → Type 0 = Marks b in
    cond_cases P (ltb i 24) (λ _. tt)
    (λ _.
    cond_cases P (eqb i 24) (λ _. cond_cases P (eqb m 7) (λ _. tt) (λ _. tt))
    (λ _.
    cond_cases P (eqb i 25) (λ _. tt)
    (λ _.
    cond_cases P (eqb i 26) (λ _. tt)
    (λ _.
    cond_cases P (eqb i 27) (λ _. tt)
    (λ _.
    cond_cases P (eqb i 31)
    (λ t.
    cond_cases P (eqb m 7) (λ s. (eqb-true i 31 t, eqb-true m 7 s))
    (λ _. cond_cases P (leb 2 m) (λ _. cond_cases P (leb m 5) (λ _. eqb-true i 31 t) (λ _. tt)) (λ _. tt)))
    (λ _. tt))))))

pub break_byte : (b : ℕ) → initial b ≡ says.Break → b ≡ 255
break_byte b e = let m = subst (Marks b) e (marks b) in omega (arith, m.0, m.1)

module _ (bs : List ℕ) (p : ℕ) {m q : ℕ} where
  never : {M v r : ℕ} → Definite M v r ≡ Indefinite m q → ⊥
  never e = let z : ◌≡◌ {A = ℕ} 0 1 = cc in omega arith

  nor_short : Short ≡ Indefinite m q → ⊥
  nor_short e = let z : ◌≡◌ {A = ℕ} 0 1 = cc in omega arith

  nor_bad : Bad ≡ Indefinite m q → ⊥
  nor_bad e = let z : ◌≡◌ {A = ℕ} 0 1 = cc in omega arith

  never_long : (M k at : ℕ) → long_at bs M k at ≡ Indefinite m q → ⊥
  unfolding long_at
  never_long M k at = cond_cases (λ (h : Head). h ≡ Indefinite m q → ⊥) (leb (at + k) (length bs)) (λ _. never) (λ _. nor_short)

  never_simple : (at : ℕ) → simple_at bs at ≡ Indefinite m q → ⊥
  unfolding simple_at
  never_simple at =
      let P : Head → Type 0 = λ h. h ≡ Indefinite m q → ⊥ in
      cond_cases P (ltb at (length bs)) (λ _. cond_cases P (ltb (get_or bs at 0) 32) (λ _. nor_bad) (λ _. never)) (λ _. nor_short)

  -- the byte of a head of indefinite length
  pub open_byte : head_at bs p ≡ Indefinite m q → (get_or bs p 0 ≡ m * 32 + 31) × (q ≡ p + 1)
  unfolding head_by
  open_byte e =
      let w = indefinite_within bs p e in
      let h : p < length bs = omega (arith, w) in
      (of (initial (get_or bs p 0)) (marks (get_or bs p 0)) (sym (head_by_lem bs {at = p} h refl refl refl) ∙ e), w.0)
    where
      of : (i : Initial) → Marks (get_or bs p 0) i → head_by i bs (get_or bs p 0 / 32) (p + 1) ≡ Indefinite m q → get_or bs p 0 ≡ m * 32 + 31
      of (says.Short M v) n f = absurd (never f)
      of (says.Long M k) n f = absurd (never_long (get_or bs p 0 / 32) (k + 1) (p + 1) f)
      of (says.Indefinite M) n f = let z : get_or bs p 0 / 32 ≡ m = cc in omega (arith, n)
      of says.Simple n f = absurd (never_simple (p + 1) f)
      of says.Break n f = absurd (let z : ◌≡◌ {A = ℕ} 0 1 = cc in omega arith)
      of says.Reserved n f = absurd (nor_bad f)

-- the head that a byte makes by itself
pub byte_head : (bs : List ℕ) (p b : ℕ) → get_or bs p 0 ≡ b → 0 < b → head_at bs p ≡ head_by (initial b) bs (b / 32) (p + 1)
byte_head bs p b e h = elim (dec_lt p (length bs)) [
  | yes y ↦ head_by_lem bs {at = p} y (sym e) refl refl
  | no x ↦ absurd (omega (arith, e, get_or-eq_default bs 0 {n = p} (omega arith)))
]
