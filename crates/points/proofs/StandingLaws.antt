-- What the readings find at a place is what stands there, and when they answer 0 or 29.
-- Assumes nothing.
use Prim.Native.Nat.{ℕ, ◌+◌, ◌-◌, ◌≤◌}
use mathlib.Core.Path.{◌≡◌, refl, sym, ap, subst, ◌∙◌}
use mathlib.Core.Bool.{◌&&◌}
use mathlib.Core.List.{List}
use mathlib.Core.Logic.{◌↔◌}
use native.Mathlib.Omega.{arith}
use lib.Dec.{eqb, leb}
use lib.ListN.{length}
use borrow.Author.Tests.{eqb-true, eq-eqb, leb-true, le-leb}
use Rattle.base.proofs.Conds.{by_test, cond_cases, both_true, exactly_when}
use Rattle.head.specs.Read.{head_at}
use Rattle.head.specs.declared.read.Head.{Head}
use Rattle.head.specs.declared.read.Head.TheVariants.{Definite, Indefinite, Break, Short, Bad}
use Rattle.points.specs.declared.Place.{Place}
use Rattle.points.specs.declared.Place.TheVariants.{Origin, Block}
use Rattle.points.specs.declared.Tip.{Tip}
use Rattle.points.specs.declared.NotAPoint.{NotAPoint}
use Rattle.points.specs.declared.Opening.{Opening}
use Rattle.points.specs.declared.Opening.TheVariants.{Counted, Endless}
use Rattle.std.specs.Prelude.{Option, Some, None, Result, Ok, Err}
use Rattle.points.specs.Points.{unsigned, bytes, array, leads, opening, ending, on_some, hash_at, point, tip_with, hashed, hash_behind, block_at, broken, point_by, point_at, with_number, pair_at, tip_by, tip_at, refused, whole, point_of, tip_of}
use Rattle.points.specs.Besides.Standing.{ArrayAt, definite, indefinite, PointAt, origin, block, TipAt, tip, WhenPoint, a_point, no_point, WhenTip, a_tip, no_tip, point_told, tip_told, ReadsAll}

-- ---- heads

-- a head of this major type
leads_is : (m : ℕ) (h : Head) {v q : ℕ} → leads m h ≡ Some (v, q) → h ≡ Definite m v q
leads_is m (Definite M w r) {v} {q} =
    cond_cases (λ (n : Option (ℕ × ℕ)). n ≡ Some (v, q) → Definite M w r ≡ Definite m v q) (eqb M m)
    (λ t e.
    let x : M ≡ m = eqb-true M m t in
    let y : ◌≡◌ {A = ℕ × ℕ} (w, r) (v, q) = cc in
    let a : w ≡ v = ap (λ (p : ℕ × ℕ). p.0) y in
    let b : r ≡ q = ap (λ (p : ℕ × ℕ). p.1) y in
    cc)
    (λ t e. cc)
leads_is m (Indefinite M r) = λ e. cc
leads_is m (Break r) = λ e. cc
leads_is m Short = λ e. cc
leads_is m Bad = λ e. cc

opening_counted : (h : Head) {n a : ℕ} → opening h ≡ Some (Counted n a) → h ≡ Definite array n a
opening_counted (Definite M w r) {n} {a} =
    cond_cases (λ (o : Option Opening). o ≡ Some (Counted n a) → Definite M w r ≡ Definite array n a) (eqb M array)
    (λ t e. let x : M ≡ array = eqb-true M array t in cc)
    (λ t e. cc)
opening_counted (Indefinite M r) {n} {a} =
    cond_cases (λ (o : Option Opening). o ≡ Some (Counted n a) → Indefinite M r ≡ Definite array n a) (eqb M array) (λ t e. cc) (λ t e. cc)
opening_counted (Break r) = λ e. cc
opening_counted Short = λ e. cc
opening_counted Bad = λ e. cc

opening_endless : (h : Head) {a : ℕ} → opening h ≡ Some (Endless a) → h ≡ Indefinite array a
opening_endless (Definite M w r) {a} =
    cond_cases (λ (o : Option Opening). o ≡ Some (Endless a) → Definite M w r ≡ Indefinite array a) (eqb M array) (λ t e. cc) (λ t e. cc)
opening_endless (Indefinite M r) {a} =
    cond_cases (λ (o : Option Opening). o ≡ Some (Endless a) → Indefinite M r ≡ Indefinite array a) (eqb M array)
    (λ t e. let x : M ≡ array = eqb-true M array t in cc)
    (λ t e. cc)
opening_endless (Break r) = λ e. cc
opening_endless Short = λ e. cc
opening_endless Bad = λ e. cc

ending_is : (h : Head) {q : ℕ} → ending h ≡ Some q → h ≡ Break q
ending_is (Definite M w r) e = cc
ending_is (Indefinite M r) e = cc
ending_is (Break r) {q} e = cc
ending_is Short e = cc
ending_is Bad e = cc

-- ---- what is found stands there

-- what stands, if anything does, is like this
abbrev Only : {A : Type 0} → (A → ℕ → Type 0) → Option (A × ℕ) → Type 0
Only P (Some w) = P w.0 w.1
Only P None = Unit {0}

only_some : {A B : Type 0} (P : A → ℕ → Type 0) (o : Option B) (k : B → Option (A × ℕ)) → ((b : B) → o ≡ Some b → Only P (k b)) → Only P (on_some None o k)
only_some P (Some b) k f = f b refl
only_some P None k f = tt

module _ (bs : List ℕ) where
  -- a slot and a hash, from place a on
  record BlockIn (a : ℕ) (place : Place) (q : ℕ) : Type 0 where
    slot : ℕ
    b : ℕ
    c : ℕ
    first : head_at bs a ≡ Definite unsigned slot b
    second : head_at bs b ≡ Definite bytes 32 c
    there : 32 ≤ length bs - c
    is : place ≡ Block (point slot (hash_at bs c))
    end : q ≡ c + 32

  block_sound : (a : ℕ) → Only (BlockIn a) (block_at bs a)
  unfolding block_at hash_behind hashed
  block_sound a =
      only_some (BlockIn a) (leads unsigned (head_at bs a)) _ (λ h e.
      only_some (BlockIn a) (leads bytes (head_at bs h.1)) _ (λ k f.
      cond_cases (Only (BlockIn a)) (eqb k.0 32 && leb 32 (length bs - k.1))
      (λ t.
      let two = both_true (eqb k.0 32) _ t in
      let size : k.0 ≡ 32 = eqb-true k.0 32 two.0 in
      record {
        slot = h.0;
        b = h.1;
        c = k.1;
        first = leads_is unsigned (head_at bs a) e;
        second = leads_is bytes (head_at bs h.1) f ∙ ap (λ (n : ℕ). Definite bytes n k.1) size;
        there = leb-true 32 (length bs - k.1) two.1;
        is = refl;
        end = refl;
      })
      (λ t. tt)))

  -- what stands between the first byte of an array and a break is shut by it
  shut : {A : Type 0} (P Q : A → ℕ → Type 0) → ((x : A) (d q : ℕ) → P x d → head_at bs d ≡ Break q → Q x q) → (w : Option (A × ℕ)) → Only P w → Only Q (broken bs w)
  shut P Q f None s = tt
  shut P Q f (Some w) s = only_some Q (ending (head_at bs w.1)) _ (λ q e. f w.0 w.1 q s (ending_is (head_at bs w.1) e))

  as_point : {p a d q : ℕ} {place : Place} → BlockIn a place d → ArrayAt bs 2 p a d q → PointAt bs p place q
  as_point {p} {a} {d} {q} r s =
      subst (λ (x : Place). PointAt bs p x q) (sym r.is) (block (subst (λ (x : ℕ). ArrayAt bs 2 p a x q) r.end s) r.first r.second r.there)

  point_sound : (p : ℕ) → Only (PointAt bs p) (point_at bs p)
  unfolding point_at
  point_sound p = go (opening (head_at bs p)) refl
    where
      two : {n a : ℕ} → head_at bs p ≡ Definite array n a → n ≡ 2 → (w : Option (Place × ℕ)) → Only (BlockIn a) w → Only (PointAt bs p) w
      two o z None s = tt
      two {a = a} o z (Some w) s = as_point s (definite (o ∙ ap (λ (k : ℕ). Definite array k a) z))

      none : {a : ℕ} → head_at bs p ≡ Indefinite array a → (e : Option ℕ) → ending (head_at bs a) ≡ e
          → Only (PointAt bs p) (on_some (broken bs (block_at bs a)) e (λ q. Some (Origin, q)))
      none {a} o (Some q) f = origin (indefinite o (ending_is (head_at bs a) f))
      none {a} o None f = shut (BlockIn a) (PointAt bs p) (λ x d q r e. as_point r (indefinite o e)) (block_at bs a) (block_sound a)

      go : (x : Option Opening) → opening (head_at bs p) ≡ x → Only (PointAt bs p) (point_by bs x)
      go (Some (Counted n a)) e =
          let o : head_at bs p ≡ Definite array n a = opening_counted (head_at bs p) e in
          cond_cases (Only (PointAt bs p)) (eqb n 0) (λ t. origin (definite (o ∙ ap (λ (k : ℕ). Definite array k a) (eqb-true n 0 t))))
          (λ _. cond_cases (Only (PointAt bs p)) (eqb n 2) (λ t. two o (eqb-true n 2 t) (block_at bs a) (block_sound a)) (λ _. tt))
      go (Some (Endless a)) e = none (opening_endless (head_at bs p) e) (ending (head_at bs a)) refl
      go None e = tt

  -- ---- and what stands there is found

  block_found : (a : ℕ) {slot b c : ℕ} → head_at bs a ≡ Definite unsigned slot b → head_at bs b ≡ Definite bytes 32 c → 32 ≤ length bs - c
      → block_at bs a ≡ Some (Block (point slot (hash_at bs c)), c + 32)
  unfolding block_at hash_behind hashed
  block_found a {c = c} e f h = rw (e, f, le-leb 32 (length bs - c) h)

  point_found : {p q : ℕ} {place : Place} → PointAt bs p place q → point_at bs p ≡ Some (place, q)
  unfolding point_at
  point_found (origin (definite e)) = rw e
  point_found (origin (indefinite {a = a} e f)) = rw (e, f)
  point_found {p = p} (block {a = a} {slot = slot} {c = c} o f g h) = go o
    where
      go : {q : ℕ} → ArrayAt bs 2 p a (c + 32) q → point_at bs p ≡ Some (Block (point slot (hash_at bs c)), q)
      go (definite e) = rw e (block_found a f g h)
      go (indefinite e k) = rw (e, f, block_found a f g h, k)

  -- ---- tips

  record PairIn (a : ℕ) (t : Tip) (q : ℕ) : Type 0 where
    b : ℕ
    first : PointAt bs a t.place b
    second : head_at bs b ≡ Definite unsigned t.block q

  pair_sound : (a : ℕ) → Only (PairIn a) (pair_at bs a)
  unfolding pair_at
  pair_sound a = go (point_at bs a) (point_sound a)
    where
      go : (w : Option (Place × ℕ)) → Only (PointAt bs a) w → Only (PairIn a) (with_number bs w)
      go (Some w) s =
          only_some (PairIn a) (leads unsigned (head_at bs w.1)) _ (λ h e. record { b = w.1; first = s; second = leads_is unsigned (head_at bs w.1) e })
      go None s = tt

  abbrev TipIn : ℕ → Tip → ℕ → Type 0
  TipIn p t q = TipAt bs p t.place t.block q

  tip_sound : (p : ℕ) → Only (TipIn p) (tip_at bs p)
  unfolding tip_at
  tip_sound p = go (opening (head_at bs p)) refl
    where
      two : {n a : ℕ} → head_at bs p ≡ Definite array n a → n ≡ 2 → (w : Option (Tip × ℕ)) → Only (PairIn a) w → Only (TipIn p) w
      two o z None s = tt
      two {a = a} o z (Some w) s = tip (definite (o ∙ ap (λ (k : ℕ). Definite array k a) z)) s.first s.second

      go : (x : Option Opening) → opening (head_at bs p) ≡ x → Only (TipIn p) (tip_by bs x)
      go (Some (Counted n a)) e =
          cond_cases (Only (TipIn p)) (eqb n 2) (λ t. two (opening_counted (head_at bs p) e) (eqb-true n 2 t) (pair_at bs a) (pair_sound a)) (λ _. tt)
      go (Some (Endless a)) e =
          shut (PairIn a) (TipIn p) (λ x d q s f. tip (indefinite (opening_endless (head_at bs p) e) f) s.first s.second) (pair_at bs a) (pair_sound a)
      go None e = tt

  pair_found : (a : ℕ) {b n c : ℕ} {place : Place} → PointAt bs a place b → head_at bs b ≡ Definite unsigned n c → pair_at bs a ≡ Some (tip_with place n, c)
  unfolding pair_at
  pair_found a s e = rw (point_found s, e)

  tip_found : {p n q : ℕ} {place : Place} → TipAt bs p place n q → tip_at bs p ≡ Some (tip_with place n, q)
  unfolding tip_at
  tip_found (tip {a = a} (definite e) s f) = rw e (pair_found a s f)
  tip_found (tip {a = a} (indefinite e k) s f) = rw (e, pair_found a s f, k)

-- ---- a reading of n bytes: what stands up to the last is read, and nothing else is

module _ {A : Type 0} (n : ℕ) where
  whole_is : (w : Option (A × ℕ)) {x : A} → whole n w ≡ Ok x → w ≡ Some (x, n)
  whole_is None {x} = λ e. cc
  whole_is (Some w) {x} =
      cond_cases (λ (r : Result A NotAPoint). r ≡ Ok x → Some w ≡ Some (x, n)) (eqb w.1 n)
      (λ t e. let z : w.1 ≡ n = eqb-true w.1 n t in let y : w.0 ≡ x = cc in ap (λ (v : A). Some (v, w.1)) y ∙ ap (λ (q : ℕ). Some (x, q)) z)
      (λ t e. cc)

  is_whole : {w : Option (A × ℕ)} {x : A} → w ≡ Some (x, n) → whole n w ≡ Ok x
  is_whole e = rw (e, eq-eqb n n refl)

  -- something stands up to the last, or it is refused
  data Way (w : Option (A × ℕ)) : Type 0 where
    stood : (x : A) → w ≡ Some (x, n) → Way w
    not-one : whole n w ≡ Err refused → Way w

  way : (w : Option (A × ℕ)) → Way w
  way None = not-one refl
  way (Some w) = by_test (eqb w.1 n) (λ t. stood w.0 (ap (λ (q : ℕ). Some (w.0, q)) (eqb-true w.1 n t))) (λ t. not-one (rw t))

-- the bytes are one point, or none; and one tip, or none
pub data ReadWay (bs : List ℕ) : Type 0 where
  one : (place : Place) → PointAt bs 0 place (length bs) → point_of bs ≡ Ok place → ReadWay bs
  none : ((place : Place) → PointAt bs 0 place (length bs) → ⊥) → point_of bs ≡ Err refused → ReadWay bs

data TipWay (bs : List ℕ) : Type 0 where
  a-tip : (t : Tip) → TipAt bs 0 t.place t.block (length bs) → tip_of bs ≡ Ok t → TipWay bs
  none : ((place : Place) (n : ℕ) → TipAt bs 0 place n (length bs) → ⊥) → tip_of bs ≡ Err refused → TipWay bs

module _ (bs : List ℕ) where
  point_found_whole : {place : Place} → PointAt bs 0 place (length bs) → point_of bs ≡ Ok place
  unfolding point_of
  point_found_whole s = is_whole (length bs) (point_found bs s)

  tip_found_whole : {place : Place} {n : ℕ} → TipAt bs 0 place n (length bs) → tip_of bs ≡ Ok (tip_with place n)
  unfolding tip_of
  tip_found_whole s = is_whole (length bs) (tip_found bs s)

  point_read : {place : Place} → point_of bs ≡ Ok place → PointAt bs 0 place (length bs)
  unfolding point_of
  point_read e = subst (Only (PointAt bs 0)) (whole_is (length bs) (point_at bs 0) e) (point_sound bs 0)

  tip_read : {t : Tip} → tip_of bs ≡ Ok t → TipAt bs 0 t.place t.block (length bs)
  unfolding tip_of
  tip_read e = subst (Only (TipIn bs 0)) (whole_is (length bs) (tip_at bs 0) e) (tip_sound bs 0)

  pub read_way : ReadWay bs
  unfolding point_of
  read_way = go (way (length bs) (point_at bs 0))
    where
      go : Way (length bs) (point_at bs 0) → ReadWay bs
      go (stood place e) = let f = is_whole (length bs) e in one place (point_read f) f
      go (not-one e) = none (λ place s. let f = point_found_whole s in cc) e

  tip_way : TipWay bs
  unfolding tip_of
  tip_way = go (way (length bs) (tip_at bs 0))
    where
      go : Way (length bs) (tip_at bs 0) → TipWay bs
      go (stood t e) = let f = is_whole (length bs) e in a-tip t (tip_read f) f
      go (not-one e) = none (λ place n s. let f = tip_found_whole s in cc) e

  point_goes : {k : ℕ} → WhenPoint bs k → (point_told (point_of bs)).number ≡ k
  point_goes (a_point s) = rw (point_found_whole s)
  point_goes (no_point never) = go read_way
    where
      go : ReadWay bs → (point_told (point_of bs)).number ≡ 29
      go (one place s e) = absurd (never place s)
      go (none f e) = rw e

  tip_goes : {k : ℕ} → WhenTip bs k → (tip_told (tip_of bs)).number ≡ k
  tip_goes (a_tip s) = rw (tip_found_whole s)
  tip_goes (no_tip never) = go tip_way
    where
      go : TipWay bs → (tip_told (tip_of bs)).number ≡ 29
      go (a-tip t s e) = absurd (never t.place t.block s)
      go (none f e) = rw e

  point_when : ReadWay bs → (k : ℕ) → ((point_told (point_of bs)).number ≡ k) ↔ WhenPoint bs k
  point_when (one place s e) k = let w = a_point s in exactly_when (WhenPoint bs) (point_goes w) w point_goes
  point_when (none f e) k = let w = no_point f in exactly_when (WhenPoint bs) (point_goes w) w point_goes

  tip_when : TipWay bs → (k : ℕ) → ((tip_told (tip_of bs)).number ≡ k) ↔ WhenTip bs k
  tip_when (a-tip t s e) k = let w = a_tip s in exactly_when (WhenTip bs) (tip_goes w) w tip_goes
  tip_when (none f e) k = let w = no_tip f in exactly_when (WhenTip bs) (tip_goes w) w tip_goes

  point_not : ReadWay bs → (point_told (point_of bs)).number ≡ 29 → point_of bs ≡ Err refused
  point_not (one place s e) z = absurd (omega (arith, rw e at z))
  point_not (none f e) z = e

  tip_not : TipWay bs → (tip_told (tip_of bs)).number ≡ 29 → tip_of bs ≡ Err refused
  tip_not (a-tip t s e) z = absurd (omega (arith, rw e at z))
  tip_not (none f e) z = e

pub readings : ReadsAll
readings bs =
    record {
      point_exactly = point_when bs (read_way bs);
      point_reads = λ place. (point_read bs, point_found_whole bs);
      point_refused = point_not bs (read_way bs);
      tip_exactly = tip_when bs (tip_way bs);
      tip_reads = λ place n. (tip_read bs, tip_found_whole bs);
      tip_refused = tip_not bs (tip_way bs);
    }
