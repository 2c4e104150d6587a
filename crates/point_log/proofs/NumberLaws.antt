-- Which number each call answers and what it leaves: `calls`. The range and the item decide which "when" holds, and each "when" decides the answer.
-- Assumes nothing.
use mathlib.Core.Path.{◌≡◌, refl, sym, ap, subst, ◌∙◌}
use mathlib.Core.Bool.{true, false, true≢false}
use mathlib.Core.List.{List}
use mathlib.Core.Logic.{◌≢◌}
use Prim.Native.Nat.{ℕ, zero, suc, ◌+◌, ◌-◌, ◌≤◌, ◌<◌}
use native.Mathlib.Omega.{arith}
use native.Mathlib.Numerals.{sub-one}
use lib.Dec.{eqb, ltb, leb}
use lib.ListN.{length, get_or, set}
use lib.Seq.{get_or-set_other}
use borrow.Author.Tests.{eq-eqb, ne_eqb, eqb-true, eqb-false, lt-ltb, le-ltb, ltb-true, ltb-false, le-leb, leb-true}
use Rattle.base.proofs.Conds.{by_test, both_true, exactly_when}
use Rattle.points.specs.declared.Hash.{Hash}
use Rattle.points.specs.declared.Point.{Point}
use Rattle.points.specs.declared.Place.{Place}
use Rattle.points.specs.declared.Place.TheVariants.{Origin, Block}
use Rattle.points.specs.Points.{point, refused, point_of}
use Rattle.points.proofs.StandingLaws.{readings, ReadWay, one, none, read_way}
use Rattle.std.specs.Prelude.{Result, Ok, Err}
use Rattle.points.specs.declared.NotAPoint as points
use Rattle.point_log.specs.declared.Refusal.{Refusal}
use Rattle.point_log.specs.declared.Refusal.TheVariants.{OutOfRange, NotAPoint, NotAbove, NotLogged, Full}
use Rattle.point_log.specs.Log.{empty, slots_of, same_hash, same, number_of, in_range, upto_of, at, find_of, count_to, back_to, back_of, Told, told, above, fit_to, fit_of, put_of, add_of}
use Rattle.point_log.specs.Besides.Numbers.{number, left, Spells, NoPoint, slot_at, InRange, Logged, WhenFind, find_outside, find_inside, WhenBack, back_out, back_none, not_logged, to_origin, to_block, WhenAdd, add_out, add_none, the_origin, not_above, full, added, Finds, LeavesAdd, AllCalls}
use Rattle.point_log.proofs.SearchLaws.{rising, rises, upto_within, upto_below, upto_above}

-- ---- the range

is_in_range : (run : List Point) (n : ℕ) → in_range run n ≡ true → InRange run n
is_in_range run n e =
    let p = both_true (leb n (length run)) _ e in record { within = leb-true n (length run) p.0; rising = rising (slots_of run) n p.1 }

range_in_lem : (run : List Point) (n : ℕ) → InRange run n → in_range run n ≡ true
range_in_lem run n r = rw (le-leb n (length run) r.within, rises (slots_of run) n r.rising)

-- not in range
range_out : (run : List Point) (n : ℕ) → (InRange run n → ⊥) → in_range run n ≡ false
range_out run n never = by_test (in_range run n) (λ t. absurd (never (is_in_range run n t))) (λ t. t)

out_range : (run : List Point) (n : ℕ) → in_range run n ≡ false → InRange run n → ⊥
out_range run n e r = true≢false (sym (range_in_lem run n r) ∙ e)

-- ---- refusals

-- a refusal's number is not 0
pub refused_not : (e : Refusal) → number_of e ≢ 0
refused_not OutOfRange z = omega arith
refused_not NotAPoint z = omega arith
refused_not NotAbove z = omega arith
refused_not NotLogged z = omega arith
refused_not Full z = omega arith

-- ---- points that are the same

same_hash_lem : (g h : Hash) → same_hash g h ≡ true → g ≡ h
same_hash_lem g h e =
    let (a, r) = both_true (eqb g.a h.a) _ e in
    let (b, s) = both_true (eqb g.b h.b) _ r in
    let (c, d) = both_true (eqb g.c h.c) _ s in
    let ea : g.a ≡ h.a = eqb-true g.a h.a a in
    let eb : g.b ≡ h.b = eqb-true g.b h.b b in
    let ec : g.c ≡ h.c = eqb-true g.c h.c c in
    let ed : g.d ≡ h.d = eqb-true g.d h.d d in
    let of : ℕ → ℕ → ℕ → ℕ → Hash = λ w x y z. record { a = w; b = x; c = y; d = z } in
    ap (λ (w : ℕ). of w g.b g.c g.d) ea ∙ ap (λ (x : ℕ). of h.a x g.c g.d) eb ∙ ap (λ (y : ℕ). of h.a h.b y g.d) ec ∙ ap (of h.a h.b h.c) ed

pub same_is : (p q : Point) → same p q ≡ true → p ≡ q
same_is p q e =
    let (s, h) = both_true (eqb p.slot q.slot) _ e in
    let es : p.slot ≡ q.slot = eqb-true p.slot q.slot s in
    let eh : p.hash ≡ q.hash = same_hash_lem p.hash q.hash h in
    ap (λ (x : ℕ). point x p.hash) es ∙ ap (point q.slot) eh

pub is_same : (p : Point) → same p p ≡ true
is_same p =
    rw (eq-eqb p.slot p.slot refl, eq-eqb p.hash.a p.hash.a refl, eq-eqb p.hash.b p.hash.b refl, eq-eqb p.hash.c p.hash.c refl, eq-eqb p.hash.d p.hash.d refl)

-- how many records there are up to a point: 0, or it is the last of them
pub count_is : (run : List Point) (n : ℕ) (p : Point) (k : ℕ) → count_to run n p ≡ suc k → (k < n) × (get_or run k empty ≡ p)
unfolding count_to
count_is run zero p k e = absurd (omega arith)
count_is run (suc n) p k e =
    by_test (same (get_or run n empty) p)
    (λ t.
    let f : suc n ≡ suc k = rw t at e in
    let g : n ≡ k = omega arith in
    (omega arith, subst (λ (j : ℕ). get_or run j empty ≡ p) g (same_is (get_or run n empty) p t)))
    (λ t. let (l, f) = count_is run n p k (rw t at e) in (omega arith, f))

pub counted : (run : List Point) (n : ℕ) (p : Point) → Logged run n p → count_to run n p ≢ 0
unfolding count_to
counted run zero p l e = absurd (omega (arith, l.inside))
counted run (suc n) p l e =
    by_test (same (get_or run n empty) p) (λ t. let z : suc n ≡ 0 = rw t at e in absurd (omega arith))
    (λ t.
    let less : l.i ≢ n = λ f. true≢false (sym (ap (λ (j : ℕ). same (get_or run j empty) p) (sym f) ∙ ap (λ (q : Point). same q p) l.is ∙ is_same p) ∙ t) in
    let h = l.inside in
    counted run n p (record { i = l.i; inside = omega arith; is = l.is }) (rw t at e))

-- ---- find

module _ (run : List Point) (n : ℕ) where
  find_ok : (slot : ℕ) → InRange run n → find_of run n slot ≡ Ok (at run (upto_of (slots_of run) n slot))
  unfolding find_of
  find_ok slot r = rw (range_in_lem run n r)

  find_out_of : (slot : ℕ) → (InRange run n → ⊥) → find_of run n slot ≡ Err OutOfRange
  unfolding find_of
  find_out_of slot never = rw (range_out run n never)

  find_goes : (slot : ℕ) {k : ℕ} → WhenFind run n k → number (find_of run n slot) ≡ k
  find_goes slot (find_outside never) = rw (find_out_of slot never)
  find_goes slot (find_inside r) = rw (find_ok slot r)

  find_when : (k : ℕ) × WhenFind run n k
  find_when = by_test (in_range run n) (λ t. (0, find_inside (is_in_range run n t))) (λ t. (23, find_outside (out_range run n t)))

  finds_last : (slot : ℕ) → InRange run n → Finds run n slot (at run (upto_of (slots_of run) n slot))
  finds_last slot r =
      record {
        inside = upto_within (slots_of run) n slot;
        place = refl;
        below = λ l. let k = upto_of (slots_of run) n slot in upto_below (slots_of run) n slot (k - 1) (omega arith);
        above = λ l. upto_above (slots_of run) n slot l r.rising;
      }

-- ---- back

module _ (run : List Point) (n : ℕ) (item : List ℕ) where
  pub spelled : {place : Place} → Spells item place → point_of item ≡ Ok place
  spelled {place} s = ((readings item).point_reads place).1 s

  back_out_of : (InRange run n → ⊥) → back_of run n item ≡ Err OutOfRange
  unfolding back_of
  back_out_of never = rw (range_out run n never)

  back_bad : InRange run n → point_of item ≡ Err refused → back_of run n item ≡ Err NotAPoint
  unfolding back_of
  back_bad r e = rw (range_in_lem run n r, e)

  pub back_by : {place : Place} → InRange run n → Spells item place → back_of run n item ≡ back_to run n place
  unfolding back_of
  back_by r s = rw (range_in_lem run n r, spelled s)

  no_point : NoPoint item → point_of item ≡ Err refused
  no_point never = go (read_way item)
    where
      go : ReadWay item → point_of item ≡ Err refused
      go (one place s e) = absurd (never place s)
      go (none f e) = e

  pub back_goes : {k : ℕ} → WhenBack run n item k → number (back_of run n item) ≡ k
  back_goes (back_out never) = ap (number {A = ℕ}) (back_out_of never)
  back_goes (back_none r never) = ap (number {A = ℕ}) (back_bad r (no_point never))
  back_goes (not_logged {p = p} r s never) =
      ap (number {A = ℕ}) (back_by r s) ∙ by_test (eqb (count_to run n p) 0) (λ t. rw t)
      (λ t.
      let some = eqb-false (count_to run n p) 0 t in
      let (l, e) = count_is run n p (count_to run n p - 1) (omega arith) in
      absurd (never (record { i = count_to run n p - 1; inside = l; is = e })))
  back_goes (to_origin r s) = ap (number {A = ℕ}) (back_by r s)
  back_goes (to_block {p = p} r s l) = ap (number {A = ℕ}) (back_by r s) ∙ rw (ne_eqb (count_to run n p) 0 (counted run n p l))

  abbrev pub SomeBack : Type 0
  SomeBack = (k : ℕ) × WhenBack run n item k

  back_some : InRange run n → (place : Place) → Spells item place → SomeBack
  back_some r Origin s = (0, to_origin r s)
  back_some r (Block p) s =
      by_test (eqb (count_to run n p) 0) (λ t. (31, not_logged r s (λ l. counted run n p l (eqb-true (count_to run n p) 0 t))))
      (λ t.
      let some = eqb-false (count_to run n p) 0 t in
      let (l, e) = count_is run n p (count_to run n p - 1) (omega arith) in
      (0, to_block r s (record { i = count_to run n p - 1; inside = l; is = e })))

  back_read : InRange run n → ReadWay item → SomeBack
  back_read r (one place s e) = back_some r place s
  back_read r (none never e) = (29, back_none r never)

  pub back_when : SomeBack
  back_when = by_test (in_range run n) (λ t. back_read (is_in_range run n t) (read_way item)) (λ t. (23, back_out (out_range run n t)))

  -- what it leaves, by the way it goes
  pub kept_back : {k : ℕ} → WhenBack run n item k → k ≢ 0 → left n (back_of run n item) ≡ n
  kept_back (back_out never) z = ap (left n) (back_out_of never)
  kept_back (back_none r never) z = ap (left n) (back_bad r (no_point never))
  kept_back (not_logged {p = p} r s never) z =
      ap (left n) (back_by r s) ∙ by_test (eqb (count_to run n p) 0) (λ t. rw t)
      (λ t.
      let some = eqb-false (count_to run n p) 0 t in
      let (l, e) = count_is run n p (count_to run n p - 1) (omega arith) in
      absurd (never (record { i = count_to run n p - 1; inside = l; is = e })))
  kept_back (to_origin r s) z = absurd (z refl)
  kept_back (to_block r s l) z = absurd (z refl)

  ranged_back : {k : ℕ} → WhenBack run n item k → k ≡ 0 → InRange run n
  ranged_back (back_out never) z = absurd (omega arith)
  ranged_back (back_none r never) z = r
  ranged_back (not_logged r s never) z = r
  ranged_back (to_origin r s) z = r
  ranged_back (to_block r s l) z = r

  back_cut : (p : Point) → InRange run n → Spells item (Block p) → number (back_of run n item) ≡ 0
      → (0 < left n (back_of run n item)) × (left n (back_of run n item) ≤ n) × (get_or run (left n (back_of run n item) - 1) empty ≡ p)
  back_cut p r s z =
      by_test (eqb (count_to run n p) 0)
      (λ t. let e : back_of run n item ≡ Err NotLogged = back_by r s ∙ rw t in absurd (omega (arith, ap (number {A = ℕ}) e)))
      (λ t.
      let e : back_of run n item ≡ Ok (count_to run n p) = back_by r s ∙ rw t in
      let some = eqb-false (count_to run n p) 0 t in
      let (l, is) = count_is run n p (count_to run n p - 1) (omega arith) in
      rw e (omega arith, omega arith, is))

-- ---- add

module _ (run : List Point) (n : ℕ) (item : List ℕ) where
  add_out_of : (InRange run n → ⊥) → add_of run n item ≡ told (Err OutOfRange) run
  unfolding fit_of add_of
  add_out_of never = rw (range_out run n never)

  add_bad : InRange run n → point_of item ≡ Err refused → add_of run n item ≡ told (Err NotAPoint) run
  unfolding fit_of add_of
  add_bad r e = rw (range_in_lem run n r, e)

  add_by : {place : Place} → InRange run n → Spells item place → add_of run n item ≡ put_of run n (fit_to run n place)
  unfolding fit_of add_of
  add_by r s = rw (range_in_lem run n r, spelled run n item s)

  -- above the last
  above_is : (x : ℕ) → above (slots_of run) n x ≡ true → 0 < n → slot_at run (n - 1) < x
  unfolding above
  above_is x e l = go n e l
    where
      go : (m : ℕ) → above (slots_of run) m x ≡ true → 0 < m → slot_at run (m - 1) < x
      go zero f h = absurd (omega arith)
      go (suc m) f h = rw (sub-one (suc m)) (ltb-true (slot_at run m) x f)

  is_above : (x : ℕ) → (0 < n → slot_at run (n - 1) < x) → above (slots_of run) n x ≡ true
  unfolding above
  is_above x f = go n f
    where
      go : (m : ℕ) → (0 < m → slot_at run (m - 1) < x) → above (slots_of run) m x ≡ true
      go zero g = refl
      go (suc m) g = let h : slot_at run m < x = rw (sub-one (suc m)) at (g (omega arith)) in lt-ltb (slot_at run m) x h

  not_above_is : (x : ℕ) → above (slots_of run) n x ≡ false → (0 < n) × (x ≤ slot_at run (n - 1))
  unfolding above
  not_above_is x e = go n e
    where
      go : (m : ℕ) → above (slots_of run) m x ≡ false → (0 < m) × (x ≤ slot_at run (m - 1))
      go zero f = absurd (true≢false f)
      go (suc m) f = (omega arith, rw (sub-one (suc m)) (ltb-false (slot_at run m) x f))

  add_not : {p : Point} → InRange run n → Spells item (Block p) → 0 < n → p.slot ≤ slot_at run (n - 1) → add_of run n item ≡ told (Err NotAbove) run
  add_not {p} r s l h =
      add_by r s ∙ by_test (above (slots_of run) n p.slot) (λ t. let g = above_is p.slot t l in absurd (omega arith)) (λ t. rw t)

  add_full : {p : Point} → InRange run n → Spells item (Block p) → (0 < n → slot_at run (n - 1) < p.slot) → length run ≤ n → add_of run n item ≡ told (Err Full) run
  add_full {p} r s up h = add_by r s ∙ rw (is_above p.slot up, le-ltb n (length run) h)

  add_ok : {p : Point} → InRange run n → Spells item (Block p) → (0 < n → slot_at run (n - 1) < p.slot) → n < length run
      → add_of run n item ≡ told (Ok (n + 1)) (set run n p)
  add_ok {p} r s up h = add_by r s ∙ rw (is_above p.slot up, lt-ltb n (length run) h)

  -- each "when", and what it leaves: nothing has changed, or the point is the last
  pub data Leaves : ℕ → Type 0 where
    stays : (e : Refusal) → add_of run n item ≡ told (Err e) run → Leaves (number_of e)
    grows : (p : Point) → Spells item (Block p) → InRange run n → (0 < n → slot_at run (n - 1) < p.slot) → n < length run
        → add_of run n item ≡ told (Ok (n + 1)) (set run n p) → Leaves 0

  add_way : {k : ℕ} → WhenAdd run n item k → Leaves k
  add_way (add_out never) = stays OutOfRange (add_out_of never)
  add_way (add_none r never) = stays NotAPoint (add_bad r (no_point run n item never))
  add_way (the_origin r s) = stays NotAbove (add_by r s)
  add_way (not_above r s l h) = stays NotAbove (add_not r s l h)
  add_way (full r s up e) = stays Full (add_full r s up (omega arith))
  add_way (added {p = p} r s up l) = grows p s r up l (add_ok r s up l)

  add_goes : {k : ℕ} → WhenAdd run n item k → number (add_of run n item).answer ≡ k
  add_goes w = go (add_way w)
    where
      go : {k : ℕ} → Leaves k → number (add_of run n item).answer ≡ k
      go (stays x e) = rw e
      go (grows p s r up l e) = rw e

  abbrev SomeAdd : Type 0
  SomeAdd = (k : ℕ) × WhenAdd run n item k

  add_some : InRange run n → (place : Place) → Spells item place → SomeAdd
  add_some r Origin s = (30, the_origin r s)
  add_some r (Block p) s =
      by_test (above (slots_of run) n p.slot)
      (λ t.
      let up = above_is p.slot t in
      by_test (ltb n (length run)) (λ w. (0, added r s up (ltb-true n (length run) w)))
      (λ w. let h = ltb-false n (length run) w in let g = r.within in (32, full r s up (omega arith))))
      (λ t. let (l, h) = not_above_is p.slot t in (30, not_above r s l h))

  add_read : InRange run n → ReadWay item → SomeAdd
  add_read r (one place s e) = add_some r place s
  add_read r (none never e) = (29, add_none r never)

  add_when : SomeAdd
  add_when = by_test (in_range run n) (λ t. add_read (is_in_range run n t) (read_way item)) (λ t. (23, add_out (out_range run n t)))

  pub add_leaves : (k : ℕ) × Leaves k
  add_leaves = let (k, w) = add_when in (k, add_way w)

  leaves_by : {k : ℕ} → Leaves k → LeavesAdd run n item (add_of run n item)
  leaves_by (stays x e) =
      record {
        kept = λ y. rw e (refl, refl);
        put = λ y p s. absurd (refused_not x (rw e at y));
        others = λ j d. rw e;
      }
  leaves_by (grows p s r up l e) =
      record {
        kept = λ y. absurd (y (rw e));
        put = λ y q w. let f : ◌≡◌ {A = Result Place points.NotAPoint} (Ok (Block p)) (Ok (Block q)) = sym (spelled run n item s) ∙ spelled run n item w in let g : p ≡ q = cc in e ∙ ap (λ (x : Point). told (Ok (n + 1)) (set run n x)) g;
        others = λ j d. ap (λ (t : Told). get_or t.run j empty) e ∙ get_or-set_other run n j p empty d;
      }

pub calls : AllCalls
calls run n =
    record {
      find_exactly = λ slot k. let (m, w) = find_when run n in exactly_when (WhenFind run n) (find_goes run n slot w) w (find_goes run n slot);
      find_lost = λ slot e. by_test (in_range run n)
          (λ t. absurd (omega (arith, rw (find_ok run n slot (is_in_range run n t)) at e)))
          (λ t. let f = find_out_of run n slot (out_range run n t) in (f, rw f));
      find_finds = λ slot e. by_test (in_range run n)
          (λ t. let r = is_in_range run n t in rw (find_ok run n slot r) (finds_last run n slot r))
          (λ t. absurd (omega (arith, rw (find_out_of run n slot (out_range run n t)) at e)));
      back_exactly = λ item k. let (m, w) = back_when run n item in exactly_when (WhenBack run n item) (back_goes run n item w) w (back_goes run n item);
      back_leaves = λ item.
          let (m, w) = back_when run n item in
          let is = back_goes run n item w in
          record {
            kept = λ z. kept_back run n item w (λ y. z (is ∙ y));
            emptied = λ z s. ap (left n) (back_by run n item (ranged_back run n item w (sym is ∙ z)) s);
            cut = λ z p s. back_cut run n item p (ranged_back run n item w (sym is ∙ z)) s z;
          };
      add_exactly = λ item k. let (m, w) = add_when run n item in exactly_when (WhenAdd run n item) (add_goes run n item w) w (add_goes run n item);
      add_leaves = λ item. leaves_by run n item (add_leaves run n item).1;
    }
