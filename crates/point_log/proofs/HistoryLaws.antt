-- The content of a log is what the history says: each call on the run is the call on the points, and keeps the range.
-- Assumes nothing.
use mathlib.Core.Path.{◌≡◌, refl, sym, ap, subst, ◌∙◌}
use mathlib.Core.Bool.{Bool, cond}
use mathlib.Core.List.{List, [], ◌∷◌, ◌++◌}
use mathlib.Core.Logic.{◌⊎◌, inl, inr, ◌≢◌}
use Prim.Native.Nat.{ℕ, zero, suc, ◌+◌, ◌-◌, ◌≤◌, ◌<◌}
use native.Mathlib.Omega.{arith}
use native.Mathlib.Nat.{eq-or-lt_of_le}
use native.Mathlib.Numerals.{add-one}
use lib.Dec.{eqb}
use lib.ListN.{length, get_or, set, take, length-set}
use lib.Seq.{get_or-set_same, get_or-set_other, take-suc-set}
use borrow.Author.Tests.{eq-eqb, ne_eqb}
use Rattle.base.proofs.Conds.{by_test}
use Rattle.points.specs.declared.Point.{Point}
use Rattle.points.specs.declared.Place.{Place}
use Rattle.points.specs.declared.Place.TheVariants.{Origin, Block}
use Rattle.points.specs.declared.NotAPoint as points
use Rattle.points.specs.Points.{point_of}
use Rattle.points.specs.Besides.Standing.{point_told}
use Rattle.std.specs.Prelude.{Result, Ok, Err}
use Rattle.point_log.specs.declared.Refusal.{Refusal}
use Rattle.point_log.specs.declared.Refusal.TheVariants.{NotLogged}
use Rattle.point_log.specs.Log.{empty, slots_of, same, count_to, back_of, Told}
use Rattle.point_log.specs.Inside.{Rising}
use Rattle.point_log.specs.Besides.Numbers.{number, left, slot_at, WhenBack, back_out, back_none, not_logged, to_origin, to_block}
use Rattle.point_log.specs.Besides.History.{Call, adds, backs, appended, up_to_point, cut_back, says, Log, answer, after, after_all, history, content, fresh, History}
use Rattle.point_log.proofs.RecordLaws.{slots_at, slots_set}
use Rattle.point_log.proofs.NumberLaws.{same_is, is_same, count_is, counted, refused_not, spelled, back_by, back_when, back_goes, kept_back, Leaves, stays, grows, add_leaves}

-- a log in range
record Good (l : Log) : Type 0 where
  within : l.count ≤ length l.run
  rising : Rising (slots_of l.run) l.count

-- ---- a point more

length_slots : (run : List Point) → length (slots_of run) ≡ length run
length_slots run = lib.ListN.length-map run (λ p. p.slot)

-- its slot is above those of all others
above_all : (run : List Point) (n x : ℕ) → Rising (slots_of run) n → (0 < n → slot_at run (n - 1) < x) → (j : ℕ) → j < n → slot_at run j < x
above_all run n x r up j l = go (eq-or-lt_of_le (let h : j ≤ n - 1 = omega arith in h))
  where
    go : (j ≡ n - 1) ⊎ (j < n - 1) → slot_at run j < x
    go (inl e) = omega (arith, ap (λ (k : ℕ). slot_at run k) e, up (omega arith))
    go (inr m) = omega (arith, r j (n - 1) m (omega arith), up (omega arith))

rising_put : (run : List Point) (n : ℕ) (p : Point) → n < length run → Rising (slots_of run) n → (0 < n → slot_at run (n - 1) < p.slot)
    → Rising (slots_of (set run n p)) (n + 1)
rising_put run n p h r up i j ij jn = rw (slots_set run n p) (go (eq-or-lt_of_le (let m : j ≤ n = omega arith in m)))
  where
    s : List ℕ
    s = slots_of run

    go : (j ≡ n) ⊎ (j < n) → get_or (set (slots_of run) n p.slot) i 0 < get_or (set (slots_of run) n p.slot) j 0
    go (inl e) =
        rw (e, get_or-set_same (slots_of run) n p.slot 0 (omega (arith, length_slots run)), get_or-set_other (slots_of run) n i p.slot 0 (λ f. omega arith))
        (above_all run n p.slot r up i (omega arith))
    go (inr l) =
        rw (get_or-set_other (slots_of run) n i p.slot 0 (λ f. omega arith), get_or-set_other (slots_of run) n j p.slot 0 (λ f. omega arith)) (r i j ij l)

-- ---- cut back to a point

-- the first record that is the point
up_to_lem : (p : Point) (run : List Point) (n k : ℕ) → k < n → k < length run → get_or run k empty ≡ p → ((j : ℕ) → j < k → get_or run j empty ≢ p)
    → up_to_point p (take n run) ≡ take (suc k) run
unfolding up_to_point
up_to_lem p [] n k l h e first = absurd (omega arith)
up_to_lem p (q ∷ run) zero k l h e first = absurd (omega arith)
up_to_lem p (q ∷ run) (suc n) zero l h e first = rw (ap (λ (x : Point). same x p) e ∙ is_same p)
up_to_lem p (q ∷ run) (suc n) (suc k) l h e first =
    by_test (same q p) (λ t. absurd (first 0 (omega arith) (same_is q p t)))
    (λ t. rw t (ap (λ (r : List Point). q ∷ r) (up_to_lem p run n k (omega arith) (omega arith) e (λ j m. first (suc j) (omega arith)))))

-- where the slots rise there is no other
no_other : (run : List Point) (n k : ℕ) (p : Point) → Rising (slots_of run) n → k < n → get_or run k empty ≡ p → (j : ℕ) → j < k → get_or run j empty ≢ p
no_other run n k p r l e j m f =
    let a : slot_at run j ≡ p.slot = slots_at run j ∙ ap (λ (x : Point). x.slot) f in
    let b : slot_at run k ≡ p.slot = slots_at run k ∙ ap (λ (x : Point). x.slot) e in
    absurd (omega (arith, r j k m l))

-- ---- one call

record Stepped (l : Log) (c : Call) (m : Log) : Type 0 where
  says_so : content m ≡ cond (eqb (answer l c) 0) (says c (content l)) (content l)
  good : Good m
  size : length m.run ≡ length l.run

-- a call that was refused
unchanged : (l : Log) (c : Call) → Good l → answer l c ≢ 0 → after l c ≡ l → Stepped l c (after l c)
unchanged l c g z e =
    record {
      says_so = ap content e ∙ sym (ap (λ (t : Bool). cond t (says c (content l)) (content l)) (ne_eqb (answer l c) 0 z));
      good = subst Good (sym e) g;
      size = ap (λ (m : Log). length m.run) e;
    }

step_add : (l : Log) (item : List ℕ) → Good l → Stepped l (adds item) (after l (adds item))
step_add l item g = go (add_leaves l.run l.count item).1
  where
    go : {k : ℕ} → Leaves l.run l.count item k → Stepped l (adds item) (after l (adds item))
    go (stays x e) =
        unchanged l (adds item) g (λ y. refused_not x (rw e at y)) (ap (λ (t : Told). record { run = t.run; count = left l.count t.answer }) e)
    go (grows p s r up h e) =
        let n = l.count in
        let run = l.run in
        let is : after l (adds item) ≡ record { run = set run n p; count = n + 1 } = ap (λ (t : Told). record { run = t.run; count = left l.count t.answer }) e in
        let zero_is : answer l (adds item) ≡ 0 = ap (λ (t : Told). number t.answer) e in
        let place : (point_told (point_of item)).place ≡ Block p = ap (λ (x : Result Place points.NotAPoint). (point_told x).place) (spelled run n item s) in
        let more : take (n + 1) (set run n p) ≡ take n run ++ (p ∷ []) = ap (λ (k : ℕ). take k (set run n p)) (add-one n) ∙ take-suc-set run n p h in
        record {
          says_so =
              ap content is ∙ more ∙ sym (ap (λ (x : Place). appended x (take n run)) place)
              ∙ sym (ap (λ (t : Bool). cond t (says (adds item) (content l)) (content l)) (eq-eqb (answer l (adds item)) 0 zero_is));
          good =
              subst Good (sym is) (record { within = omega (arith, length-set run n p); rising = rising_put run n p h g.rising up });
          size = ap (λ (m : Log). length m.run) is ∙ length-set run n p;
        }

step_back : (l : Log) (item : List ℕ) → Good l → Stepped l (backs item) (after l (backs item))
step_back l item g = go (back_when l.run l.count item).1
  where
    n : ℕ
    n = l.count

    refused : {k : ℕ} → WhenBack l.run l.count item k → k ≢ 0 → Stepped l (backs item) (after l (backs item))
    refused w z =
        unchanged l (backs item) g (λ y. z (sym (back_goes l.run l.count item w) ∙ y))
        (ap (λ (k : ℕ). record { run = l.run; count = k }) (kept_back l.run l.count item w z))

    cut : (place : Place) (k : ℕ) → (point_told (point_of item)).place ≡ place → back_of l.run l.count item ≡ Ok k → k ≤ l.count → take k l.run ≡ cut_back place (content l)
        → Stepped l (backs item) (after l (backs item))
    cut place k at e less same-content =
        let is : after l (backs item) ≡ record { run = l.run; count = k } = ap (λ (d : Result ℕ Refusal). record { run = l.run; count = left l.count d }) e in
        record {
          says_so =
              ap content is ∙ same-content ∙ sym (ap (λ (x : Place). cut_back x (content l)) at)
              ∙ sym (ap (λ (t : Bool). cond t (says (backs item) (content l)) (content l)) (eq-eqb (answer l (backs item)) 0 (ap (number {A = ℕ}) e)));
          good = subst Good (sym is) (record { within = omega (arith, g.within); rising = λ i j a b. g.rising i j a (omega arith) });
          size = ap (λ (m : Log). length m.run) is;
        }

    go : {k : ℕ} → WhenBack l.run l.count item k → Stepped l (backs item) (after l (backs item))
    go (back_out x) = refused (back_out x) (λ z. omega arith)
    go (back_none r x) = refused (back_none r x) (λ z. omega arith)
    go (not_logged r s x) = refused (not_logged r s x) (λ z. omega arith)
    go (to_origin r s) = cut Origin 0 (ap (λ (x : Result Place points.NotAPoint). (point_told x).place) (spelled l.run l.count item s)) (back_by l.run l.count item r s) (omega arith) refl
    go (to_block {p = p} r s w) =
        let c = count_to l.run l.count p in
        let some : c ≢ 0 = counted l.run l.count p w in
        let f : c ≡ suc (c - 1) = omega arith in
        let (h, e) = count_is l.run l.count p (c - 1) f in
        let inside : c - 1 < length l.run = omega (arith, g.within) in
        cut (Block p) c (ap (λ (x : Result Place points.NotAPoint). (point_told x).place) (spelled l.run l.count item s))
        (back_by l.run l.count item r s ∙ ap (λ (t : Bool). cond t (Err NotLogged) (Ok c)) (ne_eqb c 0 some)) (omega arith)
        (ap (λ (k : ℕ). take k l.run) f ∙ sym (up_to_lem p l.run l.count (c - 1) h inside e (no_other l.run l.count (c - 1) p g.rising h e)))

step : (l : Log) (c : Call) → Good l → Stepped l c (after l c)
step l (adds item) g = step_add l item g
step l (backs item) g = step_back l item g

-- ---- and any calls

record Holds (l : Log) (cs : List Call) (ps : List Point) (m : Log) : Type 0 where
  same : content m ≡ history l cs ps
  good : Good m
  size : length m.run ≡ length l.run

holds : (l : Log) (cs : List Call) (ps : List Point) → Good l → content l ≡ ps → Holds l cs ps (after_all l cs)
unfolding after_all history
holds l [] ps g e = record { same = e; good = g; size = refl }
holds l (c ∷ cs) ps g e =
    let s = step l c g in
    let t = holds (after l c) cs (cond (eqb (answer l c) 0) (says c ps) ps) s.good
    (s.says_so ∙ ap (λ (q : List Point). cond (eqb (answer l c) 0) (says c q) q) e) in
    record { same = t.same; good = t.good; size = t.size ∙ s.size }

pub kept : History
kept run cs =
    let h = holds (fresh run) cs [] (record { within = omega arith; rising = λ i j a b. omega arith }) refl in
    record { same = h.same; within = h.good.within; size = h.size; rising = h.good.rising }
