-- What the calls make of what was found is what their definitions say.
-- Assumes nothing.
use mathlib.Core.Path.{◌≡◌, refl, sym, ap, ◌∙◌}
use mathlib.Core.Bool.{Bool, true, false, cond, ◌&&◌}
use mathlib.Core.List.{List}
use mathlib.Core.Logic.{◌≢◌}
use Prim.Native.Nat.{ℕ, zero, suc, ◌≤◌, ◌<◌}
use native.Mathlib.Omega.{arith}
use lib.Dec.{eqb, leb}
use lib.ListN.{length, get_or}
use borrow.Author.Tests.{ne_eqb, eqb-true, le-leb, leb-true}
use Rattle.std.specs.Prelude.{Ok, Err}
use Rattle.base.proofs.Conds.{by_test, both_true}
use Rattle.points.specs.declared.Point.{Point}
use Rattle.points.specs.declared.Place.{Place}
use Rattle.points.specs.declared.Place.TheVariants.{Origin, Block}
use Rattle.point_log.specs.declared.Refusal.TheVariants.{NotLogged}
use Rattle.point_log.specs.declared.Found.{Found}
use Rattle.point_log.specs.Log.{empty, slots_of, same, in_range, upto_of, place_at, at, count_to, back_to}
use Rattle.point_log.specs.Inside.{Rising, Between}
use Rattle.point_log.proofs.SearchLaws.{rising, upto_is}
use Rattle.point_log.proofs.RecordLaws.{slots_at}

-- the count is within the records, and the search of slots that rise finds the last at or below
pub ranged_within : (run : List Point) (n : ℕ) → in_range run n ≡ true → n ≤ length run
ranged_within run n e = leb-true n (length run) (both_true (leb n (length run)) _ e).0

pub ranged_rising : (run : List Point) (n : ℕ) → in_range run n ≡ true → Rising (slots_of run) n
ranged_rising run n e = rising (slots_of run) n (both_true (leb n (length run)) _ e).1

pub found_is : (run : List Point) (n : ℕ) {x k : ℕ} → in_range run n ≡ true → Between (slots_of run) n x k k → k ≡ upto_of (slots_of run) n x
found_is run n e b = upto_is b (ranged_rising run n e)

-- ---- back

-- whether a place is the block of a point
abbrev pub is_block : Place → Point → Bool
is_block Origin p = false
is_block (Block q) p = same q p

-- a point whose slot no record has is not logged
not_logged : (run : List Point) (n : ℕ) (p : Point) → ((j : ℕ) → j < n → get_or (slots_of run) j 0 ≢ p.slot) → count_to run n p ≡ 0
unfolding count_to
not_logged run zero p none = refl
not_logged run (suc n) p none =
    by_test (same (get_or run n empty) p)
    (λ t. absurd (none n (omega arith) (slots_at run n ∙ eqb-true _ _ (both_true (eqb (get_or run n empty).slot p.slot) _ t).0)))
    (λ t. rw t (not_logged run n p (λ j l. none j (omega arith))))

-- so only the last at or below its slot can be the point
pub count_by : (run : List Point) (n : ℕ) (p : Point) → Rising (slots_of run) n
    → let k = upto_of (slots_of run) n p.slot in count_to run n p ≡ cond (is_block (place_at run k) p) k 0
unfolding count_to upto_of
count_by run zero p r = refl
count_by run (suc n) p r =
    let s = slots_of run in
    let x = p.slot in
    let less : Rising s n = λ i j a b. r i j a (omega arith) in
    by_test (same (get_or run n empty) p)
    (λ t.
    let e : get_or s n 0 ≡ x = slots_at run n ∙ eqb-true _ _ (both_true (eqb (get_or run n empty).slot x) _ t).0 in
    rw (le-leb (get_or s n 0) x (omega arith), t))
    (λ t.
    by_test (leb (get_or s n 0) x)
    (λ w.
    let h : get_or s n 0 ≤ x = leb-true (get_or s n 0) x w in
    rw (w, t, not_logged run n p (λ j l e. let q = r j n l (omega arith) in omega arith)))
    (λ w. rw (w, t) (count_by run n p less)))

module _ (run : List Point) (n : ℕ) (p : Point) {f : Found} (r : in_range run n ≡ true) (e : f ≡ at run (upto_of (slots_of run) n p.slot)) where
  counted_by : count_to run n p ≡ cond (is_block f.place p) f.upto 0
  counted_by = rw e (count_by run n p (ranged_rising run n r))

  pub cut_found : is_block f.place p ≡ true → Ok f.upto ≡ back_to run n (Block p)
  cut_found t =
      let c : count_to run n p ≡ f.upto = counted_by ∙ rw t in
      rw (c, ne_eqb f.upto 0 (some f.upto (sym (ap (λ (q : Found). is_block q.place p) (e ∙ ap (at run) (ap (λ (q : Found). q.upto) (sym e)))) ∙ t)))
    where
      some : (k : ℕ) → is_block (place_at run k) p ≡ true → k ≢ 0
      some zero t e = mathlib.Core.Bool.false≢true t
      some (suc k) t e = absurd (omega arith)

  pub cut_not : is_block f.place p ≡ false → Err NotLogged ≡ back_to run n (Block p)
  cut_not t = let c : count_to run n p ≡ 0 = counted_by ∙ rw t in rw c
