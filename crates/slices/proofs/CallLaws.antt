-- What add makes of what is to be put is what its definition says of parallel slices.
-- Assumes nothing.
use mathlib.Core.Path.{◌≡◌}
use mathlib.Core.Bool.{true, false}
use mathlib.Core.List.{List}
use Prim.Native.Nat.{ℕ, ◌+◌, ◌*◌, ◌<◌}
use native.Mathlib.Omega.{arith}
use lib.ListN.{length, set}
use lib.Seq.{sets}
use borrow.Author.Tests.{eqb-true}
use Rattle.std.specs.Prelude.{Ok, Err}
use Rattle.points.specs.declared.Point.{Point}
use Rattle.point_log.specs.declared.Refusal.{Refusal}
use Rattle.point_log.specs.declared.Refusal.TheVariants.{OutOfRange}
use Rattle.point_log.specs.Log.{fit_of, add_of}
use Rattle.point_log.proofs.RecordLaws.{slots_set}
use Rattle.slices.specs.Parallel.{match, words, records, told_in, add_in}
use Rattle.slices.proofs.RecordLaws.{slots_records, length_records, hashes_records, hashes_set}

module _ (s h : List ℕ) (n : ℕ) (item : List ℕ) where
  pub add_apart : match s h ≡ false → told_in (Err OutOfRange) s h ≡ add_in s h n item
  unfolding add_in
  add_apart t = rw t

  pub add_refused : {e : Refusal} → match s h ≡ true → Err e ≡ fit_of (records s h) n item → told_in (Err e) s h ≡ add_in s h n item
  unfolding add_of add_in
  add_refused t f = rw (t, ← f, slots_records s h, hashes_records s h (eqb-true (length h) (length s * 4) t))

  pub add_put : {p : Point} → match s h ≡ true → n < length s → Ok p ≡ fit_of (records s h) n item
      → told_in (Ok (n + 1)) (set s n p.slot) (sets h (n * 4) (words p.hash)) ≡ add_in s h n item
  unfolding add_of add_in
  add_put {p} t l f =
      rw (t, ← f, slots_set (records s h) n p, slots_records s h, hashes_set s h n p (eqb-true (length h) (length s * 4) t) l)

-- there is room for it, and for its words
pub put_fits : (s h : List ℕ) (n : ℕ) → match s h ≡ true → n < length (records s h) → (n < length s) × (length h ≡ length s * 4)
put_fits s h n t l = let e = length_records s h in (omega arith, eqb-true (length h) (length s * 4) t)
