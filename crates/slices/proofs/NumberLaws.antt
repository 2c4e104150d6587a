-- Which number each call answers and what it leaves: `calls_in`.
-- Assumes nothing.
use mathlib.Core.Path.{◌≡◌, refl, ap, ◌∙◌}
use mathlib.Core.Bool.{true}
use mathlib.Core.List.{List}
use mathlib.Core.Logic.{◌≢◌}
use Prim.Native.Nat.{ℕ, ◌*◌}
use lib.ListN.{length}
use borrow.Author.Tests.{eq-eqb, eqb-true}
use Rattle.base.proofs.Conds.{by_test}
use Rattle.point_log.specs.Log.{slots_of, add_of}
use Rattle.point_log.specs.Besides.Numbers.{number, left}
use Rattle.slices.specs.Parallel.{match, records, hashes_of, find_in, back_in, add_in}
use Rattle.slices.specs.Besides.Numbers.{AllCallsIn}
use Rattle.slices.proofs.RecordLaws.{slots_records, hashes_records, together, hashes_length}
use Rattle.point_log.proofs.NumberLaws.{calls}

module _ (slots hashes : List ℕ) (n : ℕ) (item : List ℕ) where
  add_records : match slots hashes ≡ true
      → let t = add_in slots hashes n item in (t.answer ≡ (add_of (records slots hashes) n item).answer)
      × (records t.slots t.hashes ≡ (add_of (records slots hashes) n item).run) × (match t.slots t.hashes ≡ true)
  unfolding add_in
  add_records e =
      let t = add_of (records slots hashes) n item in
      rw e (refl, together t.run, eq-eqb (length (hashes_of t.run)) (length (slots_of t.run) * 4) (hashes_length t.run))

  add_kept : let t = add_in slots hashes n item in number t.answer ≢ 0 → (t.slots ≡ slots) × (t.hashes ≡ hashes) × (left n t.answer ≡ n)
  unfolding add_in
  add_kept =
      by_test (match slots hashes)
      (λ e.
      let k = ((calls (records slots hashes) n).add_leaves item).kept in
      rw e (λ z.
      let (f, c) = k z in
      (ap slots_of f ∙ slots_records slots hashes, ap hashes_of f ∙ hashes_records slots hashes (eqb-true (length hashes) (length slots * 4) e), c)))
      (λ e. rw e (λ z. (refl, refl, refl)))

pub calls_in : AllCallsIn
unfolding find_in back_in add_in
calls_in slots hashes n =
    record {
      apart = λ e. (λ slot. rw e, λ item. rw e, λ item. rw e);
      together = λ e. (λ slot. rw e, λ item. rw e, λ item. add_records slots hashes n item e);
      kept = λ item. add_kept slots hashes n item;
    }
