-- Whole headers: what a run means goes byte by byte, and feed settles a header whose eight bytes are there in one step.
-- So bytes that make the header record whole lead, one after the other, to the reception that the whole record leads to.
-- Assumes nothing.
use mathlib.Core.Path.{◌≡◌, refl, ap, ◌∙◌}
use mathlib.Core.Bool.{true}
use mathlib.Core.List.{List, [], ◌∷◌, ◌++◌}
use Prim.Native.Nat.{ℕ, suc, ◌+◌, ◌≤◌, ◌<◌}
use native.Mathlib.Omega.{arith}
use borrow.Author.Tests.{le-leb, lt-leb}
use lib.ListN.{length}
use Rattle.ring.specs.Ring.{run}
use Rattle.ring.proofs.Runs.{run_length}
use Rattle.wire.specs.declared.segment.Header.{Header}
use Rattle.wire.specs.declared.instances.Party.{Party}
use Rattle.wire.specs.Segments.{header_length, empty, added}
use Rattle.connection.specs.declared.Gate.TheVariants.{Open}
use Rattle.connection.specs.Closings.{is_open}
use Rattle.admitting.specs.Admitting.{Admission}
use Rattle.admitting.specs.declared.Way.{Way}
use Rattle.admitting.specs.declared.Step.{Step}
use Rattle.feeding.specs.Feeding.{Reception, admission, with_header, settled, headed, step, fed, used}
use Rattle.admitting.specs.Inside.{reception, filled, header_at, Settles}
use Rattle.admitting.proofs.HeaderLaws.{filled_whole, settled_anew, added_count}
use Rattle.feeding.specs.Inside.{Sound, Steps}
use Rattle.feeding.proofs.Bytes.{step_headed, sound_admission, steps_run}

-- ---- the bytes of a header

module _ (us : Party) (caps : List ℕ) where
  -- bytes that make the record whole, fed one after the other
  fed_filled : (s : Reception) (xs ys : List ℕ) → is_open s.gate ≡ true → s.receiving.rest ≡ 0 → 0 < length xs
      → s.receiving.header.count + length xs ≡ header_length
      → let n = settled s (admission us caps s.receiving.held (filled s.receiving.header xs)) in
      (fed us caps s (xs ++ ys) ≡ fed us caps n ys) × (used us caps s (xs ++ ys) ≡ length xs + used us caps n ys)
  unfolding fed used filled headed
  fed_filled s [] ys g z more l = absurd (omega arith)
  fed_filled s (x ∷ []) ys g z more l =
      let h : Header = added s.receiving.header x in
      let n : Reception = settled s (admission us caps s.receiving.held h) in
      let c : h.count ≡ suc s.receiving.header.count = added_count s.receiving.header x (omega arith) in
      let one : step us caps s x ≡ n = step_headed us caps s x g z ∙ rw (le-leb header_length h.count (omega arith)) in
      (ap (λ (t : Reception). fed us caps t ys) one, rw (g, one) (omega arith))
  fed_filled s (x ∷ y ∷ xs) ys g z more l =
      let h : Header = added s.receiving.header x in
      let m : Reception = record { receiving = with_header s.receiving h; gate = s.gate; store = s.store } in
      let a : Admission = admission us caps s.receiving.held (filled h (y ∷ xs)) in
      let c : h.count ≡ suc s.receiving.header.count = added_count s.receiving.header x (omega arith) in
      let one : step us caps s x ≡ m = step_headed us caps s x g z ∙ rw (lt-leb header_length h.count (omega arith)) in
      let rest = fed_filled m (y ∷ xs) ys g z (omega arith) (omega arith) in
      let same : settled m a ≡ settled s a = settled_anew s h a in
      let after : used us caps (settled m a) ys ≡ used us caps (settled s a) ys = ap (λ (t : Reception). used us caps t ys) same in (
        ap (λ (t : Reception). fed us caps t (y ∷ xs ++ ys)) one ∙ rest.0 ∙ ap (λ (t : Reception). fed us caps t ys) same,
        rw (g, one) (omega (arith, rest.1, after)),
      )

-- ---- a step of feed's loop

pub steps_whole : {us : Party} {caps starts held : List ℕ} {w : Way} {store xs : List ℕ} {at : ℕ} {t : Step}
    → Sound us.bundle caps (reception starts held w Open store)
    → at + header_length ≤ length xs → w.rest ≡ 0 → w.header.count ≡ 0 → length w.header.bytes ≡ header_length
    → Settles w (admission us caps held (header_at xs at)) header_length t
    → Steps us caps starts held held w store store xs at t
steps_whole {us} {caps} {starts} {held} {w} {store} {xs} {at} r h z none wide k =
    let s : Reception = reception starts held w Open store in
    let p : List ℕ = run xs at header_length in
    let long : length p ≡ header_length = run_length xs at header_length h in
    let all : filled w.header p ≡ filled empty p = filled_whole w.header p none wide long in
    steps_run {w = w} r (settled s (admission us caps held (header_at xs at)))
    (omega (arith, k.uses))
    (omega (arith, k.uses))
    (k.leaves starts held store)
    (sound_admission us caps s (header_at xs at) r)
    (λ ys. rw (k.uses, ← all) (fed_filled us caps s p ys refl z (omega arith) (omega arith)))
