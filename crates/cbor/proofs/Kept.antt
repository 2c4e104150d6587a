-- Walks from the start, and walks that are kept: taking up again equals walking from the start (document 02, K5).
-- Assumes nothing.
use Prim.Native.Nat.{ℕ, zero, suc, ◌+◌, ◌-◌, ◌≤◌}
use mathlib.Core.List.{List, [], ◌++◌, append-nil, append_assoc}
use mathlib.Core.Path.{◌≡◌, refl, sym, ap, ap₂, subst, subst⁻¹, ◌∙◌}
use lib.ListN.{drop, replicate}
use native.Mathlib.Omega.{arith}
use Rattle.base.proofs.ListLaws.{zeros}
use Rattle.item.specs.Grammar.{One, Items, no_more, nesting}
use Rattle.item.specs.Verdict.{Stack, nil, push, judge, start, verdict, Verdict}
use Rattle.item.specs.Besides.Verdict.{heads_of}
use Rattle.item.proofs.Derivative.{Rest, then}
use Rattle.item.proofs.Parts.{judge_same}
use Rattle.cbor.specs.declared.Walk.{Walk}
use Rattle.moves.specs.Inside.Levels.{frame_of, tell}
use Rattle.cbor.specs.Inside.Walk.{levels, stack_of, comes, Sound, Resumed, first_at}
use Rattle.moves.proofs.Tell.{pair, tell_one, tell_empty}

pub first_sound : (at d : ℕ) → Sound (first_at at d)
unfolding first_at
first_sound at d =
    record {
      few = omega arith;
      good = record { tall = omega arith; low = λ a b. omega arith; none = λ a. absurd (omega arith) };
      outer = record { kinds_size = refl; counts_size = refl; each = λ i h. rw (zeros (nesting + 1) i) (omega arith) };
    }

-- the levels around a walk that begins want nothing
abbrev empty : ℕ → Stack
empty n = levels (replicate (nesting + 1) 0) (replicate (nesting + 1) 0) n

empty_top : (n : ℕ) → empty (suc n) ≡ push (nesting - n) (Items zero) (empty n)
unfolding levels
empty_top n = ap₂ (λ (i j : ℕ). push (nesting - n) (frame_of i j) (empty n)) (zeros (nesting + 1) n) (zeros (nesting + 1) n)

spent_rest : {d : ℕ} {fs : Stack} {bs : List ℕ} → Rest (push d (Items zero) fs) bs → Rest fs bs
spent_rest (then no_more q) = q

empty_rest : (n : ℕ) (bs : List ℕ) → Rest (empty n) bs → Rest nil bs
unfolding levels
empty_rest zero bs r = r
empty_rest (suc n) bs r = empty_rest n bs (spent_rest (subst (λ (fs : Stack). Rest fs bs) (empty_top n) r))

rest_empty : (n : ℕ) (bs : List ℕ) → Rest nil bs → Rest (empty n) bs
unfolding levels
rest_empty zero bs r = r
rest_empty (suc n) bs r = subst⁻¹ (λ (fs : Stack). Rest fs bs) (empty_top n) (then no_more (rest_empty n bs r))

-- A walk that begins at a place comes to the verdict on the item there.
pub first_verdict : (xs : List ℕ) (at d : ℕ) → d ≤ nesting → (comes xs (first_at at d)).0 ≡ judge (drop at xs) at (start d)
unfolding first_at stack_of
first_verdict xs at d h =
    let z : nesting - (nesting - d) ≡ d = omega arith in
    ap (λ (t : Verdict × ℕ). t.0)
    (tell_empty xs at 0 0 (push (nesting - (nesting - d)) (Items 1) (empty (nesting - d)))
    ∙ ap (λ (n : ℕ). tell xs at 0 (push n (Items 1) (empty (nesting - d)))) z ∙ sym (tell_one xs at 0 d (empty (nesting - d))))
    ∙ judge_same (push d One (empty (nesting - d))) (start d) to back (drop at xs) at
  where
    to : (bs : List ℕ) → Rest (push d One (empty (nesting - d))) bs → Rest (start d) bs
    to bs (then {cs = cs} g r) = then g (empty_rest (nesting - d) cs r)

    back : (bs : List ℕ) → Rest (start d) bs → Rest (push d One (empty (nesting - d))) bs
    back bs (then {cs = cs} g r) = then g (rest_empty (nesting - d) cs r)

-- The walk from the start comes to the verdict and the heads of the whole.
pub first_comes : (xs : List ℕ) → comes xs (first_at 0 nesting) ≡ (verdict xs, heads_of xs)
unfolding first_at stack_of levels
first_comes xs =
    tell_empty xs 0 0 0 (push nesting (Items 1) nil) ∙ sym (tell_one xs 0 0 nesting nil) ∙ pair refl (omega arith)

-- Of a message whose first bytes are xs, the walk w will come to what a walk from the start comes to, whatever bytes
-- come after: it may be kept instead of reading them again (document 02, K5).
abbrev pub Kept : List ℕ → Walk → Type 0
Kept xs w = (ys : List ℕ) → comes (xs ++ ys) w ≡ (verdict (xs ++ ys), heads_of (xs ++ ys))

-- The first walk may be kept; it stays one when it is taken up again, and when bytes come.
pub kept_first : (xs : List ℕ) → Kept xs (first_at 0 nesting)
kept_first xs ys = first_comes (xs ++ ys)

pub kept_resumed : (xs : List ℕ) (w u : Walk) (v : Verdict) → Resumed xs w v u → Kept xs w → Kept xs u
kept_resumed xs w u v r k ys = r.more ys ∙ k ys

pub kept_fed : (xs zs : List ℕ) (w : Walk) → Kept xs w → Kept (xs ++ zs) w
kept_fed xs zs w k ys = rw append_assoc (k (zs ++ ys))

-- And so each time the verdict and the heads are those of a walk from the start.
pub kept_told : (xs : List ℕ) (w u : Walk) (v : Verdict) → Resumed xs w v u → Kept xs w → (v ≡ verdict xs) × (u.heads ≡ heads_of xs)
kept_told xs w u v r k =
    let e : ◌≡◌ {A = Verdict × ℕ} (v, u.heads) (verdict xs, heads_of xs) =
    r.told ∙ subst (λ (l : List ℕ). comes l w ≡ (verdict l, heads_of l)) (append-nil xs) (k []) in
    (ap (λ (t : Verdict × ℕ). t.0) e, ap (λ (t : Verdict × ℕ). t.1) e)

-- The verdict of a walk from its beginning.
pub first_told : (xs : List ℕ) (at d n : ℕ) (v : Verdict) → d ≤ nesting → ◌≡◌ {A = Verdict × ℕ} (v, n) (comes xs (first_at at d))
    → v ≡ judge (drop at xs) at (start d)
first_told xs at d n v h e = ap (λ (t : Verdict × ℕ). t.0) e ∙ first_verdict xs at d h
