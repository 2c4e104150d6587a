-- Going on with more bytes: by induction over the first part, since the verdict and the heads go byte by byte.
-- Assumes nothing.
use Prim.Native.Nat.{ℕ, suc, ◌+◌}
use mathlib.Core.List.{List, [], ◌∷◌, ◌++◌}
use mathlib.Core.Bool.{Bool, true, false, cond}
use mathlib.Core.Option.{Option, none, some}
use mathlib.Core.Path.{◌≡◌, refl, sym, ap, ◌∙◌}
use native.Mathlib.Omega.{arith}
use lib.ListN.{length}
use Rattle.std.specs.Prelude.{Ok, Err}
use Rattle.item.specs.declared.NotWhole.TheVariants.{Bad, Incomplete}
use Rattle.item.specs.Verdict.{Stack, step, met, onward, judge, Verdict}
use Rattle.item.specs.Besides.Verdict.{tally, counting, heads}
use Rattle.item.specs.Besides.Continue.{moved, stands, GoesOn, Settled}

whole_not : {n : ℕ} → Ok n ≡ Err Incomplete → ⊥
whole_not p = let z : ◌≡◌ {A = ℕ} 0 1 = cc in omega arith

bad_not : {n : ℕ} → ◌≡◌ {A = Verdict} (Err (Bad n)) (Err Incomplete) → ⊥
bad_not p = let z : ◌≡◌ {A = ℕ} 0 1 = cc in omega arith

-- where nothing more is wanted
judge_met : (bs : List ℕ) (at : ℕ) (fs : Stack) → met fs ≡ true → judge bs at fs ≡ Ok at
unfolding judge
judge_met [] at fs p = ap (λ (t : Bool). cond t (Ok at) (Err Incomplete)) p
judge_met (b ∷ bs) at fs p = ap (λ (t : Bool). onward t at (step fs b) (λ gs. judge bs (suc at) gs)) p

heads_met : (bs : List ℕ) (fs : Stack) → met fs ≡ true → heads bs fs ≡ 0
unfolding heads
heads_met [] fs p = refl
heads_met (b ∷ bs) fs p = ap (λ (t : Bool). counting t (tally fs b) (step fs b) (λ gs. heads bs gs)) p

pub goes_on : GoesOn
unfolding judge heads stands
goes_on [] ys at fs p = (ap (λ (n : ℕ). judge ys n fs) (omega arith), omega arith)
goes_on (b ∷ bs) ys at fs p = of (met fs) (step fs b) (λ gs q. goes_on bs ys (suc at) gs q) p
  where
    of : (t : Bool) (n : Option Stack)
        → ((gs : Stack) → judge bs (suc at) gs ≡ Err Incomplete
        → (judge (bs ++ ys) (suc at) gs ≡ judge ys (suc at + length bs) (stands bs gs)) ×
        (heads (bs ++ ys) gs ≡ heads bs gs + heads ys (stands bs gs)))
        → onward t at n (λ gs. judge bs (suc at) gs) ≡ Err Incomplete
        → (onward t at n (λ gs. judge (bs ++ ys) (suc at) gs) ≡ judge ys (at + suc (length bs)) (moved t n fs (λ gs. stands bs gs)))
        ×
        (counting t (tally fs b) n (λ gs. heads (bs ++ ys) gs) ≡ counting t (tally fs b) n (λ gs. heads bs gs) + heads ys (moved t n fs (λ gs. stands bs gs)))
    of true n h q = absurd (whole_not q)
    of false none h q = absurd (bad_not q)
    of false (some gs) h q =
        let r = h gs q in
        (r.0 ∙ ap (λ (n : ℕ). judge ys n (stands bs gs)) (omega arith), omega (arith, r.1))

pub settled : Settled
unfolding judge heads
settled [] ys at fs v p n = of (met fs) refl v p n
  where
    of : (t : Bool) → met fs ≡ t → (v : Verdict) → cond t (Ok at) (Err Incomplete) ≡ v → (v ≡ Err Incomplete → ⊥) → (judge ys at fs ≡ v) × (heads ys fs ≡ 0)
    of true e v q n = (judge_met ys at fs e ∙ q, heads_met ys fs e)
    of false e v q n = absurd (n (sym q))
settled (b ∷ bs) ys at fs v p n = of (met fs) (step fs b) (λ gs q. settled bs ys (suc at) gs v q n) p
  where
    of : (t : Bool) (m : Option Stack)
        → ((gs : Stack) → judge bs (suc at) gs ≡ v → (judge (bs ++ ys) (suc at) gs ≡ v) × (heads (bs ++ ys) gs ≡ heads bs gs))
        → onward t at m (λ gs. judge bs (suc at) gs) ≡ v
        → (onward t at m (λ gs. judge (bs ++ ys) (suc at) gs) ≡ v)
        × (counting t (tally fs b) m (λ gs. heads (bs ++ ys) gs) ≡ counting t (tally fs b) m (λ gs. heads bs gs))
    of true m h q = (q, refl)
    of false none h q = (q, refl)
    of false (some gs) h q = let r = h gs q in (r.0, ap (λ (k : ℕ). tally fs b + k) r.1)
