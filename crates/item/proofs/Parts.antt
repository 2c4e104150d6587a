-- Laws for what reads the parts of an item: an item at a place, within a nesting.
-- Assumes nothing.
use Prim.Native.Nat.{ℕ, ◌+◌, ◌-◌, ◌≤◌}
use mathlib.Core.List.{List, [], ◌++◌}
use mathlib.Core.Path.{◌≡◌, sym, ap, subst, subst⁻¹, ◌∙◌}
use native.Mathlib.Omega.{arith}
use lib.ListN.{length, take, drop, length-append, length-drop, take-append-drop}
use lib.Seq.{drop-drop, take_at}
use Rattle.std.specs.Prelude.{Ok, Err}
use Rattle.item.specs.declared.NotWhole.TheVariants.{Bad, Incomplete}
use Rattle.item.specs.Grammar.{Frame, Reads}
use Rattle.item.specs.Verdict.{Stack, nil, push, judge, Verdict}
use Rattle.item.proofs.Derivative.{Rest, done, then}
use Rattle.item.proofs.Exact.{Exact, exact, only}
use Rattle.item.proofs.Local.{Cuts, longer, cuts}

-- Two stacks that want the same bytes come to the same verdict.
exact_map : (S T : Stack) → ((bs : List ℕ) → Rest S bs → Rest T bs) → ((bs : List ℕ) → Rest T bs → Rest S bs)
    → (bs : List ℕ) (at : ℕ) (v : Verdict) → Exact S bs at v → Exact T bs at v
exact_map S T f g bs at (Ok n) (m, e, l, r) = (m, e, l, f _ r)
exact_map S T f g bs at (Err (Bad n)) (m, e, l, (b, cs, r, o), no_item) = (m, e, l, (b, cs, f _ r, o), λ es q. no_item es (g _ q))
exact_map S T f g bs at (Err Incomplete) (b, cs, r, o) = (b, cs, f _ r, o)

pub judge_same : (S T : Stack) → ((bs : List ℕ) → Rest S bs → Rest T bs) → ((bs : List ℕ) → Rest T bs → Rest S bs)
    → (bs : List ℕ) (at : ℕ) → judge bs at S ≡ judge bs at T
judge_same S T f g bs at = sym (only bs at T (judge bs at S) (exact_map S T f g bs at (judge bs at S) (exact bs at S)))

-- What is wanted at the place p reaches to q if and only if the grammar reads it so.
rest_of : {d : ℕ} {f : Frame} {bs : List ℕ} → Rest (push d f nil) bs → Reads d f bs []
rest_of (then g done) = g

pub whole_reads : (xs : List ℕ) (p q d : ℕ) (f : Frame) → judge (drop p xs) p (push d f nil) ≡ Ok q → Reads d f (drop p xs) (drop q xs)
whole_reads xs p q d f e = of (subst (Exact (push d f nil) (drop p xs) p) e (exact (drop p xs) p (push d f nil)))
  where
    of : Exact (push d f nil) (drop p xs) p (Ok q) → Reads d f (drop p xs) (drop q xs)
    of (m, k, l, r) =
        let c : drop q xs ≡ drop m (drop p xs) = ap (λ (n : ℕ). drop n xs) k ∙ sym (drop-drop m p xs) in
        subst (λ (bs : List ℕ). Reads d f bs (drop q xs)) (ap (λ (cs : List ℕ). take m (drop p xs) ++ cs) c ∙ take-append-drop m (drop p xs))
        (longer (drop q xs) (rest_of r))

-- such a place is not before p, nor after the end
pub whole_place : (xs : List ℕ) (p q d : ℕ) (f : Frame) → judge (drop p xs) p (push d f nil) ≡ Ok q → (p ≤ q) × (q ≤ p + length (drop p xs))
whole_place xs p q d f e = of (subst (Exact (push d f nil) (drop p xs) p) e (exact (drop p xs) p (push d f nil)))
  where
    of : Exact (push d f nil) (drop p xs) p (Ok q) → (p ≤ q) × (q ≤ p + length (drop p xs))
    of (m, k, l, r) = (omega arith, omega arith)

pub reads_whole : (xs : List ℕ) (p q d : ℕ) (f : Frame) → p ≤ q → q ≤ length xs → Reads d f (drop p xs) (drop q xs)
    → judge (drop p xs) p (push d f nil) ≡ Ok q
reads_whole xs p q d f h k g = of (cuts g)
  where
    of : Cuts d f (drop p xs) (drop q xs) → judge (drop p xs) p (push d f nil) ≡ Ok q
    of (a, e, r) =
        let l : length a ≡ q - p = omega (arith, ap length e ∙ length-append a (drop q xs), length-drop p xs, length-drop q xs) in
        let t : take (q - p) (drop p xs) ≡ a = ap (take (q - p)) e ∙ take_at a (drop q xs) (q - p) l in
        only (drop p xs) p (push d f nil) (Ok q)
        (q - p, omega arith, omega (arith, length-drop p xs), then (subst⁻¹ (λ (b : List ℕ). Reads d f b []) t r) done)
