-- `feeding::Intake::steps` meets its contract: each step leads to a reception from which what is left leaves the same.
use mathlib.Core.Path.{refl, sym, ◌∙◌}
use Prim.Native.Nat.{zero-le}
use native.Mathlib.Omega.{arith}
use native.Mathlib.Nat.{zero-add}
use Rattle.feeding.proofs.Bytes.{run_more, run_shut, run_end}
use borrow.Author.Rules.{rules}
use Rattle.feeding.proofs.Intake.steps.Goals as goal

pub loop-at-init : goal.loop-at-init
loop-at-init c = record { ends = zero-le; long = refl; sound = c.requires; leaves = refl; counts = sym (zero-add _) }

pub part-t-requires : goal.part-t-requires
part-t-requires c = record { sound = c.loop-at.invariant.sound; at_in_bounds = search rules }

pub overflow_add-at : goal.overflow_add-at
overflow_add-at c =
    let p = c in
    omega (arith, p.part-t.ensures.ends)

pub shape_of-store-then-not-is_open : goal.shape_of-store-then-not-is_open
shape_of-store-then-not-is_open c =
    let p = c in
    p.part-t.auto.store ∙ p.loop-at.invariant.long

pub returns-then-not-is_open : goal.returns-then-not-is_open
returns-then-not-is_open c =
    let p = c in
    let q = run_shut p.loop-at.invariant p.part-t.ensures (sym c.is_open.ensures ∙ c.if-not-is_open.true) in
    record { store_after = q.0; used_value = q.1 }

pub loop-at-smaller : goal.loop-at-smaller
loop-at-smaller c =
    let p = c in
    omega (arith, p.part-t.ensures.some, p.part-t.ensures.ends)

pub loop-at-preserved : goal.loop-at-preserved
loop-at-preserved c =
    let p = c in
    run_more p.loop-at.invariant p.part-t.ensures (sym c.is_open.ensures ∙ c.if-not-is_open.false)

pub returns : goal.returns
returns c =
    let q = run_end {w = c.loop-at.way} c.loop-at.invariant c.loop-at-test.false in
    record { store_after = q.0; used_value = q.1 }

pub shape_of-store : goal.shape_of-store
shape_of-store c = c.loop-at.invariant.long
