-- `elements::walk` meets its contract: the loop's invariant is that the elements left, behind those that are passed, come to what all of them come to.
use mathlib.Core.Path.{◌≡◌, ap, ◌∙◌}
use Prim.Native.Nat.{ℕ, ◌-◌}
use native.Mathlib.Omega.{arith}
use lib.ListN.{length}
use Rattle.ring.specs.Inside.{seen}
use Rattle.ring.proofs.Views.{seen_length}
use Rattle.elements.specs.Reading.{walk}
use Rattle.elements.proofs.Steps.{walk_end, walk_stop, walk_forward, walk_on}
use Rattle.elements.proofs.walk.Goals as goal

pub loop-e-init : goal.loop-e-init
loop-e-init c =
    let a = c.args in
    let bs = seen a.v in
    let z : length bs - 0 ≡ length bs = omega arith in
    (omega arith, ap (λ (b : ℕ). walk bs a.d a.e a.x b 0 0 a.first) z)

pub returns-in_err-next : goal.returns-in_err-next
returns-in_err-next c =
    let a = c.args in
    let l = c.loop-e in
    c.from_residual.ensures
    ∙ walk_stop (seen a.v) a.d a.e a.x l.k l.low l.at c.is_closed.ensures c.loop-e-test.true c.element_at.ensures c.in_err-next.was
    ∙ l.invariant.1

pub overflow_add-k : goal.overflow_add-k
overflow_add-k c =
    let a = c.args in
    let l = c.loop-e in
    let long = seen_length a.v in
    let on = walk_forward (seen a.v) a.d a.e a.x l.k l.low l.at c.is_closed.ensures c.loop-e-test.true c.element_at.ensures c.in_ok-next.was in
    record { fits = omega (arith, on) }

pub loop-e-smaller : goal.loop-e-smaller
loop-e-smaller c =
    let a = c.args in
    let l = c.loop-e in
    let long = seen_length a.v in
    let on = walk_forward (seen a.v) a.d a.e a.x l.k l.low l.at c.is_closed.ensures c.loop-e-test.true c.element_at.ensures c.in_ok-next.was in
    omega (arith, on)

pub loop-e-preserved : goal.loop-e-preserved
loop-e-preserved c =
    let a = c.args in
    let l = c.loop-e in
    let on = walk_forward (seen a.v) a.d a.e a.x l.k l.low l.at c.is_closed.ensures c.loop-e-test.true c.element_at.ensures c.in_ok-next.was in (
      omega (arith, on, l.invariant.0),
      walk_on (seen a.v) a.d a.e a.x l.k l.low l.at c.is_closed.ensures c.loop-e-test.true c.element_at.ensures c.in_ok-next.was l.invariant.0
          ∙ l.invariant.1,
    )

pub returns : goal.returns
returns c =
    let a = c.args in
    let l = c.loop-e in
    walk_end (seen a.v) a.d a.e a.x l.k l.low l.at c.is_closed.ensures c.loop-e-test.false
    ∙ l.invariant.1
