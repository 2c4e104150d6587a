-- The sum is where the next area begins, and that is not past where area i does.
use Rattle.std.proofs.Common.{◌≡◌, ◌<◌, ap, ◌∙◌, refl, arith, length-take-le, add-one}
use Rattle.std.proofs.lemmas.List.{get_or-take}
use Rattle.ring.specs.Ring.{base_of}
use Rattle.ring.proofs.Areas.{base_next, area_within}
use Rattle.ring.proofs.base_of.Goals as goal

pub loop-cap-init : goal.loop-cap-init
unfolding base_of
loop-cap-init c = refl

pub overflow_add-sum : goal.overflow_add-sum
overflow_add-sum c =
    let a = c.args in
    let l = c.loop-cap in
    let below : l.cap-index < a.i = omega (arith, length-take-le a.i a.caps.now c.requires.0) in
    let here = get_or-take a.i a.caps.now l.cap-index 0 below in
    record { fits = omega (arith, here, l.invariant, area_within a.caps.now l.cap-index a.i below, c.requires.1) }

pub loop-cap-preserved : goal.loop-cap-preserved
loop-cap-preserved c =
    let a = c.args in
    let l = c.loop-cap in
    let below : l.cap-index < a.i = omega (arith, length-take-le a.i a.caps.now c.requires.0) in
    rw (l.invariant, get_or-take a.i a.caps.now l.cap-index 0 below, add-one, base_next) refl

pub returns : goal.returns
returns c =
    let a = c.args in
    let all : c.loop-cap.cap-index ≡ a.i = omega (arith, length-take-le a.i a.caps.now c.requires.0) in
    c.loop-cap.invariant ∙ ap (base_of a.caps.now) all
