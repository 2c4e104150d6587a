-- `admitting::admit` meets its contract: case by case of the route.
use mathlib.Core.Path.{sym, ap, subst, ◌∙◌}
use Prim.Native.Nat.{◌<◌}
use native.Mathlib.Omega.{arith}
use Rattle.wire.specs.Instances.{instances, Route}
use Rattle.wire.specs.Inside.{Within}
use Rattle.wire.proofs.InstanceLaws.{at_most}
use Rattle.admitting.specs.Admitting.{admitted}
use Rattle.admitting.proofs.HeaderLaws.{admission_by}
use Rattle.admitting.proofs.admit.Goals as goal

pub room-requires : goal.room-requires
room-requires c =
    let b = c.args.party.bundle in
    let i : c.in-Ok.i < instances b = subst (Within b) c.in-Ok.is c.find.ensures.1 in
    omega (arith, at_most b)

pub returns-in-Ok : goal.returns-in-Ok
returns-in-Ok c =
    let a = c.args in
    let d = c.segment-d in
    let by = admission_by a.party a.caps.now a.held.now a.h d.result c.find.result d.ensures.0 c.find.ensures.0 in
    c.room.ensures
    ∙ rw c.from.ensures (ap (λ (r : Route). admitted a.caps.now a.held.now d.result.len r) (sym c.in-Ok.is) ∙ by)

pub returns-in-Err : goal.returns-in-Err
returns-in-Err c =
    let a = c.args in
    let d = c.segment-d in
    let by = admission_by a.party a.caps.now a.held.now a.h d.result c.find.result d.ensures.0 c.find.ensures.0 in
    rw c.astray.ensures (ap (λ (r : Route). admitted a.caps.now a.held.now d.result.len r) (sym c.in-Err.is) ∙ by)
