-- `wire::instances::count` meets its contract: as many as the bundle's table has.
use native.Mathlib.Omega.{arith}
use Rattle.wire.proofs.InstanceLaws.{pairs_long, at_most}
use Rattle.wire.proofs.instances.count.Goals as goal

pub returns : goal.returns
returns c =
    let b = c.args.bundle in
    let e = pairs_long b c.bundle.ensures in
    (e, omega (arith, e, at_most b))
