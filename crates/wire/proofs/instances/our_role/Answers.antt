-- `wire::instances::our_role` meets its contract: the bundle's table has our role in each instance.
use mathlib.Core.Path.{ap}
use Prim.Native.Nat.{ℕ}
use native.Mathlib.Omega.{arith}
use Rattle.wire.specs.declared.instances.Role.{Role}
use Rattle.wire.proofs.InstanceLaws.{pairs_long, pair_at, at_most}
use Rattle.wire.proofs.instances.our_role.Goals as goal

pub offset_bounds-bundle-i : goal.offset_bounds-bundle-i
offset_bounds-bundle-i c = record { fits = omega (arith, at_most c.args.bundle, c.requires) }

pub bounds-bundle-i : goal.bounds-bundle-i
bounds-bundle-i c = omega (arith, pairs_long c.args.bundle c.bundle.ensures, c.requires)

pub returns : goal.returns
returns c =
    let a = c.args in
    ap (λ (x : ℕ × Role). x.1) (pair_at a.bundle c.bundle.ensures a.i c.requires)
