-- `wire::instances::bundle` meets its contract: a table for each bundle, and an unknown one has no instances.
use native.Mathlib.Omega.{arith}
use Rattle.wire.specs.Instances.{bundle_of}
use Rattle.wire.proofs.InstanceLaws.{unknown_none}
use Rattle.wire.proofs.instances.bundle.Goals as goal

pub returns-in-0 : goal.returns-in-0
unfolding bundle_of
returns-in-0 c = rw c.in-0.is

pub returns-in-1 : goal.returns-in-1
unfolding bundle_of
returns-in-1 c = rw c.in-1.is

pub returns-in_default : goal.returns-in_default
returns-in_default c = rw (unknown_none c.args.number (omega arith))
