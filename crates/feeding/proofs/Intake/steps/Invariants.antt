use Prim.Native.Nat.{◌-◌}
use lib.ListN.{length}
use Rattle.connection.specs.declared.Gate.TheVariants.{Open}
use Rattle.admitting.specs.Inside.{reception}
use Rattle.feeding.proofs.Bytes.{Running}
use Rattle.feeding.proofs.Intake.steps.Given as goal

abbrev pub invariant-loop-at : goal.invariant-loop-at
invariant-loop-at l = Running l.self.party l.self.caps.now (reception l.self.starts.now l.initial.held l.initial.way Open l.initial.store) l.self.input.now (reception l.self.starts.now l.held l.way Open l.store) l.at

abbrev pub decreases-loop-at : goal.decreases-loop-at
decreases-loop-at l = length l.self.input.now - l.at
