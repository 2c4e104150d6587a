use mathlib.Core.Path.{◌≡◌}
use Prim.Native.Nat.{◌-◌, ◌≤◌}
use lib.ListN.{length, drop}
use Rattle.lister_core.specs.Lister.{fed}
use Rattle.lister_lines.proofs.print_run.Given as goal

abbrev pub invariant-loop-from : goal.invariant-loop-from
invariant-loop-from v = (v.from ≤ length v.run) × ((fed v.l (drop v.from v.run)).listing ≡ (fed v.initial.l v.run).listing)

abbrev pub decreases-loop-from : goal.decreases-loop-from
decreases-loop-from v = length v.run - v.from
