use Rattle.std.proofs.Common.{◌≡◌, true}
use Rattle.base.specs.Below.{all_below}
use Rattle.ring.specs.Ring.{base_of}
use Rattle.range.specs.Ranges.{instance_ok}
use Rattle.range.proofs.areas.Given as goal

abbrev pub invariant-loop-i : goal.invariant-loop-i
invariant-loop-i l = record {
  passed : all_below (instance_ok l.c) l.i ≡ true;
  receive : l.receive ≡ base_of l.c.settings.receive l.i;
  send : l.send ≡ base_of l.c.settings.send l.i;
}
