-- `range::areas` meets its contract: one instance that is out of range decides, and the sums are where the next area begins.
use Rattle.std.proofs.Common.{◌≡◌, ◌<◌, true, rules, arith}
use Rattle.base.specs.Below.{all_below}
use Rattle.ring.specs.Ring.{base_of}
use Rattle.wire.specs.Instances.{instances}
use Rattle.range.specs.Ranges.{instance_ok}
use Rattle.range.proofs.AreaLaws.{below_not, below_more, sums}
use Rattle.range.proofs.areas.Goals as goal

pub loop-i-init : goal.loop-i-init
unfolding all_below base_of
loop-i-init c = search rules

pub instance_ok-requires : goal.instance_ok-requires
instance_ok-requires c =
    let low : c.loop-i.i < instances c.args.c.now.settings.party.bundle = omega arith in
    let last = c.last_states-lasts.ensures c.loop-i.i low in
    (omega arith, cc)

pub returns-then-not-instance_ok : goal.returns-then-not-instance_ok
returns-then-not-instance_ok c = below_not _ _ c.loop-i.i (omega arith) cc

pub overflow_add-receive : goal.overflow_add-receive
overflow_add-receive c =
    let ok : instance_ok c.args.c.now c.loop-i.i ≡ true = cc in
    let both = sums c.args.c.now c.loop-i.i (omega arith) c.loop-i.invariant.passed ok in
    record { fits = omega (arith, both.0.0) }

pub overflow_add-send : goal.overflow_add-send
overflow_add-send c =
    let ok : instance_ok c.args.c.now c.loop-i.i ≡ true = cc in
    let both = sums c.args.c.now c.loop-i.i (omega arith) c.loop-i.invariant.passed ok in
    record { fits = omega (arith, both.1.0) }

pub loop-i-preserved : goal.loop-i-preserved
loop-i-preserved c =
    let ok : instance_ok c.args.c.now c.loop-i.i ≡ true = cc in
    let both = sums c.args.c.now c.loop-i.i (omega arith) c.loop-i.invariant.passed ok in
    record {
      passed = below_more _ _ c.loop-i.invariant.passed ok;
      receive = cc;
      send = cc;
    }
