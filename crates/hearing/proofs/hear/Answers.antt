-- `hearing::hear` meets its contract: each way out is one of the laws of hearing.
use Rattle.std.proofs.Common.{◌∙◌, arith}
use Rattle.range.specs.Besides.Ranges.{InReceive}
use Rattle.hearing.proofs.HearingLaws.{asked, hear_range, hear_instance, hear_heard}
use Rattle.hearing.proofs.hear.Goals as goal

pub returns-then-not-receives : goal.returns-then-not-receives
returns-then-not-receives c = hear_range c.args.c.now c.args.store.now c.args.instance (cc)

pub returns-then-count-instance : goal.returns-then-count-instance
returns-then-count-instance c =
    hear_instance c.args.c.now c.args.store.now c.args.instance (cc) (omega arith)

pub listen-requires : goal.listen-requires
listen-requires c =
    let within : InReceive c.args.c.now c.args.store.now c.args.instance = (cc, omega arith) in
    record { asked = within; held = asked _ _ _ within }

pub returns : goal.returns
returns c = c.listen.ensures ∙ hear_heard c.args.c.now c.args.store.now c.args.instance (cc, omega arith)
