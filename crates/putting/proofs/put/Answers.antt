-- `putting::put` meets its contract: each way out is one of the laws of put.
use Rattle.std.proofs.Common.{sym, ◌∙◌, arith}
use Rattle.putting.proofs.PuttingLaws.{put_range, put_instance, put_by}
use Rattle.putting.proofs.put.Goals as goal

pub returns-then-not-sends : goal.returns-then-not-sends
returns-then-not-sends c = rw c.refused.ensures (put_range c.args.c c.args.store.now c.args.instance c.args.message.now (cc))

pub returns-then-count-instance : goal.returns-then-count-instance
returns-then-count-instance c = rw c.refused-then-count-instance.ensures (put_instance c.args.c c.args.store.now c.args.instance c.args.message.now (cc) (omega arith))

pub queue-requires : goal.queue-requires
queue-requires c = (cc, omega arith)

pub returns-in-Ok : goal.returns-in-Ok
returns-in-Ok c = c.queue.ensures ∙ put_by c.args.c c.args.store.now c.args.instance c.args.message.now (cc, omega arith) _ (sym c.in-Ok.is ∙ c.said.ensures)

pub returns-in-Err : goal.returns-in-Err
returns-in-Err c =
    rw (c.refused-in-Err.ensures, c.number.ensures) (put_by c.args.c c.args.store.now c.args.instance c.args.message.now (cc, omega arith) _ (sym c.in-Err.is ∙ c.said.ensures))
