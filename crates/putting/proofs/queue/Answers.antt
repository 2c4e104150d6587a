-- `putting::queue` meets its contract: each way out is one of the laws of queueing.
use Rattle.std.proofs.Common.{◌+◌, ◌≤◌, ◌∙◌, length, get_or, arith}
use lib.Seq.{take-length}
use borrow.Author.Tests.{leb-true}
use Rattle.putting.proofs.PuttingLaws as laws
use Rattle.putting.proofs.PuttingLaws.{asked, no_room, has_room, queued_is}
use Rattle.putting.proofs.queue.Goals as goal

pub returns-then-too_long : goal.returns-then-too_long
returns-then-too_long c = rw c.refused.ensures (laws.too_long c.args.c c.args.store.now c.args.i c.args.message.now c.args.j (cc))

pub returns-then-not-fits : goal.returns-then-not-fits
returns-then-not-fits c = rw c.refused-then-not-fits.ensures (no_room c.args.c c.args.store.now c.args.i c.args.message.now c.args.j (cc) (cc))

pub write-requires : goal.write-requires
write-requires c =
    let k = asked _ _ _ c.requires in
    let few : get_or c.args.c.sending.waiting c.args.i 0 + length c.args.message.now ≤ get_or c.args.c.settings.send c.args.i 0 = leb-true _ _ (cc) in
    (record { listed = k.listed; some = k.some; inside = k.stored }, omega arith, omega arith)

pub overflow_add-c : goal.overflow_add-c
overflow_add-c c = record { fits = let k = asked _ _ _ c.requires in omega (arith, k.start, k.waiting, k.small) }

pub returns : goal.returns
returns c =
    has_room c.args.c c.args.store.now c.args.i c.args.message.now c.args.j (cc) _ _ (cc)
    (queued_is c.args.c c.args.i (length c.args.message.now) c.args.j c.marks-c.result c.marks-c.ensures)
    (c.write.ensures ∙ rw (take-length c.args.message.now))
