-- `Message::field_heads` meets its contract: the loop's invariant is that the sum so far, with the heads left, is as long as all of them.
use Rattle.std.proofs.Common.{arith}
use Rattle.messages.specs.Inside.{form_at}
use Rattle.layout.proofs.LayoutLaws.{heads_on, heads_end}
use Rattle.layout.proofs.message.Message.field_heads.Goals as goal

pub loop-i-preserved : goal.loop-i-preserved
loop-i-preserved c =
    let m = c.args.self.now in
    let on = heads_on m.asked (form_at m.row).fields m.arguments c.loop-i.i (omega arith) c.field_at-f.ensures in
    (omega arith, omega arith)

pub returns : goal.returns
returns c =
    let m = c.args.self.now in
    let end = heads_end m.asked (form_at m.row).fields m.arguments c.loop-i.i (omega arith) in
    (omega arith, omega arith)
