-- `layout::put_field` meets its contract: the head is put, behind it the run, and behind that the break.
use Rattle.layout.proofs.LayoutLaws.{piece_there}
use Rattle.layout.proofs.put_field.Goals as goal

pub returns : goal.returns
returns c =
    let a = c.args in
    piece_there a.asked a.f a.argument a.run.now a.buf.now a.at c.put_head-behind.ensures c.put_tail-end.ensures c.put_break.ensures
