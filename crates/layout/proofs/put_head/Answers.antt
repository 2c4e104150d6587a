-- `layout::put_head` meets its contract: a field whose head is no byte of ours and not of indefinite length has the shortest.
use Rattle.std.proofs.Common.{length, arith, sym, ap, ◌∙◌}
use Rattle.head.proofs.WriteLaws.{shortest_length}
use Rattle.layout.specs.Inside.{major_of}
use Rattle.layout.proofs.LayoutLaws.{short_head, head_there, tail_there}
use Rattle.layout.proofs.put_head.Goals as goal

pub write_head-requires : goal.write_head-requires
write_head-requires c =
    let a = c.args in
    let e = short_head a.asked a.f a.argument (sym c.is_headless.ensures ∙ c.if-is_headless.false) (sym c.is_open.ensures ∙ c.if-is_open.false) in
    (c.major.ensures.1, omega (arith, c.requires, ap length e, shortest_length (major_of a.f) a.argument))

pub returns-else-is_open : goal.returns-else-is_open
returns-else-is_open c =
    let a = c.args in
    tail_there a.buf.now a.at _
    (short_head a.asked a.f a.argument (sym c.is_headless.ensures ∙ c.if-is_headless.false) (sym c.is_open.ensures ∙ c.if-is_open.false))
    (head_there a.buf.now a.at a.argument c.major.ensures.0 c.write_head.ensures.0 c.write_head.ensures.1)
