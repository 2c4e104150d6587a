-- `head::write::write_head` meets its contract: the first byte is stored, and then the bytes of the argument.
use mathlib.Core.Path.{ap, ◌∙◌}
use native.Mathlib.Omega.{arith}
use lib.ListN.{length, length-set}
use lib.Seq.{length-sets}
use Rattle.head.specs.declared.write.Width.{Width}
use Rattle.head.proofs.WriteLaws.{shortest_stored}
use Rattle.head.proofs.write.write_head.Goals as goal

pub write-requires : goal.write-requires
write-requires c =
    let follow = ap (λ (w : Width). w.bytes) c.width_of-w.ensures.0 in
    simp length-set (omega arith)

pub shape_of-buf : goal.shape_of-buf
shape_of-buf c = ap length c.write.ensures ∙ simp (length-sets, length-set)

pub returns : goal.returns
returns c =
    let a = c.args in
    let width = c.width_of-w.ensures.0 in
    let follow = ap (λ (w : Width). w.bytes) width in
    (omega arith, shortest_stored a.buf.now a.at a.major a.argument width c.write.ensures)
