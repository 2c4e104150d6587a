use Prim.Native.Nat.{◌+◌}
use Rattle.messages.specs.Forms.{forms}
use Rattle.rows.specs.Inside.{first_in, count_in}
use Rattle.rows.proofs.ByProtocol.{Come}
use Rattle.messages.proofs.FormLaws.{finding}
use Rattle.messages.proofs.forms.find.Given as goal

abbrev pub invariant-loop-i : goal.invariant-loop-i
invariant-loop-i l = Come forms (finding l.kind) (first_in forms l.fn.p) (first_in forms l.fn.p + count_in forms l.fn.p) l.i
