-- `head::write::head_len` meets its contract: one byte, and those that follow.
use mathlib.Core.Path.{ap}
use Prim.Native.Nat.{◌+◌}
use borrow.Author.Rules.{rules}
use Rattle.head.specs.declared.write.Width.{Width}
use Rattle.head.proofs.write.head_len.Goals as goal

pub returns : goal.returns
returns c = (ap (λ (w : Width). w.bytes + 1) c.width_of-w.ensures.0, search rules)
