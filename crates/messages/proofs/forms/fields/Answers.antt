-- `messages::forms::fields` meets its contract: the form has them, and no form has more.
use Prim.Native.Nat.{◌≤◌}
use Rattle.messages.specs.Inside.{most_fields}
use mathlib.Core.Path.{sym, ap, subst}
use native.Mathlib.Omega.{arith}
use lib.ListN.{length}
use Rattle.messages.specs.Forms.{Form}
use Rattle.messages.proofs.FormLaws.{form_is, at_most}
use Rattle.messages.proofs.forms.fields.Goals as goal

pub returns : goal.returns
returns c =
    let i = c.args.i in (
      ap (λ (f : Form). length f.fields) (form_is c.table.result.now _ i (omega arith) c.table.ensures.1),
      subst (λ (f : Form). length f.fields ≤ most_fields) (sym (form_is c.table.result.now _ i (omega arith) c.table.ensures.1)) (at_most i c.requires),
    )
