-- `messages::forms::field_at` meets its contract: the form has the field.
use mathlib.Core.Path.{ap}
use native.Mathlib.Omega.{arith}
use lib.ListN.{get_or}
use Rattle.elements.specs.declared.Field.TheVariants.{Item}
use Rattle.messages.specs.Forms.{Form}
use Rattle.messages.proofs.FormLaws.{form_is, at_most}
use Rattle.messages.proofs.forms.field_at.Goals as goal

pub offset_bounds-table-j : goal.offset_bounds-table-j
offset_bounds-table-j c = record { fits = omega (arith, at_most c.args.i c.requires.0) }

pub returns : goal.returns
returns c = ap (λ (f : Form). get_or f.fields c.args.j Item) (form_is c.table.result.now _ c.args.i (omega arith) c.table.ensures.1)
