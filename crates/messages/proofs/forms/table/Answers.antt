-- `messages::forms::table` meets its contract: the table is the forms, row by row.
use mathlib.Core.Path.{refl}
use Rattle.rows.specs.Inside.{entries}
use Rattle.messages.proofs.forms.table.Goals as goal

pub returns : goal.returns
unfolding entries
returns c = (refl, refl)
