-- `messages::forms::first` meets its contract: the table by protocol has it.
use mathlib.Core.Path.{◌∙◌}
use Rattle.rows.specs.Inside.{first_in, entries}
use Rattle.rows.proofs.ByProtocol.{number_of}
use Rattle.messages.specs.Forms.{forms}
use Rattle.messages.proofs.forms.first.Goals as goal

pub returns : goal.returns
unfolding entries
returns c = c.number_of.ensures ∙ number_of (first_in forms) c.args.p
