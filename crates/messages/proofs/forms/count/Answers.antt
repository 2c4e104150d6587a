-- `messages::forms::count` meets its contract: the table by protocol has it.
use mathlib.Core.Path.{◌∙◌}
use Rattle.rows.specs.Inside.{count_in}
use Rattle.rows.proofs.ByProtocol.{number_of}
use Rattle.messages.specs.Forms.{forms}
use Rattle.messages.proofs.forms.count.Goals as goal

pub returns : goal.returns
returns c = c.number_of.ensures ∙ number_of (count_in forms) c.args.p
