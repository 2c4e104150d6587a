-- `elements::Extent::is_closed` meets its contract: the rest goes up to the view's end.
use mathlib.Core.Path.{sym, ap}
use lib.Dec.{eqb}
use Rattle.ring.proofs.Views.{seen_length}
use Rattle.elements.proofs.Extent.is_closed.Goals as goal

pub returns-in-Rest : goal.returns-in-Rest
returns-in-Rest c = rw c.in-Rest.is (ap (eqb c.args.at) (sym (seen_length c.args.v)))
