-- `looking::shown_at` meets its contract: each place is a case of the definition.
use Rattle.std.proofs.Common.{sym, ap, ◌∙◌}
use Rattle.looking.specs.declared.Place.{Place}
use Rattle.looking.specs.Looking.{shown_at}
use Rattle.looking.proofs.shown_at.Goals as goal

pub returns-in-Nowhere : goal.returns-in-Nowhere
returns-in-Nowhere c = c.refuse.ensures ∙ sym (ap (λ (p : Place). shown_at p c.args.shown) c.in-Nowhere.is)
