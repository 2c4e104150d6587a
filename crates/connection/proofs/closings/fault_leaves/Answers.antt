-- `connection::closings::fault_leaves` meets its contract, case by case.
use mathlib.Core.Path.{ap, sym, ◌∙◌}
use Rattle.connection.specs.Closings.{fault_leaves}
use Rattle.connection.proofs.closings.fault_leaves.Goals as goal

pub returns-in-Bare : goal.returns-in-Bare
returns-in-Bare c = sym (ap (fault_leaves c.args.bundle) c.in-Bare.is)

pub returns-in-Of : goal.returns-in-Of
returns-in-Of c = c.named.ensures ∙ sym (ap (fault_leaves c.args.bundle) c.in-Of.is)
