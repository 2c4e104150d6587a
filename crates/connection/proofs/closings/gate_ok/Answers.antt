-- `connection::closings::gate_ok` meets its contract, case by case.
use mathlib.Core.Path.{sym, ap, ◌∙◌}
use Rattle.connection.specs.Closings.{gate_ok}
use Rattle.connection.proofs.closings.gate_ok.Goals as goal

pub returns-in-Closed : goal.returns-in-Closed
returns-in-Closed c =
    let a = c.args in
    c.fault_leaves.ensures ∙ sym (ap (gate_ok a.bundle) c.in-Closed.is)
