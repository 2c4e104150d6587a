-- `connection::closings::close` meets its contract, case by case.
use Rattle.connection.proofs.closings.close.Goals as goal

pub returns-in-Open : goal.returns-in-Open
returns-in-Open c = rw c.in-Open.is
