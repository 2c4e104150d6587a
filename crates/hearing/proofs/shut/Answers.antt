-- `hearing::shut` meets its contract: a fault closes, and another number does not.
use mathlib.Core.Path.{sym, ◌∙◌}
use Rattle.hearing.proofs.shut.Goals as goal

pub returns-then-heard_fault : goal.returns-then-heard_fault
returns-then-heard_fault c =
    let e = sym c.heard_fault.ensures ∙ c.if-heard_fault.true in
    rw (e, c.close.ensures)

pub returns : goal.returns
returns c = let e = sym c.heard_fault.ensures ∙ c.if-heard_fault.false in rw e
