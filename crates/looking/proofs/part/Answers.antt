-- `looking::part` meets its contract: each place's part.
use Rattle.looking.proofs.part.Goals as goal

pub returns-in-Store : goal.returns-in-Store
returns-in-Store c = rw c.in-Store.is c.cut.ensures

pub returns-in-Scratch : goal.returns-in-Scratch
returns-in-Scratch c = rw c.in-Scratch.is c.cut-in-Scratch.ensures

pub returns-in-Nowhere : goal.returns-in-Nowhere
returns-in-Nowhere c = rw c.in-Nowhere.is c.cut-in-Nowhere.ensures
