-- `ring::write` meets its contract: a run that comes to the area's end is copied in two, any other in one.
use native.Mathlib.Omega.{arith}
use Rattle.ring.proofs.Copies.{written_straight, written_wraps}
use Rattle.ring.proofs.write.Goals as goal

pub returns-then-k-ahead : goal.returns-then-k-ahead
returns-then-k-ahead c =
    let a = c.args in
    let place = c.place_of-start in
    written_straight a.store.now a.base a.cap a.n place.result place.ensures.0 a.src.now a.i a.k
    (omega arith)
    (omega arith)
    c.copy.ensures

pub returns-else-k-ahead : goal.returns-else-k-ahead
returns-else-k-ahead c =
    let a = c.args in
    let place = c.place_of-start in
    let front = c.copy-else-k-ahead in
    written_wraps a.store.now a.base a.cap a.n place.result place.ensures.0 a.src.now a.i a.k
    (omega arith)
    (omega arith)
    (omega arith)
    (omega arith)
    front.ensures
    c.copy-else-k-ahead-2.ensures
