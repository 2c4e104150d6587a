-- `ring::read` meets its contract: as `write`.
use native.Mathlib.Omega.{arith}
use Rattle.ring.proofs.Copies.{read_straight, read_wraps}
use Rattle.ring.proofs.read.Goals as goal

pub returns-then-k-ahead : goal.returns-then-k-ahead
returns-then-k-ahead c =
    let a = c.args in
    let place = c.place_of-start in
    read_straight a.dst.now a.to a.store.now a.base a.cap a.n place.result place.ensures.0 a.k
    (omega arith)
    (omega arith)
    c.copy.ensures

pub returns-else-k-ahead : goal.returns-else-k-ahead
returns-else-k-ahead c =
    let a = c.args in
    let place = c.place_of-start in
    let front = c.copy-else-k-ahead in
    read_wraps a.dst.now a.to a.store.now a.base a.cap a.n place.result place.ensures.0 a.k
    (omega arith)
    (omega arith)
    (omega arith)
    (omega arith)
    front.ensures
    c.copy-else-k-ahead-2.ensures
