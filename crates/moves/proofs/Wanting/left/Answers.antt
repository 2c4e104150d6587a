-- `moves::Wanting::left` meets its contract: one less of the count; at a count of nought, by the kind.
use native.Mathlib.Omega.{arith}
use Rattle.moves.proofs.Frames.{leaves_some, leaves_huge, leaves_anew, leaves_chunk}
use Rattle.moves.proofs.Wanting.left.Goals as goal

pub returns-then-count-gt0 : goal.returns-then-count-gt0
returns-then-count-gt0 c =
    let a = c.args.self.level in leaves_some a.kind a.count c.if-count-gt0.true c.args.self.good.none

pub returns-then-kind-eq-MORE_ITEMS : goal.returns-then-kind-eq-MORE_ITEMS
returns-then-kind-eq-MORE_ITEMS c =
    let a = c.args.self.level in leaves_huge a.kind a.count (omega arith) c.if-kind-eq-MORE_ITEMS.true

pub returns-then-kind-lt-BYTES : goal.returns-then-kind-lt-BYTES
returns-then-kind-lt-BYTES c =
    let a = c.args.self.level in
    leaves_anew a.kind a.count (omega arith) c.args.self.wants c.if-kind-lt-BYTES.true c.if-kind-eq-MORE_ITEMS.false

pub returns : goal.returns
returns c =
    let a = c.args.self.level in
    leaves_chunk a.kind a.count (omega arith)
