-- `feeding::Intake::kept` meets its contract: there is room for the payload under way.
use native.Mathlib.Omega.{arith}
use Rattle.feeding.proofs.Bytes.{lays}
use Rattle.feeding.proofs.Intake.kept.Goals as goal

pub returns : goal.returns
returns c =
    let a = c.args in
    let k = a.self in
    let n = c.min-n.result in
    let least = c.min-n.ensures in
    lays k.caps.now k.starts.now a.held.now a.w a.store.now _ k.input.now a.at n c.instance_for.result
    (omega arith)
    (omega arith)
    (omega arith)
    c.write.ensures
    c.instance_for.ensures
