-- `usual::simple` meets its contract: a head of any width but one whose value is in a byte of its own.
use mathlib.Core.Path.{ap}
use native.Mathlib.Omega.{arith}
use Prim.Native.Nat.{ℕ, ◌+◌, ◌%◌}
use Rattle.usual.proofs.UsualHeads.{width_most, pass_simple}
use Rattle.usual.proofs.simple.Goals as goal

pub returns-then-i-eq-ONE_BYTE : goal.returns-then-i-eq-ONE_BYTE
returns-then-i-eq-ONE_BYTE c = λ d xs l e. tt

pub returns-then-i-ge-RESERVED : goal.returns-then-i-ge-RESERVED
returns-then-i-ge-RESERVED c = λ d xs l e. tt

pub returns : goal.returns
returns c =
    let a = c.args in
    λ d xs l e.
    pass_simple xs a.at d a.b l e (a.at + 1 + c.following.result)
    (ap (λ (w : ℕ). a.at + 1 + w) c.following.ensures) (omega arith) (omega arith) (omega arith)
    c.if-i-eq-ONE_BYTE.false

pub overflow_add-result-2 : goal.overflow_add-result-2
overflow_add-result-2 c = omega (arith, width_most (c.args.b % 32))
