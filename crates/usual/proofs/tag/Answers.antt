-- `usual::tag` meets its contract: within the nesting, one item after a head of any width.
use mathlib.Core.Path.{ap}
use native.Mathlib.Omega.{arith}
use Prim.Native.Nat.{ℕ, ◌+◌, ◌%◌}
use Rattle.usual.proofs.UsualHeads.{width_most, enter_tag}
use Rattle.usual.proofs.tag.Goals as goal

pub returns-then-depth-ge-NESTING : goal.returns-then-depth-ge-NESTING
returns-then-depth-ge-NESTING c =
    λ xs l e. tt

pub returns-then-i-ge-RESERVED : goal.returns-then-i-ge-RESERVED
returns-then-i-ge-RESERVED c =
    λ xs l e. tt

pub returns : goal.returns
returns c =
    let a = c.args in
    let p = c.requires in
    λ xs l e.
    enter_tag xs a.at a.depth a.b l e (a.at + 1 + c.following.result)
    (ap (λ (w : ℕ). a.at + 1 + w) c.following.ensures) (omega arith) (omega arith) p.1 p.2

pub overflow_add-result-2 : goal.overflow_add-result-2
overflow_add-result-2 c = omega (arith, width_most (c.args.b % 32))
