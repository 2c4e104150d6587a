-- `moves::short` meets its contract: where the item may begin, its content follows; where not, its first byte is bad.
use mathlib.Core.Path.{◌≡◌, sym, ◌∙◌}
use mathlib.Core.Bool.{true}
use native.Mathlib.Omega.{arith}
use Rattle.moves.specs.Inside.Frames.{may_begin}
use Rattle.moves.proofs.AnyHead.{asked_short, no_short}
use Rattle.moves.proofs.short.Goals as goal

pub returns-then-may_begin : goal.returns-then-may_begin
returns-then-may_begin c =
    let a = c.args in
    let may : may_begin a.w.level.kind a.w.depth a.m ≡ true = sym c.may_begin.ensures ∙ c.if-may_begin.true in
    λ xs e i.
    c.follows.ensures xs a.at a.w.level.kind a.w.level.count a.w.depth e (omega arith) (omega arith) a.w.wants a.w.good c.left.ensures may
    (asked_short xs a.at a.w.level.kind a.w.level.count a.w.depth (omega arith) a.w.wants a.m a.v i may)

pub returns : goal.returns
returns c =
    let a = c.args in
    λ xs e i. no_short xs a.at a.w.level.kind a.w.level.count a.w.depth (omega arith) a.w.wants a.m a.v i (sym c.may_begin.ensures ∙ c.if-may_begin.false)
