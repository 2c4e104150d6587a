-- `moves::long` meets its contract: the item may not begin, or its argument is cut off, or its content follows.
use Prim.Native.Nat.{ℕ, ◌+◌}
use mathlib.Core.Path.{◌≡◌, sym, ◌∙◌, subst⁻¹}
use mathlib.Core.Bool.{true}
use native.Mathlib.Omega.{arith}
use Rattle.item.specs.Grammar.{content}
use Rattle.ring.specs.Inside.{seen}
use Rattle.moves.specs.Inside.Frames.{may_begin}
use Rattle.moves.specs.Inside.Moves.{Asked}
use Rattle.ring.proofs.Views.{seen_length}
use Rattle.moves.proofs.AnyHead.{asked_long, cut_long, no_long}
use Rattle.moves.proofs.long.Goals as goal

pub returns-then-v-at : goal.returns-then-v-at
returns-then-v-at c =
    let a = c.args in
    let p = c.requires in
    let xs = seen a.v in
    let len = seen_length a.v in
    cut_long xs a.at a.w.level.kind a.w.level.count a.w.depth (omega arith) a.w.wants a.m a.k p.at_value
    (sym c.may_begin.ensures ∙ c.if-may_begin.true) (omega arith)

pub number_at-argument-requires : goal.number_at-argument-requires
number_at-argument-requires c =
    (omega arith, omega arith)

pub returns-then-may_begin : goal.returns-then-may_begin
returns-then-may_begin c =
    let a = c.args in
    let p = c.requires in
    let xs = seen a.v in
    let len = seen_length a.v in
    let may : may_begin a.w.level.kind a.w.depth a.m ≡ true = sym c.may_begin.ensures ∙ c.if-may_begin.true in
    c.follows.ensures xs a.at a.w.level.kind a.w.level.count a.w.depth len (omega arith) (omega arith) a.w.wants a.w.good
    c.left.ensures may
    (subst⁻¹ (λ (v : ℕ). Asked xs a.at a.w.level.kind a.w.level.count a.w.depth (content a.m v) (a.at + 1 + (a.k + 1))) c.number_at-argument.ensures.0
    (asked_long xs a.at a.w.level.kind a.w.level.count a.w.depth (omega arith) a.w.wants a.m a.k p.at_value may (omega arith)))

pub returns : goal.returns
returns c =
    let a = c.args in
    let p = c.requires in
    let xs = seen a.v in
    let len = seen_length a.v in
    no_long xs a.at a.w.level.kind a.w.level.count a.w.depth (omega arith) a.w.wants a.m a.k p.at_value
    (sym c.may_begin.ensures ∙ c.if-may_begin.false)
