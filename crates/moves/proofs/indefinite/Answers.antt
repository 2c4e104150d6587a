-- `moves::indefinite` meets its contract: among items, and within the nesting, a level is opened.
use mathlib.Core.Path.{sym, ◌∙◌}
use native.Mathlib.Omega.{arith}
use Rattle.moves.proofs.AnyHead.{no_chunk, no_room}
use Rattle.moves.proofs.indefinite.Goals as goal

pub returns-then-w-ge-BYTES : goal.returns-then-w-ge-BYTES
returns-then-w-ge-BYTES c =
    let a = c.args in
    λ xs l i. no_chunk xs a.at a.w.level.kind a.w.level.count a.w.depth l a.w.wants a.m i c.if-w-ge-BYTES.true

pub returns-then-room_for : goal.returns-then-room_for
returns-then-room_for c =
    let a = c.args in
    λ xs l i.
    c.opened.ensures xs a.w.level.kind a.w.level.count a.w.depth l a.w.good a.w.wants (omega arith)
    (sym c.room_for.ensures ∙ c.if-room_for.true) c.left.ensures i

pub returns : goal.returns
returns c =
    let a = c.args in
    λ xs l i. no_room xs a.at a.w.level.kind a.w.level.count a.w.depth l a.w.wants a.m i (omega arith) (sym c.room_for.ensures ∙ c.if-room_for.false)
