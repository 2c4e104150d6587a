-- `moves::simple` meets its contract: the second byte is not there, or below 32, or not.
use native.Mathlib.Omega.{arith}
use Rattle.ring.specs.Inside.{seen}
use Rattle.ring.proofs.Views.{seen_length}
use Rattle.moves.proofs.AnyHead.{no_simple, simple_cut, simple_low, simple_high}
use Rattle.moves.proofs.simple.Goals as goal

pub returns-then-w-ge-BYTES : goal.returns-then-w-ge-BYTES
returns-then-w-ge-BYTES c =
    let a = c.args in
    let p = c.requires in
    let xs = seen a.v in
    let len = seen_length a.v in
    no_simple xs a.at a.w.level.kind a.w.level.count a.w.depth (omega arith) a.w.wants p.at_value c.if-w-ge-BYTES.true

pub returns-then-v-at : goal.returns-then-v-at
returns-then-v-at c =
    let a = c.args in
    let p = c.requires in
    let xs = seen a.v in
    let len = seen_length a.v in
    simple_cut xs a.at a.w.level.kind a.w.level.count a.w.depth (omega arith) a.w.wants p.at_value (omega arith) (omega arith)

pub returns-then-byte-lt32 : goal.returns-then-byte-lt32
returns-then-byte-lt32 c =
    let a = c.args in
    let p = c.requires in
    let xs = seen a.v in
    let len = seen_length a.v in
    let b = c.byte.ensures in
    simple_low xs a.at a.w.level.kind a.w.level.count a.w.depth (omega arith) a.w.wants p.at_value (omega arith) (omega arith) (omega arith)

pub returns : goal.returns
returns c =
    let a = c.args in
    let p = c.requires in
    let xs = seen a.v in
    let len = seen_length a.v in
    let b = c.byte.ensures in
    simple_high xs a.at a.w.level.kind a.w.level.count a.w.depth (omega arith) a.w.wants c.left.result c.left.ensures a.w.good p.at_value
    (omega arith) (omega arith) (omega arith)
