use Prim.Native.Nat.{◌+◌, ◌*◌, ◌-◌}
use mathlib.Core.Path.{◌≡◌}
use lib.ListN.{length}
use Rattle.ring.specs.Inside.{seen}
use Rattle.usual.specs.Inside.Pieces.{PieceAt}
use Rattle.cbor.specs.Inside.Walk.{walk_of}
use Rattle.cbor.proofs.Walking.{Under}
use Rattle.cbor.proofs.advance.Given as goal

abbrev pub invariant-loop-count : goal.invariant-loop-count
invariant-loop-count l = Under (seen l.v) (walk_of l.initial.at 0 l.initial.heads l.initial.kind l.initial.count l.initial.depth l.initial.kinds l.initial.counts) l.at l.heads l.kind l.count l.depth l.kinds l.counts
    × PieceAt (length l.v.bytes.now) l.v.from l.v.len l.at l.z
    × (length (seen l.v) ≡ l.v.len)

abbrev pub decreases-loop-count : goal.decreases-loop-count
decreases-loop-count l = 20 * (l.v.len - l.at) + l.depth
