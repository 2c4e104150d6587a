-- `usual::piece_of` meets its contract: the piece up to the end of the slice, or the one from its front on.
use Prim.Native.Nat.{◌-◌}
use mathlib.Core.Path.{subst⁻¹}
use native.Mathlib.Omega.{arith}
use Rattle.usual.specs.Inside.Pieces.{Pieces}
use Rattle.usual.proofs.Pieces.{pieces_near, pieces_far}
use Rattle.usual.proofs.piece_of.Goals as goal

pub returns-then-at-room : goal.returns-then-at-room
returns-then-at-room c =
    let a = c.args in
    subst⁻¹ (Pieces a.len a.from a.n a.at a.from 0) c.saturating_sub.ensures
    (pieces_near a.len a.from a.n a.at c.min.result (omega arith) (omega arith) (omega arith))

pub returns : goal.returns
returns c =
    let a = c.args in
    subst⁻¹ (Pieces a.len a.from a.n a.at 0 (a.len - a.from)) c.saturating_sub-2.ensures
    (pieces_far a.len a.from a.n a.at (omega arith) (omega arith) (omega arith))
