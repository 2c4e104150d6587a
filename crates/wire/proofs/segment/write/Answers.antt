-- `wire::segment::write` meets its contract: three numbers stored one after the other.
use Rattle.wire.proofs.SegmentLaws.{stored}
use Rattle.wire.proofs.segment.write.Goals as goal

pub returns : goal.returns
returns c = (cc (stored _ _))
