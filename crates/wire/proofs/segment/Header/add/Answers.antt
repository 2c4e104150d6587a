-- `wire::segment::Header::add` meets its contract: the test decides the definition's.
use Rattle.base.proofs.Conds.{tests}
use Rattle.wire.specs.Segments.{added}
use Rattle.wire.proofs.segment.Header.add.Goals as goal

pub returns-then-self-lt-HEADER : goal.returns-then-self-lt-HEADER
unfolding added
returns-then-self-lt-HEADER c = search tests

pub returns-else-self-lt-HEADER : goal.returns-else-self-lt-HEADER
unfolding added
returns-else-self-lt-HEADER c = search tests
