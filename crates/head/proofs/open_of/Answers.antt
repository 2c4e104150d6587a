-- `head::open_of` meets its contract: as `major_of`.
use Rattle.base.proofs.Conds.{tests}
use Rattle.head.proofs.open_of.Goals as goal

pub returns-then-m-eq-SIMPLE : goal.returns-then-m-eq-SIMPLE
returns-then-m-eq-SIMPLE c = search tests

pub major_of-requires : goal.major_of-requires
major_of-requires c = search tests

pub returns-then-m-le-MAP : goal.returns-then-m-le-MAP
returns-then-m-le-MAP c = search tests

pub returns-else-m-le-MAP : goal.returns-else-m-le-MAP
returns-else-m-le-MAP c = search tests

pub returns-else-m-ge-BYTES : goal.returns-else-m-ge-BYTES
returns-else-m-ge-BYTES c = search tests
