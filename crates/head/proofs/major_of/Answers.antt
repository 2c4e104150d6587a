-- `head::major_of` meets its contract: the tests on the way to each return decide the definition's.
use Rattle.base.proofs.Conds.{tests}
use Rattle.head.proofs.major_of.Goals as goal

pub returns-then-m-eq-BYTES : goal.returns-then-m-eq-BYTES
returns-then-m-eq-BYTES c = search tests

pub returns-then-m-eq-TEXT : goal.returns-then-m-eq-TEXT
returns-then-m-eq-TEXT c = search tests

pub returns-then-m-eq-ARRAY : goal.returns-then-m-eq-ARRAY
returns-then-m-eq-ARRAY c = search tests

pub returns-then-m-eq-MAP : goal.returns-then-m-eq-MAP
returns-then-m-eq-MAP c = search tests

pub returns-then-m-eq-TAG : goal.returns-then-m-eq-TAG
returns-then-m-eq-TAG c = search tests

pub returns : goal.returns
returns c = search tests
