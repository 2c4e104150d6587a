-- `head::initial_of` meets its contract: the tests on the way to each return decide the definition's.
use Rattle.base.proofs.Conds.{tests}
use Rattle.head.specs.Initial.{initial}
use Rattle.head.proofs.initial_of.Goals as goal

pub returns-then-i-lt-ONE_BYTE : goal.returns-then-i-lt-ONE_BYTE
unfolding initial
returns-then-i-lt-ONE_BYTE c = search tests

pub returns-then-m-eq-SIMPLE : goal.returns-then-m-eq-SIMPLE
unfolding initial
returns-then-m-eq-SIMPLE c = search tests

pub returns-then-i-eq-ONE_BYTE : goal.returns-then-i-eq-ONE_BYTE
unfolding initial
returns-then-i-eq-ONE_BYTE c = search tests

pub returns-then-i-eq-TWO_BYTES : goal.returns-then-i-eq-TWO_BYTES
unfolding initial
returns-then-i-eq-TWO_BYTES c = search tests

pub returns-then-i-eq-FOUR_BYTES : goal.returns-then-i-eq-FOUR_BYTES
unfolding initial
returns-then-i-eq-FOUR_BYTES c = search tests

pub returns-then-i-eq-EIGHT_BYTES : goal.returns-then-i-eq-EIGHT_BYTES
unfolding initial
returns-then-i-eq-EIGHT_BYTES c = search tests

pub returns-then-i-eq-OPEN : goal.returns-then-i-eq-OPEN
unfolding initial
returns-then-i-eq-OPEN c = search tests

pub returns : goal.returns
unfolding initial
returns c = search tests
