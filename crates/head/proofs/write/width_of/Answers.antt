-- `head::write::width_of` meets its contract: the tests on the way to each return decide the definition's.
use borrow.Author.Rules.{rules}
use Rattle.base.proofs.Conds.{tests}
use Rattle.head.proofs.write.width_of.Goals as goal

pub returns-then-argument-lt24 : goal.returns-then-argument-lt24
returns-then-argument-lt24 c = (search tests, search rules, search rules)

pub returns-then-argument-lt256 : goal.returns-then-argument-lt256
returns-then-argument-lt256 c = (search tests, search rules, search rules)

pub returns-then-argument-lt65536 : goal.returns-then-argument-lt65536
returns-then-argument-lt65536 c = (search tests, search rules, search rules)

pub returns-then-argument-lt4294967296 : goal.returns-then-argument-lt4294967296
returns-then-argument-lt4294967296 c = (search tests, search rules, search rules)

pub returns : goal.returns
returns c = (search tests, search rules, search rules)
