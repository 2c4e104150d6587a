-- `range::range_of` meets its contract: the tests are those of the definition, up to the first that fails.
use Rattle.range.proofs.AreaLaws.{limit_fails, areas_fail, rest_fails, all_pass}
use Rattle.range.proofs.range_of.Goals as goal

pub returns-then-not-limit_ok : goal.returns-then-not-limit_ok
returns-then-not-limit_ok c = limit_fails c.args.c.now (cc)

pub returns-in_err-lengths : goal.returns-in_err-lengths
returns-in_err-lengths c = rw c.from_residual.ensures (areas_fail c.args.c.now (cc c.in_err-lengths.ensures))

pub returns-then-not-rest_ok : goal.returns-then-not-rest_ok
returns-then-not-rest_ok c = rest_fails c.args.c.now (cc)

pub returns : goal.returns
returns c =
    let (all, receive, send) = c.in_ok-lengths.ensures in
    (all_pass c.args.c.now (cc) (cc all) (cc), cc receive, cc send)
