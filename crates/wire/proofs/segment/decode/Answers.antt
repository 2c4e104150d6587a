-- `wire::segment::decode` meets its contract: each field is the number that its bytes spell, and two bytes spell less than 65,536.
use borrow.Author.Rules.{rules}
use Rattle.wire.specs.Segments.{decoded}
use Rattle.wire.proofs.segment.decode.Goals as goal

pub returns : goal.returns
unfolding decoded
returns c = (cc, search rules)
