-- `moves::Level::breaks` meets its contract: in a map of indefinite length a break may come at a key.
use Rattle.moves.proofs.Frames.{level_break_map, level_break}
use Rattle.moves.proofs.Level.breaks.Goals as goal

pub returns-then-self-eq-PAIRS : goal.returns-then-self-eq-PAIRS
returns-then-self-eq-PAIRS c =
    let a = c.args.self in level_break_map a.kind a.count c.if-self-eq-PAIRS.true

pub returns : goal.returns
returns c =
    let a = c.args.self in level_break a.kind a.count c.if-self-eq-PAIRS.false
