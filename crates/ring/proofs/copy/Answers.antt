-- What is written into a part of a slice is written byte after byte.
use Rattle.ring.proofs.Runs.{part_written}
use Rattle.ring.proofs.copy.Goals as goal
use Rattle.std.proofs.Common.{rules}

pub returns : goal.returns
returns c =
    let a = c.args in
    part_written a.dst.now a.src.now c.copy_from_slice.new.self a.to a.i a.k (search rules) (search rules) c.copy_from_slice.ensures.after
