-- The short log goes as it should: each item reads as it does in `points`, and the rest computes.
-- Assumes nothing.
use mathlib.Core.Path.{refl}
use Rattle.points.proofs.Examples.{edges}
use Rattle.point_log.specs.Log.{rises_to, upto_of, find_of, count_to, back_of, above, fit_of, add_of}
use Rattle.point_log.specs.Besides.Examples.{Replayed}

pub replayed : Replayed
unfolding rises_to upto_of find_of count_to back_of above fit_of add_of
replayed =
    record {
      add = rw edges.block;
      before = refl;
      at = refl;
      another_hash = rw edges.zeros;
      the_origin = rw edges.origin;
      again = rw edges.block;
      back = rw edges.block;
      emptied = rw edges.endless_origin;
      full = rw edges.block;
      past = refl;
      level = refl;
      nothing = rw edges.nothing;
    }
