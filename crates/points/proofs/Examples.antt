-- The items are read as they should be: each computes.
-- Assumes nothing.
use mathlib.Core.Path.{refl}
use Rattle.base.specs.Numbers.{spelled}
use Rattle.head.specs.Initial.{initial}
use Rattle.head.specs.Read.{head_at, head_by, long_at, simple_at}
use Rattle.points.specs.Points.{hashed, hash_behind, block_at, point_at, pair_at, tip_at, point_of, tip_of}
use Rattle.points.specs.Besides.Examples.{Edges}

pub edges : Edges
unfolding spelled initial head_at head_by long_at simple_at hashed hash_behind block_at point_at pair_at tip_at point_of tip_of
edges =
    record {
      block = refl;
      zeros = refl;
      origin = refl;
      endless_origin = refl;
      wide_origin = refl;
      wide = refl;
      highest = refl;
      nothing = refl;
      behind = refl;
      short = refl;
      small = refl;
      text = refl;
      chunks = refl;
      one = refl;
      three = refl;
      number = refl;
      open_end = refl;
      tip = refl;
      endless_tip = refl;
      point_for_tip = refl;
      negative = refl;
      tip_behind = refl;
    }
