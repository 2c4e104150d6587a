-- The fields at the edges are read as they should be: each computes.
-- Assumes nothing.
use mathlib.Core.Path.{refl}
use Rattle.base.specs.Numbers.{spelled}
use Rattle.head.specs.Initial.{initial}
use Rattle.head.specs.Read.{head_at, head_by, long_at, simple_at}
use Rattle.item.specs.Grammar.{nest, indefinite, enter, alike, enter_chunk}
use Rattle.item.specs.Verdict.{step, met, judge}
use Rattle.elements.specs.Reading.{unsigned_at, opens_at, item_end, size_end, sized_end, pair_end, key_at, version_at, element_at, walk, part_of}
use Rattle.elements.specs.Besides.Examples.{Edges}

pub edges : Edges
unfolding spelled initial head_at head_by long_at simple_at nest indefinite enter alike enter_chunk step met judge
    unsigned_at opens_at item_end size_end sized_end pair_end key_at version_at element_at walk part_of
edges =
    record {
      word = refl;
      no_word = refl;
      version = refl;
      no_version = refl;
      failure = refl;
      no_failure = refl;
      false = refl;
      true = refl;
      null = refl;
      size = refl;
      no_size = refl;
      rising = refl;
      repeated = refl;
      nothing = refl;
      one = refl;
      open_pair = refl;
      open_pairs = refl;
      no_pair = refl;
      counted = refl;
      open_map = refl;
      no_value = refl;
    }
