-- Where a walk stopped, and the walk that it then is.
use Rattle.std.specs.Prelude.{ℕ, List}
use Rattle.cbor.specs.declared.Stop.{Stop}
use Rattle.cbor.specs.declared.Walk.{Walk}
use Rattle.cbor.specs.Inside.Walk.{walk_of}

-- With the levels around it.
abbrev pub stopped_at : Stop → List ℕ → List ℕ → Walk
stopped_at r ks cs = walk_of r.at r.skip r.heads r.level.kind r.level.count r.depth ks cs
