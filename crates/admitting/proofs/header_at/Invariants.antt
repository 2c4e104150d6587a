use mathlib.Core.Path.{◌≡◌}
use Prim.Native.Nat.{◌≤◌}
use Rattle.ring.specs.Ring.{run}
use Rattle.wire.specs.Segments.{header_length, empty}
use Rattle.admitting.specs.Inside.{filled}
use Rattle.admitting.proofs.header_at.Given as goal

abbrev pub invariant-loop-j : goal.invariant-loop-j
invariant-loop-j l = (l.j ≤ header_length) × (l.header ≡ filled empty (run l.input l.at l.j))
