use mathlib.Core.Path.{◌≡◌}
use Prim.Native.Nat.{◌-◌, ◌≤◌}
use lib.ListN.{length}
use Rattle.ring.specs.Inside.{seen}
use Rattle.elements.specs.Reading.{walk, elements_of}
use Rattle.elements.proofs.walk.Given as goal

abbrev pub invariant-loop-e : goal.invariant-loop-e
invariant-loop-e l = (l.k ≤ l.at) × (walk (seen l.v) l.d l.e l.x (length (seen l.v) - l.k) l.k l.low l.at ≡ elements_of (seen l.v) l.d l.e l.x l.first)

abbrev pub decreases-loop-e : goal.decreases-loop-e
decreases-loop-e l = l.v.len - l.at
