use mathlib.Core.Path.{◌≡◌}
use Prim.Native.Nat.{◌-◌, ◌<◌}
use Rattle.ready.specs.Inside.{seek_in}
use Rattle.ready.proofs.choose.Given as goal

abbrev pub invariant-loop : goal.invariant-loop
invariant-loop l = (l.i < l.n) × (seek_in l.n l.word l.i (l.n - l.counter) ≡ seek_in l.n l.word l.turn (l.n - 1))
