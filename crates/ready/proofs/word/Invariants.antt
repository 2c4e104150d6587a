use mathlib.Core.Path.{◌≡◌}
use Prim.Native.Nat.{◌≤◌, ◌<◌, ◌^◌}
use lib.ListN.{length, take, drop}
use Rattle.wire.specs.Instances.{most}
use Rattle.ready.specs.Ready.{word_of}
use Rattle.ready.proofs.word.Given as goal

abbrev pub invariant-loop-i : goal.invariant-loop-i
invariant-loop-i l = (l.i ≤ l.n) × (length (take l.n l.waiting) ≡ l.n) × (l.word ≡ word_of (drop l.i (take l.n l.waiting))) × (l.word < 2 ^ most)
