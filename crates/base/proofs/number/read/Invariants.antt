-- v is what the bytes so far spell, and so fits.
use Rattle.std.proofs.Common.{◌≡◌, ◌<◌, ◌^◌, take, drop}
use Rattle.base.specs.Numbers.{number}
use Rattle.base.proofs.number.read.Given as goal

abbrev pub invariant-loop-b : goal.invariant-loop-b
invariant-loop-b l = (l.v ≡ number (take l.b-index (drop l.at l.s))) × (l.v < 256 ^ l.b-index)
