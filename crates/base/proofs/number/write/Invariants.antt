-- To store the j bytes that are left gives what was to be stored at the start.
use Rattle.std.proofs.Common.{◌≡◌}
use Rattle.std.proofs.lemmas.List.Edits.{sets}
use Rattle.base.specs.Numbers.{octets}
use Rattle.base.proofs.number.write.Given as goal

abbrev pub invariant-loop-j : goal.invariant-loop-j
invariant-loop-j l = sets l.s l.at (octets l.j l.rest) ≡ sets l.initial.s l.at (octets l.k l.n)
