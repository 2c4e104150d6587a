use Rattle.std.proofs.Common.{◌≡◌, ◌+◌, ◌≤◌, length}
use Rattle.std.proofs.lemmas.List.Edits.{sets}
use Rattle.layout.specs.Inside.Message.{body, rest}
use Rattle.layout.proofs.message.Message.put_fields.Given as goal

abbrev pub invariant-loop-i : goal.invariant-loop-i
invariant-loop-i l = let m = l.self in (l.r ≤ l.i) × (l.at + length (rest m l.i l.r) ≤ length l.initial.buf)
    × (sets l.buf l.at (rest m l.i l.r) ≡ sets l.initial.buf l.start (body m))
