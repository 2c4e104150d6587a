use Rattle.std.proofs.Common.{◌≡◌, ◌≤◌, length}
use Rattle.messages.specs.Inside.{form_at}
use Rattle.parts.specs.Inside.{left_of, arguments_of}
use Rattle.parts.proofs.judge.Given as goal

abbrev pub invariant-loop-i : goal.invariant-loop-i
invariant-loop-i l = (l.n ≤ l.i) × (l.r ≤ l.i) × (length l.arguments ≡ 3)
    × (left_of l.given (form_at l.row).fields l.i l.n l.r l.arguments ≡ arguments_of l.given (form_at l.row).fields)
