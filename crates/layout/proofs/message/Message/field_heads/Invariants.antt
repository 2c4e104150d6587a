use Rattle.std.proofs.Common.{◌≡◌, ◌+◌, ◌*◌, ◌≤◌, drop}
use Rattle.messages.specs.Inside.{form_at}
use Rattle.layout.specs.Inside.{heads_of}
use Rattle.layout.specs.Inside.Message.{field_heads}
use Rattle.layout.proofs.message.Message.field_heads.Given as goal

abbrev pub invariant-loop-i : goal.invariant-loop-i
invariant-loop-i l = let m = l.self in (l.sum ≤ 9 * l.i) × (l.sum + heads_of m.asked (drop l.i (form_at m.row).fields) m.arguments l.i ≡ field_heads m)
