use Rattle.std.proofs.Common.{◌≡◌, ◌≤◌, ◌⊎◌}
use Rattle.point_log.specs.Log.{slots_of, rises_to}
use Rattle.point_log.proofs.rows.rises.Given as goal

abbrev pub invariant-loop-i : goal.invariant-loop-i
invariant-loop-i g l =
    record { none_past : (l.i ≤ l.n) ⊎ (l.i ≡ 1); so_far : l.good ≡ rises_to (slots_of (g.R.Rows.records l.rows)) l.i }
