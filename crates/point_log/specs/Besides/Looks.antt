-- How many slots the search of n looks at: ⌊log2 n⌋ + 1 at most. The loop has one look in each turn, and its measure is `looks` of what lies between the ends, which the checker
-- asks to be less after each turn; at the start all n lie between them.
use Rattle.std.specs.Prelude.{ℕ, ◌+◌, ◌^◌, ◌≤◌, ◌<◌, ◌≡◌}
use Rattle.point_log.specs.Inside.{looks}

abbrev pub AsLog : Type 0
AsLog = (n j : ℕ) → j < 64 → 2 ^ j ≤ n → n < 2 ^ (j + 1) → looks n ≡ j + 1
