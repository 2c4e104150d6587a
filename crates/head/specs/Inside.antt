-- What only functions below the operations cite.
use Rattle.std.specs.Prelude.{ℕ, ◌+◌}
use Rattle.head.specs.Write.{width_of}

-- so the head is 1, 2, 3, 5 or 9 bytes long
abbrev pub length_of : ℕ → ℕ
length_of v = (width_of v).bytes + 1
