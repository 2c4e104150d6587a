-- Which number status answers, exactly when (document 01, "Numbers and their order"), as a statement.
use Rattle.std.specs.Prelude.{ℕ, ◌≡◌, true, false, ◌↔◌}
use Rattle.connection.specs.declared.Connection.{Connection}
use Rattle.range.specs.Ranges.{in_range}
use Rattle.telling.specs.Statuses.{status_of}

-- T2: when each number is answered
pub data When (c : Connection) : ℕ → Type 0 where
  out_of_range : in_range c ≡ false → When c 23
  done : in_range c ≡ true → When c 0

abbrev pub Exactly : Type 0
Exactly = (c : Connection) (n : ℕ) → ((status_of c).number ≡ n) ↔ When c n
