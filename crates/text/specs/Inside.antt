-- What only functions below the operations cite.
use Rattle.std.specs.Prelude.{ℕ, ◌+◌, ◌≤◌, ◌≡◌, List}
use Rattle.std.proofs.lemmas.List.Edits.{sets}
use Rattle.io.specs.Digits.{last_digits, IsDigitCount}

-- The buffer is xs, and then ys, where the fewest decimal digits of n stand at a place; r is the place behind them.
pub record Decimal (xs : List ℕ) (at n : ℕ) (ys : List ℕ) (r : ℕ) : Type 0 where
  pub count : ℕ
  pub few : count ≤ 20
  pub fewest : IsDigitCount 10 1 n count
  pub stored : ys ≡ sets xs at (last_digits 10 count n)
  pub next : r ≡ at + count
