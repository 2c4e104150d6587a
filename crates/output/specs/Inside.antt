-- What stands in the buffer of a line.
use Rattle.std.specs.Prelude.{◌≡◌, ◌-◌, ◌%◌, ◌<◌, ℕ, List, length, slice_index}
use Rattle.io.specs.Digits.{hex_digit_ascii}
use Rattle.text.specs.Inside.{Decimal}

-- the byte b stands just before a place
pub record EndsIn (b : ℕ) (ys : List ℕ) (at : ℕ) : Type 0 where
  pub some : 0 < at
  pub last : slice_index ys (at - 1) ≡ b

-- the fewest decimal digits of n stand just before a place, written there over what stood before
pub record EndsInDecimal (n : ℕ) (ys : List ℕ) (at : ℕ) : Type 0 where
  pub before : List ℕ
  pub from : ℕ
  pub digits : Decimal before from n ys at

-- the last digit of the byte b, in hex, stands just before a place
abbrev pub EndsInHex : ℕ → List ℕ → ℕ → Type 0
EndsInHex b ys at = EndsIn (hex_digit_ascii (b % 16)) ys at

-- it holds for the last of some numbers, if there is one
abbrev pub OfLast : (ℕ → Type 0) → List ℕ → Type 0
OfLast P xs = 0 < length xs → P (slice_index xs (length xs - 1))
