-- Where nine bytes of a ring lie in one piece.
use Rattle.std.specs.Prelude.{ℕ, ◌+◌, ◌-◌, ◌≤◌, ◌<◌, ◌⊎◌, ◌≡◌}
use Rattle.usual.specs.declared.Piece.{Piece}

-- The place i of n bytes from `from` on is the place p of a slice of so many bytes, and eight bytes follow there.
pub record Spot (len from n i p : ℕ) : Type 0 where
  pub more : i + 8 < n
  pub inside : p + 8 < len
  pub is : (p ≡ from + i) ⊎ (p + (len - from) ≡ i)

-- Such are all places of a piece from `at` on.
pub record Pieces (len from n at plus minus lim : ℕ) : Type 0 where
  pub low : (i : ℕ) → at ≤ i → i < lim → (minus ≤ i + plus) × (i + plus ≤ len)
  pub spot : (i : ℕ) → at ≤ i → i < lim → Spot len from n i (i + plus - minus)

abbrev pub PieceAt : ℕ → ℕ → ℕ → ℕ → Piece → Type 0
PieceAt len from n at z = Pieces len from n at z.plus z.minus z.lim
