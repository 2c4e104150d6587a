-- What only the search by halves cites.
use Rattle.std.specs.Prelude.{ℕ, zero, suc, ◌+◌, ◌^◌, ◌<◌, ◌≤◌, cond, List, leb, get_or}

-- the first n slots rise strictly
abbrev pub Rising : List ℕ → ℕ → Type 0
Rising slots n = (p q : ℕ) → p < q → q < n → get_or slots p 0 < get_or slots q 0

-- between low and high the search goes on: of slots that rise, those before low are at or below the slot, and those from high on above it
pub record Between (slots : List ℕ) (n slot low high : ℕ) : Type 0 where
  pub low_le : low ≤ high
  pub high_le : high ≤ n
  pub before : Rising slots n → (k : ℕ) → k < low → get_or slots k 0 ≤ slot
  pub from : Rising slots n → (k : ℕ) → high ≤ k → k < n → slot < get_or slots k 0

-- how many of the powers of two below 2^k are at most n
unfoldable pub powers : ℕ → ℕ → ℕ
powers zero n = 0
powers (suc k) n = powers k n + cond (leb (2 ^ k) n) 1 0

-- what the search of n slots looks at, at most: ⌊log2 n⌋ + 1, and nothing where n is 0
abbrev pub looks : ℕ → ℕ
looks n = powers 64 n
