-- What the ready word says of each instance, and who is chosen: as statements.
use Rattle.std.specs.Prelude.{ℕ, ◌/◌, ◌%◌, ◌^◌, ◌<◌, ◌≤◌, ◌↔◌, ◌≡◌, List, length, get_or, Some, None}
use Rattle.ready.specs.Ready.{bit_of, word_of, chosen}

-- what the word says of each instance
abbrev pub BitByBit : Type 0
BitByBit = (ws : List ℕ) (i : ℕ) → i < length ws → word_of ws / 2 ^ i % 2 ≡ bit_of (get_or ws i 0)

abbrev pub NoMore : Type 0
NoMore = (ws : List ℕ) → word_of ws < 2 ^ length ws

-- nobody is chosen if and only if nobody has bytes waiting
abbrev pub NobodyWaits : Type 0
NobodyWaits =
    (ws : List ℕ) (turn : ℕ) → 1 ≤ turn → turn < length ws
    → (chosen ws turn ≡ None) ↔ ((i : ℕ) → i < length ws → get_or ws i 0 ≡ 0)

-- whoever is chosen is an instance with bytes waiting
abbrev pub ChosenWaits : Type 0
ChosenWaits = (ws : List ℕ) (turn i : ℕ) → chosen ws turn ≡ Some i → (i < length ws) × (0 < get_or ws i 0)
