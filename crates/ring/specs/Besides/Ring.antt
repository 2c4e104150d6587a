-- What is written to one area leaves every byte elsewhere.
use Rattle.std.specs.Prelude.{ℕ, ◌+◌, ◌<◌, ◌≡◌, ◌≢◌, List, length, get_or}
use Rattle.ring.specs.Ring.{place, laid}

-- nothing else is written
abbrev pub Elsewhere : Type 0
Elsewhere = (store : List ℕ) (base cap n : ℕ) (xs : List ℕ) (p : ℕ) → ((j : ℕ) → j < length xs → p ≢ place base cap (n + j))
    → get_or (laid store base cap n xs) p 0 ≡ get_or store p 0
