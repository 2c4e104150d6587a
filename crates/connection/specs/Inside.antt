-- What only functions below the operations cite: the area of an instance.
use Rattle.std.specs.Prelude.{ℕ, ◌+◌, ◌<◌, ◌≤◌, List, length, get_or}
use Rattle.ring.specs.Ring.{base_of}

-- the area of instance i in a store of n bytes
pub record Area (caps : List ℕ) (n i : ℕ) : Type 0 where
  pub listed : i < length caps
  pub some : 0 < get_or caps i 0
  pub inside : base_of caps i + get_or caps i 0 ≤ n
