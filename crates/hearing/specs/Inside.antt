-- What only functions below the operations cite: what a record in range with its receive store has of one of its instances.
use Rattle.std.specs.Prelude.{ℕ, ◌+◌, ◌<◌, ◌≤◌, List, length, get_or}
use Rattle.ring.specs.Ring.{base_of}
use Rattle.wire.specs.Instances.{most}

-- The area of instance i is in a store of n bytes, and what is held, from the place `first` on, is in the area.
pub record Held (caps : List ℕ) (n i first count : ℕ) : Type 0 where
  pub below : i < most
  pub listed : i < length caps
  pub stored : base_of caps i + get_or caps i 0 ≤ n
  pub some : 0 < get_or caps i 0
  pub small : get_or caps i 0 ≤ 131072
  pub placed : first < get_or caps i 0
  pub within : count ≤ get_or caps i 0
