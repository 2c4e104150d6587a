-- What only this crate's proofs cite: what a record in range with its send store has of one of its instances.
use Rattle.std.specs.Prelude.{ℕ, ◌+◌, ◌<◌, ◌≤◌, List, length, get_or}
use Rattle.ring.specs.Ring.{base_of}
use Rattle.wire.specs.Instances.{instances, most}
use Rattle.connection.specs.declared.Connection.{Connection}

-- The area of instance i is in the store; where its bytes begin, and how many wait, are small numbers.
pub record Waits (c : Connection) (store : List ℕ) (i : ℕ) : Type 0 where
  pub one : i < instances c.settings.party.bundle
  pub below : i < most
  pub listed : i < length c.settings.send
  pub stored : base_of c.settings.send i + get_or c.settings.send i 0 ≤ length store
  pub some : 0 < get_or c.settings.send i 0
  pub small : get_or c.settings.send i 0 ≤ 131072
  pub start : get_or c.sending.starts i 0 < get_or c.settings.send i 0
  pub waiting : get_or c.sending.waiting i 0 ≤ get_or c.settings.send i 0
