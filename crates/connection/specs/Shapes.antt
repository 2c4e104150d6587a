-- What every value of the record's type has: arrays with room for the largest bundle, and a header of eight bytes.
use Rattle.std.specs.Prelude.{ℕ, List, ◌≡◌, length, replicate}
use Rattle.wire.specs.Segments.{header_length}
use Rattle.wire.specs.Instances.{most}
use Rattle.connection.specs.declared.Connection.{Connection}

-- an array by instance of zeros
abbrev pub zeros : List ℕ
zeros = replicate most 0

pub record Shaped (c : Connection) : Type 0 where
  pub receive : length c.settings.receive ≡ most
  pub send : length c.settings.send ≡ most
  pub receive_starts : length c.receiving.starts ≡ most
  pub held : length c.receiving.held ≡ most
  pub header : length c.receiving.header.bytes ≡ header_length
  pub send_starts : length c.sending.starts ≡ most
  pub waiting : length c.sending.waiting ≡ most
  pub states : length c.talk.states ≡ most
