-- An instance of a record in range, with its receive store or its send store.
use Rattle.std.specs.Prelude.{ℕ, ◌<◌, ◌≡◌, true, List, length}
use Rattle.wire.specs.Instances.{instances}
use Rattle.connection.specs.declared.Connection.{Connection}
use Rattle.range.specs.Ranges.{receives, sends}

-- ---- stores

-- an instance of a record in range with its receive store, and with its send store
abbrev pub InReceive : Connection → List ℕ → ℕ → Type 0
InReceive c store i = (receives c (length store) ≡ true) × (i < instances c.settings.party.bundle)

abbrev pub InSend : Connection → List ℕ → ℕ → Type 0
InSend c store i = (sends c (length store) ≡ true) × (i < instances c.settings.party.bundle)
