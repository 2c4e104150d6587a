-- What only this crate's own functions cite.
use Rattle.std.specs.Prelude.{ℕ, List}
use Rattle.std.specs.Prelude.{Option, Some, None}
use Rattle.connection.specs.declared.Connection.{Connection}
use Rattle.range.specs.Besides.Ranges.{InSend}

-- whoever is chosen is an instance of a record in range with its send store
abbrev pub Chosen : Connection → List ℕ → Option ℕ → Type 0
Chosen c store None = Unit {0}
Chosen c store (Some i) = InSend c store i
