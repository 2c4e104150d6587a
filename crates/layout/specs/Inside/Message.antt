-- The bytes of a message, and how long its heads are.
use Rattle.std.specs.Prelude.{ℕ, List, drop}
use Rattle.messages.specs.Inside.{form_at}
use Rattle.layout.specs.declared.message.Message.{Message}
use Rattle.layout.specs.Inside.{body_of, heads_of, whole_of, all_heads}

-- how long its heads and breaks are together, of its fields, and of all of it
abbrev pub field_heads : Message → ℕ
field_heads m = heads_of m.asked (form_at m.row).fields m.arguments 0

abbrev pub heads : Message → ℕ
heads m = all_heads m.asked (form_at m.row).fields m.kind m.arguments

-- its bytes: from field i and run r on, of all fields, and all of it
abbrev pub rest : Message → ℕ → ℕ → List ℕ
rest m i r = body_of m.asked m.given.first.now m.given.second.now (drop i (form_at m.row).fields) m.arguments i r

abbrev pub body : Message → List ℕ
body m = body_of m.asked m.given.first.now m.given.second.now (form_at m.row).fields m.arguments 0 0

abbrev pub whole : Message → List ℕ
whole m = whole_of m.asked m.given.first.now m.given.second.now (form_at m.row).fields m.kind m.arguments
