-- A record with one of its parts replaced, and the bytes of an instance.
use Rattle.std.specs.Prelude.{ℕ, List, get_or}
use Rattle.connection.specs.declared.Receiving.{Receiving}
use Rattle.connection.specs.declared.Sending.{Sending}
use Rattle.connection.specs.declared.Talk.{Talk}
use Rattle.connection.specs.declared.Gate.{Gate}
use Rattle.connection.specs.declared.Connection.{Connection}
use Rattle.connection.specs.Areas.{bytes_of}

abbrev pub with_receiving : Connection → Receiving → Gate → Connection
with_receiving c r g = record { settings = c.settings; receiving = r; sending = c.sending; talk = c.talk; gate = g }

abbrev pub with_sending : Connection → Sending → Connection
with_sending c w = record { settings = c.settings; receiving = c.receiving; sending = w; talk = c.talk; gate = c.gate }

abbrev pub with_talk : Connection → Talk → Connection
with_talk c t = record { settings = c.settings; receiving = c.receiving; sending = c.sending; talk = t; gate = c.gate }

abbrev pub with_gate : Connection → Gate → Connection
with_gate c g = record { settings = c.settings; receiving = c.receiving; sending = c.sending; talk = c.talk; gate = g }

-- ---- the bytes of an instance

-- the first n bytes held of instance i, and all of them
abbrev pub first_held : Connection → List ℕ → ℕ → ℕ → List ℕ
first_held c store i n = bytes_of c.settings.receive store i (get_or c.receiving.starts i 0) n

abbrev pub held_of : Connection → List ℕ → ℕ → List ℕ
held_of c store i = first_held c store i (get_or c.receiving.held i 0)

-- the first n bytes waiting of instance i, and all of them
abbrev pub first_waiting : Connection → List ℕ → ℕ → ℕ → List ℕ
first_waiting c store i n = bytes_of c.settings.send store i (get_or c.sending.starts i 0) n

abbrev pub waiting_of : Connection → List ℕ → ℕ → List ℕ
waiting_of c store i = first_waiting c store i (get_or c.sending.waiting i 0)
