-- In range (document 01, "What the front holds"; document 02, K1): the settings, the record, and how long a store is. What stands in an array above
-- the bundle's last instance is not looked at.
use Rattle.std.specs.Prelude.{ℕ, ◌+◌, Bool, not, ◌&&◌, ◌||◌, List, eqb, leb, ltb, get_or}
use Rattle.base.specs.Below.{all_below}
use Rattle.ring.specs.Ring.{base_of}
use Rattle.wire.specs.Segments.{header_length}
use Rattle.wire.specs.Instances.{known, instances, handshake}
use Rattle.rows.specs.Rows.{done_of}
use Rattle.rows.specs.Spoken.{speaks}
use Rattle.connection.specs.declared.Settings.{Settings}
use Rattle.connection.specs.declared.Connection.{Connection}
use Rattle.connection.specs.Closings.{gate_ok}

-- ---- settings

-- a bundle that is known; payload limit S from 1 to 65,535; capacities each from 16 to 131,072
abbrev pub limit_ok : ℕ → Bool
limit_ok s = leb 1 s && leb s 65535

abbrev pub capacity_ok : ℕ → Bool
capacity_ok c = leb 16 c && leb c 131072

abbrev pub capacities_ok : Settings → ℕ → Bool
capacities_ok s i = capacity_ok (get_or s.receive i 0) && capacity_ok (get_or s.send i 0)

unfoldable pub settings_ok : Settings → Bool
settings_ok s = known s.party.bundle && (limit_ok s.limit && all_below (capacities_ok s) (instances s.party.bundle))

-- ---- a record

-- the area of instance i, for receiving or for sending: its capacity in range, the start place below it, the count not above it
abbrev pub area_ok : List ℕ → List ℕ → List ℕ → ℕ → Bool
area_ok caps starts counts i = capacity_ok (get_or caps i 0) && (ltb (get_or starts i 0) (get_or caps i 0) && leb (get_or counts i 0) (get_or caps i 0))

-- states are the protocol's
abbrev pub state_ok : ℕ → List ℕ → ℕ → Bool
state_ok b states i = leb (get_or states i 0) (done_of (speaks b i))

-- the turn is 1 to 8: of n instances, 1 to the last
abbrev pub turn_ok : ℕ → ℕ → Bool
turn_ok n t = leb 1 t && ltb t n

-- The header record has fewer than eight bytes, none with a payload under way, whose instance is at most 8: one of the n. What is held of it,
-- together with the rest of the payload, is not above the capacity.
abbrev pub header_ok : ℕ → List ℕ → List ℕ → ℕ → ℕ → ℕ → Bool
header_ok n caps held bytes instance rest =
    ltb bytes header_length
    && (eqb rest 0 || (eqb bytes 0 && (ltb instance n && leb (get_or held instance 0 + rest) (get_or caps instance 0))))

-- Accept is marked only with Handshake at Done
abbrev pub accept_ok : ℕ → Bool → List ℕ → Bool
accept_ok b accepted states = not accepted || eqb (get_or states handshake 0) (done_of (speaks b handshake))

-- all numbers of instance i
abbrev pub instance_ok : Connection → ℕ → Bool
instance_ok c i =
    area_ok c.settings.receive c.receiving.starts c.receiving.held i
    && (area_ok c.settings.send c.sending.starts c.sending.waiting i && state_ok c.settings.party.bundle c.talk.states i)

unfoldable pub in_range : Connection → Bool
in_range c =
    let b = c.settings.party.bundle in
    let n = instances b in
    let r = c.receiving in
    known b
    && (limit_ok c.settings.limit
    && (all_below (instance_ok c) n
    && (turn_ok n c.sending.turn
    && (header_ok n c.settings.receive r.held r.header.count r.instance r.rest
    && (accept_ok b c.talk.accepted c.talk.states && gate_ok b c.gate)))))

-- ---- stores

-- a store is as long as its capacities together
abbrev pub receive_length : Settings → ℕ
receive_length s = base_of s.receive (instances s.party.bundle)

abbrev pub send_length : Settings → ℕ
send_length s = base_of s.send (instances s.party.bundle)

abbrev pub receive_store_ok : Settings → ℕ → Bool
receive_store_ok s n = eqb n (receive_length s)

abbrev pub send_store_ok : Settings → ℕ → Bool
send_store_ok s n = eqb n (send_length s)

-- a record in range, and the store that is lent, of n bytes, as long as it says
abbrev pub receives : Connection → ℕ → Bool
receives c n = in_range c && receive_store_ok c.settings n

abbrev pub sends : Connection → ℕ → Bool
sends c n = in_range c && send_store_ok c.settings n
