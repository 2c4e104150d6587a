-- What only functions below the operations cite: what a test of a record comes to.
use Rattle.std.specs.Prelude.{ℕ, ◌≡◌, Bool, true, false, ◌&&◌, Option, MatchOption}
use Rattle.wire.specs.Instances.{instances}
use Rattle.connection.specs.declared.Connection.{Connection}
use Rattle.connection.specs.Closings.{gate_ok}
use Rattle.range.specs.declared.Lengths.{Lengths}
use Rattle.range.specs.Ranges.{turn_ok, header_ok, accept_ok}

-- what a test of a record comes to: Some where it is in range, with how long its stores are, and None where it is not
abbrev pub Spans : Bool → ℕ → ℕ → Option Lengths → Type 0
Spans ranged long far r = MatchOption r (ranged ≡ false) (λ l. (ranged ≡ true) × (l.receive ≡ long) × (l.send ≡ far))

-- what is tested after the instances: the turn, the header record, the mark of Accept, the closing
abbrev pub rest_ok : Connection → Bool
rest_ok c =
    let b = c.settings.party.bundle in
    let r = c.receiving in
    turn_ok (instances b) c.sending.turn
    && (header_ok (instances b) c.settings.receive r.held r.header.count r.instance r.rest && (accept_ok b c.talk.accepted c.talk.states && gate_ok b c.gate))
