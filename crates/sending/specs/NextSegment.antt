-- Next segment (document 01, "Segments" and "Numbers and their order": 20; notice 4; 18; 23 before all others; document 02, K1).
use Rattle.std.specs.Prelude.{ℕ, ◌+◌, min, cond, List, ◌++◌, ltb, length, get_or, take}
use Rattle.std.proofs.lemmas.List.Edits.{sets}
use Rattle.wire.specs.declared.segment.Segment.{Segment}
use Rattle.wire.specs.declared.instances.Party.{Party}
use Rattle.wire.specs.Segments.{header_length, encoded}
use Rattle.wire.specs.Instances.{instances, protocol_of, mode_of}
use Rattle.ready.specs.Ready.{chosen, turn_after}
use Rattle.std.specs.Prelude.{Option, Some, None}
use Rattle.connection.specs.declared.Sending.{Sending}
use Rattle.connection.specs.declared.Connection.{Connection}
use Rattle.connection.specs.Closings.{is_open}
use Rattle.range.specs.Ranges.{sends}
use Rattle.connection.specs.Areas.{starts_past, counts_less}
use Rattle.connection.specs.Parts.{with_sending, first_waiting}
use Rattle.sending.specs.declared.Made.{Made}

-- an answer, and what the lent buffer then holds
pub record Told : Type 0 where
  pub answer : Made
  pub buffer : List ℕ

abbrev pub told : Made → List ℕ → Told
told m buf = record { answer = m; buffer = buf }

-- a refusal or a notice changes nothing
abbrev pub refused : Connection → ℕ → Made
refused c n = record { number = n; len = 0; connection = c }

-- it sends the smaller of S and the bytes waiting
abbrev pub much : Connection → ℕ → ℕ
much c i = min c.settings.limit (get_or c.sending.waiting i 0)

-- the header: the caller's time, the mode and protocol number of what we send as instance i of the bundle, and the payload's length
abbrev pub headed : Party → ℕ → ℕ → ℕ → Segment
headed us time i n = record { time = time; mode = mode_of us i; protocol = protocol_of us.bundle i; len = n }

-- the payload: the first bytes waiting
abbrev pub payload_of : Connection → List ℕ → ℕ → List ℕ
payload_of c store i = first_waiting c store i (much c i)

-- n bytes of instance i are sent, and the turn moves, round the bundle's instances
abbrev pub sent_of : ℕ → Sending → List ℕ → ℕ → ℕ → Sending
sent_of b w caps i n =
    record {
      starts = starts_past caps w.starts i n;
      waiting = counts_less w.waiting i n;
      turn = turn_after (instances b) i w.turn;
    }

-- 18 is given when the lent buffer is shorter than header and payload
unfoldable pub serve : Connection → List ℕ → ℕ → List ℕ → ℕ → Told
serve c store time buf i =
    let us = c.settings.party in
    cond (ltb (length buf) (header_length + much c i)) (told (refused c 18) buf)
    (told (record { number = 0; len = header_length + much c i; connection = with_sending c (sent_of us.bundle c.sending c.settings.send i (much c i)) })
    (sets buf 0 (encoded (headed us time i (much c i)) ++ payload_of c store i)))

abbrev pub by_choice : Connection → List ℕ → ℕ → List ℕ → Option ℕ → Told
by_choice c store time buf None = told (refused c 4) buf
by_choice c store time buf (Some i) = serve c store time buf i

-- who is served: of the bundle's instances, by the bytes waiting and the turn
abbrev pub chosen_of : Connection → Option ℕ
chosen_of c = chosen (take (instances c.settings.party.bundle) c.sending.waiting) c.sending.turn

unfoldable pub next_of : Connection → List ℕ → ℕ → List ℕ → Told
next_of c store time buf =
    cond (sends c (length store))
    (cond (is_open c.gate) (by_choice c store time buf (chosen_of c)) (told (refused c 20) buf))
    (told (refused c 23) buf)
