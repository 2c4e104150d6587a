-- P1 to P12 (document 01, "Checked examples"): one table, and what each of its entries says.
use Rattle.std.specs.Prelude.{ℕ, zero, suc, ◌*◌, ◌≡◌, false, cond, List, [], ◌∷◌, ◌++◌, eqb, take, drop, replicate, set, Ok, Err, is_ok}
use Rattle.wire.specs.declared.segment.Segment.{Segment}
use Rattle.wire.specs.declared.instances.Side.{Side}
use Rattle.wire.specs.declared.instances.Side.TheVariants.{Dialler, Accepter}
use Rattle.wire.specs.declared.instances.Party.{Party}
use Rattle.wire.specs.Segments.{header_length, empty, decoded, encoded}
use Rattle.wire.specs.Instances.{most, route_of}
use Rattle.item.specs.declared.NotWhole.TheVariants.{Bad, Incomplete}
use Rattle.item.specs.Verdict.{verdict, Verdict}
use Rattle.rows.specs.declared.Protocol.{Protocol}
use Rattle.rows.specs.declared.Protocol.TheVariants.{ChainSync, KeepAlive}
use Rattle.rows.specs.Spoken.{speaks}
use Rattle.messages.specs.declared.Message.{Message}
use Rattle.messages.specs.Reading.{message_of, read}
use Rattle.ready.specs.declared.Ready.{Ready}
use Rattle.connection.specs.declared.Connection.{Connection}
use Rattle.connection.specs.declared.Gate.TheVariants.{Open}
use Rattle.telling.specs.Statuses.{status_of}
use Rattle.feeding.specs.Feeding.{feed_of}
use Rattle.sending.specs.NextSegment.{next_of}
use Rattle.promises.specs.Calls.{All}

abbrev pub none : List ℕ
none = replicate most 0

-- the bytes of a store
abbrev pub store : List ℕ
store = replicate (most * 16) 0

-- a party of node to node, bundle 0
abbrev pub peer : Side → Party
peer side = record { bundle = 0; side = side }

-- a dialler's connection of node to node, with capacities of 16, S = 4 and turn 1: so much is held, and so much waits, by instance
abbrev pub holding : List ℕ → List ℕ → Connection
holding held waiting =
    record {
      settings = record { party = peer Dialler; limit = 4; receive = replicate most 16; send = replicate most 16 };
      receiving = record { starts = none; held = held; header = empty; instance = 0; rest = 0 };
      sending = record { starts = none; waiting = waiting; turn = 1 };
      talk = record { states = none; accepted = false };
      gate = Open;
    }

-- what the next k segments say, read back from the buffer, up to one that is not made, and the last number
pub record Made : Type 0 where
  pub segments : List Segment
  pub number : ℕ

abbrev pub after : Segment → Made → Made
after s m = record { segments = s ∷ m.segments; number = m.number }

unfoldable pub made : ℕ → Connection → Made
made zero c = record { segments = []; number = 0 }
made (suc k) c =
    let r = next_of c store 0 (replicate 16 0) in
    cond (eqb r.answer.number 0) (after (decoded (take header_length r.buffer)) (made k r.answer.connection))
    (record { segments = []; number = r.answer.number })

pub data Example : Type 0 where
  -- a segment's bytes, what its header says, the instance that it is for on either side, what that speaks, and the message in it
  carries : List ℕ → Segment → ℕ → Protocol → Message → Example
  -- bytes that are this message, and bytes that are none
  says : Protocol → List ℕ → Message → Example
  says_nothing : Protocol → List ℕ → Example
  -- the verdict on bytes
  judged : List ℕ → Verdict → Example
  -- with 13 bytes held at instance 8, a header that announces n bytes for it is answered so
  answered : ℕ → ℕ → Example
  -- with these bytes waiting, status tells this of who is ready, and these segments are made, and then this number answered
  serves : List ℕ → Ready → Made → Example

abbrev pub Holds : Example → Type 0
Holds (carries bs s i p m) =
    (decoded (take header_length bs) ≡ s)
    × (route_of (peer Dialler) s.protocol s.mode ≡ Ok i)
    × (route_of (peer Accepter) s.protocol s.mode ≡ Ok i)
    × (speaks 0 i ≡ p)
    × (message_of p (drop header_length bs) ≡ read m)
Holds (says p bs m) = message_of p bs ≡ read m
Holds (says_nothing p bs) = is_ok (message_of p bs) ≡ false
Holds (judged bs v) = verdict bs ≡ v
Holds (answered n k) =
    (feed_of (holding (set none 8 13) none) store (encoded (record { time = 0; mode = 0; protocol = 8; len = n }))).answer.number ≡ k
Holds (serves waiting r m) = ((status_of (holding none waiting)).ready ≡ r) × (made 5 (holding none waiting) ≡ m)

-- a Keep-alive message with its cookie, which has no places; and a Chain-Sync message with its places
abbrev pub cookie : ℕ → ℕ → Message
cookie kind n = record { kind = kind; numbers = n ∷ 0 ∷ 0 ∷ []; count = 1; places = replicate 4 0; parts = 0 }

abbrev pub placed : ℕ → List ℕ → ℕ → Message
placed kind places parts = record { kind = kind; numbers = replicate 3 0; count = 0; places = places; parts = parts }

-- a segment made for our initiator of a protocol
abbrev pub initiated : ℕ → ℕ → Segment
initiated p n = record { time = 0; mode = 0; protocol = p; len = n }

abbrev pub table : List Example
table =
    -- P1: time 1, Keep-alive, for the responder 8, cookie 7. P2: instance 7, Response 7.
    carries (0x00 ∷ 0x00 ∷ 0x00 ∷ 0x01 ∷ 0x00 ∷ 0x08 ∷ 0x00 ∷ 0x03 ∷ 0x82 ∷ 0x00 ∷ 0x07 ∷ [])
    (record { time = 1; mode = 0; protocol = 8; len = 3 }) 8 KeepAlive (cookie 0 7)
    ∷ carries (0x00 ∷ 0x00 ∷ 0x00 ∷ 0x02 ∷ 0x80 ∷ 0x08 ∷ 0x00 ∷ 0x03 ∷ 0x82 ∷ 0x01 ∷ 0x07 ∷ [])
    (record { time = 2; mode = 1; protocol = 8; len = 3 }) 7 KeepAlive (cookie 1 7)
    -- P3: cookie 65,535; P4 is 15
    ∷ says KeepAlive (0x82 ∷ 0x00 ∷ 0x19 ∷ 0xff ∷ 0xff ∷ []) (cookie 0 65535)
    ∷ says_nothing KeepAlive (0x82 ∷ 0x00 ∷ 0x1a ∷ 0x00 ∷ 0x01 ∷ 0x00 ∷ 0x00 ∷ [])
    -- P5: FindIntersect of nothing. P6: RollForward, items of 2 and 3 bytes.
    ∷ says ChainSync (0x82 ∷ 0x04 ∷ 0x80 ∷ []) (placed 4 (3 ∷ 0 ∷ 0 ∷ 0 ∷ []) 1)
    ∷ says ChainSync (0x83 ∷ 0x02 ∷ 0x41 ∷ 0xaa ∷ 0x82 ∷ 0x80 ∷ 0x00 ∷ []) (placed 2 (2 ∷ 2 ∷ 4 ∷ 3 ∷ []) 2)
    -- P7: f81f bad, f820 well-formed, f8 incomplete. P8: 9fff well-formed, ff bad. P9: bf00ff bad.
    ∷ judged (0xf8 ∷ 0x1f ∷ []) (Err (Bad 1)) ∷ judged (0xf8 ∷ 0x20 ∷ []) (Ok 2) ∷ judged (0xf8 ∷ []) (Err Incomplete)
    ∷ judged (0x9f ∷ 0xff ∷ []) (Ok 2) ∷ judged (0xff ∷ []) (Err (Bad 0))
    ∷ judged (0xbf ∷ 0x00 ∷ 0xff ∷ []) (Err (Bad 2))
    -- P10: sixteen 81 then 00 well-formed; seventeen 81 bad
    ∷ judged (replicate 16 0x81 ++ (0x00 ∷ [])) (Ok 17) ∷ judged (replicate 17 0x81) (Err (Bad 16))
    -- P11: capacity 16, 13 held: n = 3 accepted, n = 4 gives 13
    ∷ answered 3 0 ∷ answered 4 13
    -- P12: S = 4, turn 1, instance 1 with 10 bytes and 7 with 3: word 130, two ready, lowest 1; segments 1 (4), 7 (3), 1 (4), 1 (2), then notice 4
    ∷ serves (set (set none 1 10) 7 3) (record { word = 130; count = 2; lowest = 1 })
    (record { segments = initiated 2 4 ∷ initiated 8 3 ∷ initiated 2 4 ∷ initiated 2 2 ∷ []; number = 4 })
    ∷ []

-- T16: every example of the table holds
abbrev pub Examples : Type 0
Examples = All Holds table
