-- Segments (000, section 2.1.1; document 01, "Segments").
use Rattle.std.specs.Prelude.{ℕ, ◌+◌, ◌*◌, ◌/◌, ◌%◌, ◌^◌, ◌<◌, ◌≡◌, cond, List, [], ◌∷◌, ◌++◌, ltb, length, take, drop, set, replicate}
use Rattle.base.specs.Numbers.{number, octets}
use Rattle.wire.specs.declared.segment.Segment.{Segment}
use Rattle.wire.specs.declared.segment.Header.{Header}

-- eight header bytes
abbrev pub header_length : ℕ
header_length = 8

-- four bytes of time, two of mode and protocol number, two of payload length; the top bit of the middle two is the mode
unfoldable pub decoded : List ℕ → Segment
decoded bs =
    let word = number (take 2 (drop 4 bs)) in
    record { time = number (take 4 bs); mode = word / 2 ^ 15; protocol = word % 2 ^ 15; len = number (take 2 (drop 6 bs)) }

unfoldable pub encoded : Segment → List ℕ
encoded s = octets 4 s.time ++ (octets 2 (s.mode * 2 ^ 15 + s.protocol) ++ octets 2 s.len)

-- the header record with no byte yet
abbrev pub empty : Header
empty = record { bytes = replicate header_length 0; count = 0 }

-- one byte more; a whole record stays
unfoldable pub added : Header → ℕ → Header
added h b = cond (ltb h.count header_length) (record { bytes = set h.bytes h.count b; count = h.count + 1 }) h

-- a whole segment: what its header says, and its payload
pub record Carried : Type 0 where
  pub header : Segment
  pub payload : List ℕ

-- A run of bytes by the layout: the whole segments in order, and then what is left, in which bytes break off inside a segment or there are none.
pub data Divided : List ℕ → List Carried → List ℕ → Type 0 where
  in_header : {bs : List ℕ} → length bs < header_length → Divided bs [] bs
  in_payload : (h p : List ℕ) → length h ≡ header_length → length p < (decoded h).len → Divided (h ++ p) [] (h ++ p)
  whole : (h p : List ℕ) {bs left : List ℕ} {cs : List Carried} → length h ≡ header_length → length p ≡ (decoded h).len
      → Divided bs cs left → Divided (h ++ (p ++ bs)) (record { header = decoded h; payload = p } ∷ cs) left
