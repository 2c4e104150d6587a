-- T5, headers: what is written is read back, both ways; a header that gains a byte; and bytes are divided into segments in one way: as statements.
use Rattle.std.specs.Prelude.{ℕ, ◌<◌, ◌≡◌, List, [], ◌∷◌, ◌++◌, length, take}
use Rattle.base.specs.Numbers.{Bytes}
use Rattle.wire.specs.declared.segment.Segment.{Segment}
use Rattle.wire.specs.declared.segment.Header.{Header}
use Rattle.wire.specs.Segments.{header_length, decoded, encoded, added, Carried, Divided}
use Rattle.wire.specs.Inside.{Fits}

-- T5: reading what was written gives it back, and every eight bytes are those of what they say
pub record RoundTrip : Type 0 where
  pub read_written : (s : Segment) → Fits s → decoded (encoded s) ≡ s
  pub written_read : (bs : List ℕ) → length bs ≡ header_length → Bytes bs → Fits (decoded bs) × (encoded (decoded bs) ≡ bs)

-- the bytes that have come
abbrev pub came : Header → List ℕ
came h = take h.count h.bytes

-- the bytes that have come, with one more, are those that had come with it behind them
abbrev pub Adds : Type 0
Adds = (h : Header) (b : ℕ) → length h.bytes ≡ header_length → h.count < header_length → came (added h b) ≡ came h ++ (b ∷ [])

-- a run of bytes is divided in one way
abbrev pub DividedOnce : Type 0
DividedOnce =
    (xs left left' : List ℕ) (cs cs' : List Carried) → Divided xs cs left → Divided xs cs' left' → (cs ≡ cs') × (left ≡ left')
