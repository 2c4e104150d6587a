-- The lister (document 01, "Checked examples"): it judges layout only, and has a line for each whole segment.
use Rattle.std.specs.Prelude.{◌≡◌, ℕ, ◌+◌, ◌-◌, ◌%◌, ◌^◌, min, Bool, cond, Option, None, Some, List, [], ◌∷◌, ◌++◌, length, take, ◌==◌, nat_le, nat_lt}
use Rattle.wire.specs.declared.segment.Header.{Header}
use Rattle.wire.specs.declared.segment.Segment.{Segment}
use Rattle.wire.specs.Segments.{header_length, empty, added, decoded}
use Rattle.lister_core.specs.declared.Listing.{Listing}
use Rattle.lister_core.specs.declared.Step.{Step}

-- what bytes come to, and the segments that ended on the way
pub record Listed : Type 0 where
  pub listing : Listing
  pub lines : List Segment

-- counts are kept in 64 bits
abbrev pub plus : ℕ → ℕ → ℕ
plus n k = (n + k) % 2 ^ 64

-- k bytes more, after which the header is h and n payload bytes are to come
abbrev pub going : Listing → Header → ℕ → ℕ → Listed
going l h n k = record { listing = record { header = h; rest = n; segments = l.segments; bytes = plus l.bytes k }; lines = [] }

-- k bytes more, the last of the segment whose header is h
abbrev pub ending : Listing → Header → ℕ → Listed
ending l h k =
    record {
      listing = record { header = empty; rest = 0; segments = plus l.segments 1; bytes = plus l.bytes k };
      lines = decoded h.bytes ∷ [];
    }

-- the one or the other
unfoldable pub after : Listing → Header → ℕ → ℕ → Listed
after l h n k = cond (nat_lt 0 n) (going l h n k) (ending l h k)

-- one byte more of a header; the eighth says how long the payload is
unfoldable pub head_byte : Listing → ℕ → Listed
head_byte l b =
    let h = added l.header b in
    cond (nat_le header_length h.count) (after l h (decoded h.bytes).len 1) (going l h 0 1)

-- one byte more, of a payload where one is under way
unfoldable pub byte : Listing → ℕ → Listed
byte l b = cond (nat_lt 0 l.rest) (after l l.header (l.rest - 1) 1) (head_byte l b)

-- first the one, then the other
abbrev pub then : Listed → Listed → Listed
then r q = record { listing = q.listing; lines = r.lines ++ q.lines }

-- the bytes one after the other
unfoldable pub fed : Listing → List ℕ → Listed
fed l [] = record { listing = l; lines = [] }
fed l (b ∷ bs) = then (byte l b) (fed (byte l b).listing bs)

-- no byte yet
abbrev pub begun : Listing
begun = record { header = empty; rest = 0; segments = 0; bytes = 0 }

-- the bytes break off inside no segment: `end`, else `cut`
abbrev pub ended : Listing → Bool
ended l = l.header.count == 0

abbrev pub lines_of : Option Segment → List Segment
lines_of None = []
lines_of (Some s) = s ∷ []

abbrev pub told : Step → Listed
told r = record { listing = r.listing; lines = lines_of r.line }

-- a step uses one byte of a header, or the payload bytes that are there
unfoldable pub used_of : Listing → List ℕ → ℕ
used_of l bs = min (cond (nat_lt 0 l.rest) l.rest 1) (length bs)

-- a step comes to what the bytes that it uses come to one after the other
pub record Stepped (l : Listing) (bs : List ℕ) (r : Step) : Type 0 where
  pub used : r.used ≡ used_of l bs
  pub comes : told r ≡ fed l (take r.used bs)
