-- Feed (document 01, "Segments", and "Numbers and their order"; document 02, K1). What a header leads to is in crate `admitting`.
use Rattle.std.specs.Prelude.{ℕ, suc, ◌+◌, ◌-◌, ◌≡◌, cond, List, [], ◌∷◌, eqb, length, get_or, set}
use Rattle.base.specs.Numbers.{Bytes}
use Rattle.wire.specs.declared.segment.Header.{Header}
use Rattle.wire.specs.Segments.{header_length}
use Rattle.wire.specs.declared.instances.Party.{Party}
use Rattle.connection.specs.declared.Connection.{Connection}
use Rattle.connection.specs.declared.Gate.{Gate}
use Rattle.connection.specs.declared.Gate.TheVariants.{Open, Closed}
use Rattle.connection.specs.Closings.{closing_number, is_open}
use Rattle.connection.specs.Areas.{laid_in}
use Rattle.connection.specs.Parts.{with_receiving}
use Rattle.range.specs.Ranges.{receives}
pub use Rattle.admitting.specs.Admitting.{Reception, admitted, instance_for, with_header, settled}
unfoldable pub use Rattle.admitting.specs.Admitting.{admission, headed}
use Rattle.feeding.specs.declared.Fed.{Fed}

-- ---- a payload

-- bytes of the payload under way are held: they follow those that are held, in the stream of the instance
unfoldable pub kept : List ℕ → Reception → List ℕ → Reception
kept caps s xs =
    let r = s.receiving in
    let i = r.instance in
    let held = get_or r.held i 0 in
    let rest = r.rest - length xs in
    record {
      receiving =
          record {
            starts = r.starts;
            held = set r.held i (held + length xs);
            header = r.header;
            instance = instance_for rest i;
            rest = rest;
          };
      gate = s.gate;
      store = laid_in caps s.store i (get_or r.starts i 0 + held) xs;
    }

-- ---- bytes

-- One byte: of the payload under way, else of a header. A closed connection takes nothing.
unfoldable pub step : Party → List ℕ → Reception → ℕ → Reception
step us caps s x =
    cond (is_open s.gate) (cond (eqb s.receiving.rest 0) (headed us caps s x) (kept caps s (x ∷ []))) s

-- a run: its bytes one after the other
unfoldable pub fed : Party → List ℕ → Reception → List ℕ → Reception
fed us caps s [] = s
fed us caps s (x ∷ xs) = fed us caps (step us caps s x) xs

-- how many of them are used: those up to the byte that closes
unfoldable pub used : Party → List ℕ → Reception → List ℕ → ℕ
used us caps s [] = 0
used us caps s (x ∷ xs) = cond (is_open s.gate) (suc (used us caps (step us caps s x) xs)) 0

-- ---- a call

-- the number of the closing that is left, or 0
abbrev pub left : Gate → ℕ
left Open = 0
left (Closed x) = closing_number x

-- an answer, and the store as the call leaves it
pub record Told : Type 0 where
  pub answer : Fed
  pub store : List ℕ

abbrev pub told : Fed → List ℕ → Told
told r st = record { answer = r; store = st }

-- the record as it was given, and no byte used
abbrev pub refused : Connection → ℕ → Fed
refused c n = record { number = n; used = 0; connection = c }

abbrev pub given : Connection → List ℕ → Reception
given c st = record { receiving = c.receiving; gate = c.gate; store = st }

abbrev pub answered : Connection → ℕ → Reception → Told
answered c n s =
    told (record { number = left s.gate; used = n; connection = with_receiving c s.receiving s.gate }) s.store

-- the bytes fed to an open connection, from record and store as given
unfoldable pub feed_open : Connection → List ℕ → List ℕ → Told
feed_open c st xs =
    let us = c.settings.party in
    let caps = c.settings.receive in
    let s = given c st in
    answered c (used us caps s xs) (fed us caps s xs)

-- Feed: 23; 20 (also for no bytes); and else the bytes.
unfoldable pub feed_of : Connection → List ℕ → List ℕ → Told
feed_of c st xs =
    cond (receives c (length st)) (cond (is_open c.gate) (feed_open c st xs) (told (refused c 20) st)) (told (refused c 23) st)

-- the header record's array is eight bytes
abbrev pub Spelt : Header → Type 0
Spelt h = (length h.bytes ≡ header_length) × Bytes h.bytes
