-- What a header leads to (document 01, "Segments"; document 02, K1).
use Rattle.std.specs.Prelude.{ℕ, ◌+◌, cond, List, eqb, leb, get_or, Result, Ok, Err}
use Rattle.wire.specs.declared.segment.Header.{Header}
use Rattle.wire.specs.Segments.{header_length, empty, added, decoded}
use Rattle.wire.specs.declared.instances.Party.{Party}
use Rattle.wire.specs.Instances.{Route}
use Rattle.wire.specs.declared.instances.RouteError.{RouteError}
use Rattle.wire.specs.declared.instances.RouteError.TheVariants.{Unknown, Wrong}
use Rattle.wire.specs.Instances.{route_of}
use Rattle.connection.specs.declared.Receiving.{Receiving}
use Rattle.connection.specs.declared.Closing.{Closing}
use Rattle.connection.specs.declared.Closing.TheVariants.{Bare, Of}
use Rattle.connection.specs.declared.Gate.{Gate}
use Rattle.connection.specs.declared.Gate.TheVariants.{Closed}
use Rattle.connection.specs.Closings.{unknown_protocol, wrong_mode, overflow}
use Rattle.admitting.specs.declared.Payload.{Payload}

-- What feed changes: what was received, the gate, and the receive store.
pub record Reception : Type 0 where
  pub receiving : Receiving
  pub gate : Gate
  pub store : List ℕ

-- ---- a header

-- what a whole header leads to: a payload for an instance, or a fault
abbrev pub Admission : Type 0
Admission = Result Payload Closing

abbrev pub payload : ℕ → ℕ → Payload
payload i n = record { instance = i; len = n }

-- the fault of a segment that goes to no instance
abbrev pub astray : RouteError → Closing
astray Unknown = Bare unknown_protocol
astray (Wrong i) = Of wrong_mode i

-- At the eighth byte: an unknown number gives 11; a segment with the mode of our own side gives 12, and names its instance; held bytes
-- plus n above the receive capacity gives 13; and else a payload of n bytes begins.
abbrev pub admitted : List ℕ → List ℕ → ℕ → Route → Admission
admitted caps held n (Err e) = Err (astray e)
admitted caps held n (Ok i) = cond (leb (get_or held i 0 + n) (get_or caps i 0)) (Ok (payload i n)) (Err (Of overflow i))

-- what a whole header leads to, in a bundle
unfoldable pub admission : Party → List ℕ → List ℕ → Header → Admission
admission us caps held h =
    let d = decoded h.bytes in
    admitted caps held d.len (route_of us d.protocol d.mode)

-- a payload's instance while bytes of it are to come, else 0
abbrev pub instance_for : ℕ → ℕ → ℕ
instance_for rest i = cond (eqb rest 0) 0 i

abbrev pub with_header : Receiving → Header → Receiving
with_header r h = record { starts = r.starts; held = r.held; header = h; instance = r.instance; rest = r.rest }

-- The three faults close the connection, and each way the header record is emptied.
abbrev pub settled : Reception → Admission → Reception
settled s (Err x) = record { receiving = with_header s.receiving empty; gate = Closed x; store = s.store }
settled s (Ok p) =
    record {
      receiving =
          record { starts = s.receiving.starts; held = s.receiving.held; header = empty; instance = instance_for p.len p.instance; rest = p.len };
      gate = s.gate;
      store = s.store;
    }

-- one byte of a header
unfoldable pub headed : Party → List ℕ → Reception → ℕ → Reception
headed us caps s x =
    let h = added s.receiving.header x in
    cond (leb header_length h.count) (settled s (admission us caps s.receiving.held h))
    (record { receiving = with_header s.receiving h; gate = s.gate; store = s.store })
