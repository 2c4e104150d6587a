-- What only functions below feed cite.
use Rattle.std.specs.Prelude.{ℕ, ◌≡◌, List, [], ◌∷◌}
use Rattle.ring.specs.Ring.{run}
use Rattle.wire.specs.declared.segment.Header.{Header}
use Rattle.wire.specs.declared.instances.Party.{Party}
use Rattle.wire.specs.Segments.{header_length, empty, added}
use Rattle.connection.specs.declared.Gate.{Gate}
use Rattle.connection.specs.declared.Gate.TheVariants.{Open}
use Rattle.admitting.specs.declared.Way.{Way}
use Rattle.admitting.specs.declared.Step.{Step}
use Rattle.admitting.specs.Admitting.{Reception, Admission, settled, headed}

-- a reception by its parts
abbrev pub reception : List ℕ → List ℕ → Way → Gate → List ℕ → Reception
reception starts held w g store =
    record {
      receiving = record { starts = starts; held = held; header = w.header; instance = w.instance; rest = w.rest };
      gate = g;
      store = store;
    }

-- a header record after bytes more, added one after the other
unfoldable pub filled : Header → List ℕ → Header
filled h [] = h
filled h (x ∷ xs) = filled (added h x) xs

-- the header whose eight bytes are those of xs from `at` on
abbrev pub header_at : List ℕ → ℕ → Header
header_at xs at = filled empty (run xs at header_length)

-- a step uses n bytes and leads to what a whole header does
pub record Settles (w : Way) (a : Admission) (n : ℕ) (t : Step) : Type 0 where
  pub uses : t.used ≡ n
  pub leaves : (starts held store : List ℕ) → reception starts held t.way t.gate store ≡ settled (reception starts held w Open store) a

-- a step uses one byte and leads to what a header byte does
pub record Heads (us : Party) (caps held : List ℕ) (w : Way) (x : ℕ) (t : Step) : Type 0 where
  pub one : t.used ≡ 1
  pub leaves : (starts store : List ℕ) → reception starts held t.way t.gate store ≡ headed us caps (reception starts held w Open store) x
