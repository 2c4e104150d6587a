-- T10, in range for ever: what record and stores are after every list of calls from open on.
use Rattle.std.specs.Prelude.{ℕ, ◌≤◌, ◌<◌, ◌≡◌, true, List, length, get_or}
use Rattle.connection.specs.declared.Settings.{Settings}
use Rattle.connection.specs.Shapes.{Shaped}
use Rattle.range.specs.Ranges.{receive_length, send_length, in_range}
use Rattle.feeding.specs.Feeding.{Spelt}
use Rattle.promises.specs.Calls.{Call, World, answers, run, AllReal, Opened, first}

-- how many bytes of instance i wait
abbrev pub waits : World → ℕ → ℕ
waits w i = get_or w.connection.sending.waiting i 0

-- The settings are those of open, the record is in range with them, and each store is as long as its capacities together.
pub record Reached (s : Settings) (w : World) : Type 0 where
  pub settings : w.connection.settings ≡ s
  pub ranged : in_range w.connection ≡ true
  pub shaped : Shaped w.connection
  pub receive : length w.receive ≡ receive_length s
  pub send : length w.send ≡ send_length s
  pub spelt : Spelt w.connection.receiving.header
  -- header bytes that have not come are 0, and so is the instance of no payload under way
  pub blank : (k : ℕ) → w.connection.receiving.header.count ≤ k → get_or w.connection.receiving.header.bytes k 0 ≡ 0
  pub idle : w.connection.receiving.rest ≡ 0 → w.connection.receiving.instance ≡ 0
  -- a Handshake message is always in one segment: what waits of instance 0 is at most S bytes
  pub single : waits w 0 ≤ s.limit
  -- of the other instances bytes wait only after Accept
  pub accepted : (i : ℕ) → 0 < i → 0 < waits w i → w.connection.talk.accepted ≡ true

abbrev pub InRangeForEver : Type 0
InRangeForEver =
    (s : Settings) (receive send : List ℕ) → Opened s receive send → (cs : List Call) → AllReal cs → Reached s (run (first s receive send) cs)

-- so no call answers 23
abbrev pub Never23 : Type 0
Never23 =
    (s : Settings) (receive send : List ℕ) → Opened s receive send → (cs : List Call) → AllReal cs → (c : Call)
    → answers (run (first s receive send) cs) c ≡ 23 → ⊥
