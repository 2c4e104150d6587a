-- What only this crate's own functions cite.
use Rattle.std.specs.Prelude.{ℕ, ◌+◌, ◌≤◌, ◌<◌, ◌≡◌, List, length, get_or, drop}
use Rattle.ring.specs.Ring.{base_of, run}
use Rattle.wire.specs.declared.instances.Party.{Party}
use Rattle.wire.specs.Instances.{instances, most}
use Rattle.connection.specs.declared.Gate.TheVariants.{Open}
use Rattle.connection.specs.Inside.{Area}
use Rattle.admitting.specs.declared.Way.{Way}
use Rattle.admitting.specs.declared.Step.{Step}
use Rattle.admitting.specs.Inside.{reception}
use Rattle.feeding.specs.Feeding.{Reception, kept, fed, used}

-- Of a bundle b, the first held byte of each instance is inside its area, and an area is of at most 131,072 bytes.
abbrev pub Placed : ℕ → List ℕ → List ℕ → Type 0
Placed b caps starts = (i : ℕ) → i < instances b → (get_or starts i 0 < get_or caps i 0) × (get_or caps i 0 ≤ 131072)

-- What else of the range feeding rests on: the store is its areas; and there is room for the payload under way.
pub record Sound (b : ℕ) (caps : List ℕ) (s : Reception) : Type 0 where
  pub areas : length s.store ≡ base_of caps (instances b)
  pub many : length s.receiving.held ≡ most
  pub under : 0 < s.receiving.rest
      → (s.receiving.instance < instances b)
      × (get_or s.receiving.held s.receiving.instance 0 + s.receiving.rest ≤ get_or caps s.receiving.instance 0)

-- the area of a payload under way of a bundle b, which has room for it
pub record Under (b : ℕ) (caps held : List ℕ) (w : Way) (n : ℕ) : Type 0 where
  pub inside : w.instance < instances b
  pub area : Area caps n w.instance
  pub more : 0 < w.rest
  pub room : get_or held w.instance 0 + w.rest ≤ get_or caps w.instance 0

-- a step uses as many bytes of the run xs from `at` on as it says, at least one, and lays them in the store
pub record Lays (caps starts held held' : List ℕ) (w : Way) (store store' xs : List ℕ) (at : ℕ) (t : Step) : Type 0 where
  pub some : 0 < t.used
  pub ends : at + t.used ≤ length xs
  pub within : t.used ≤ w.rest
  pub leaves : reception starts held' t.way t.gate store' ≡ kept caps (reception starts held w Open store) (run xs at t.used)

-- a step leads to a reception from which the bytes that are left to feed leave what they would have left before it
pub record Steps (us : Party) (caps starts held held' : List ℕ) (w : Way) (store store' xs : List ℕ) (at : ℕ) (t : Step) : Type 0 where
  pub some : 0 < t.used
  pub ends : at + t.used ≤ length xs
  pub leaves : fed us caps (reception starts held w Open store) (drop at xs)
      ≡ fed us caps (reception starts held' t.way t.gate store') (drop (at + t.used) xs)
  pub counts : used us caps (reception starts held w Open store) (drop at xs)
      ≡ t.used + used us caps (reception starts held' t.way t.gate store') (drop (at + t.used) xs)
  pub sound : Sound us.bundle caps (reception starts held' t.way t.gate store')
