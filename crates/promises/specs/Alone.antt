-- T14, document 01's "A take on instance i depends on ..", and what document 02's K4 says of look and drop: what they answer and write rests on nothing
-- else, from open on.
use Rattle.std.specs.Prelude.{ℕ, ◌+◌, ◌≡◌, Bool, true, false, cond, List, [], ◌∷◌, eqb, get_or}
use Rattle.std.proofs.Math.Option.{Option, none, some}
use Rattle.std.proofs.Math.ListN as lists
use Rattle.ring.specs.Ring.{base_of}
use Rattle.wire.specs.declared.instances.Party.{Party}
use Rattle.wire.specs.Segments.{Carried, Divided}
use Rattle.rows.specs.Spoken.{speaks}
use Rattle.connection.specs.declared.Settings.{Settings}
use Rattle.judging.specs.Judging.{View, state_next, by_reading}
use Rattle.looking.specs.declared.Place.{Place}
use Rattle.looking.specs.declared.Place.TheVariants.{Store, Scratch, Nowhere}
use Rattle.promises.specs.Calls.{Call, look, drop, Said, Looked, looked, step, run, AllReal, Opened, first}
use Rattle.promises.specs.Effects.{Act, read_in, Past, did, bytes_in, acts}
use Rattle.promises.specs.History.{dropped_for, received_in, ends_in_accept, first_fault}

-- the state that acts of instance i lead to from a state, one after the other, each by its row: by what is read, however many bytes it has
unfoldable pub state_after : Party → ℕ → ℕ → List Act → ℕ
state_after us i state [] = state
state_after us i state (a ∷ more) =
    let p = speaks us.bundle i in
    state_after us i (state_next (by_reading p state 0 (read_in p a))) more

-- whether there is a closing
abbrev pub any_closing : Option (ℕ × Option ℕ) → Bool
any_closing none = false
any_closing (some x) = true

-- The view that a history gives of instance i, its bytes being divided into segments and what is left. It is made of what a look or drop on i may
-- rest on: the bundle and the side; i's own bytes that feed accepted; i's own accepted puts and drops; whether Handshake ended in Accept; and whether
-- the connection is closed.
abbrev pub seen_by : Party → Past → List Carried → List ℕ → ℕ → View
seen_by us past segments left i =
    record {
      party = us;
      instance = i;
      state = state_after us i 0 (acts i past);
      accepted = ends_in_accept (acts 0 past);
      closed = any_closing (first_fault us [] past);
      bytes = lists.drop (dropped_for i past) (received_in us i segments left);
    }

-- the same, but closed or not
abbrev pub but : View → Bool → View
but v closed = record { party = v.party; instance = v.instance; state = v.state; accepted = v.accepted; closed = closed; bytes = v.bytes }

-- 20 for 1
abbrev pub twenty_for_one : {A : Type 0} → ℕ × A → ℕ × A
twenty_for_one (n, a) = (cond (eqb n 1) 20 n, a)

-- a place that is counted from the front of an area, in a store where the area begins at base
abbrev pub place_in : ℕ → Place → Place
place_in base (Store at) = Store (base + at)
place_in base Scratch = Scratch
place_in base Nowhere = Nowhere

abbrev pub looked_in : ℕ → ℕ × Looked → ℕ × Looked
looked_in base (n, l) = (n, looked l.said (place_in base l.place) l.scratch)

-- One function gives the answer of every drop, and one the answer and the scratch of every look, after every list of calls from open on, whatever the
-- settings: of drop from the view that the history gives; of look from the view, i's own receive capacity, the bytes dropped of i, and scratch, its
-- place being counted from the front of i's area. That the connection is closed only turns 1 into 20.
pub record Alone : Type 0 where
  pub drop_answer : View → ℕ × Said
  pub look_answer : View → (capacity dropped : ℕ) → List ℕ → ℕ × Looked
  pub drops : (s : Settings) (receive send : List ℕ) → Opened s receive send → (cs : List Call) → AllReal cs
      → let w = first s receive send in
      (segments : List Carried) (left : List ℕ) → Divided (bytes_in (did w cs)) segments left
      → (i : ℕ) → (step (run w cs) (drop i)).answer ≡ drop_answer (seen_by s.party (did w cs) segments left i)
  pub looks : (s : Settings) (receive send : List ℕ) → Opened s receive send → (cs : List Call) → AllReal cs
      → let w = first s receive send in
      (segments : List Carried) (left : List ℕ) → Divided (bytes_in (did w cs)) segments left
      → (i : ℕ) (scratch : List ℕ) → (step (run w cs) (look i scratch)).answer
      ≡ looked_in (base_of s.receive i) (look_answer (seen_by s.party (did w cs) segments left i) (get_or s.receive i 0) (dropped_for i (did w cs)) scratch)
  pub drop_closes : (v : View) → drop_answer (but v true) ≡ twenty_for_one (drop_answer (but v false))
  pub look_closes : (v : View) (capacity dropped : ℕ) (scratch : List ℕ)
      → look_answer (but v true) capacity dropped scratch ≡ twenty_for_one (look_answer (but v false) capacity dropped scratch)
