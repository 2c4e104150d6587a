-- T14's corollary, for two connections.
use Rattle.std.specs.Prelude.{ℕ, ◌≡◌, true, false, List, get_or}
use Rattle.ring.specs.Ring.{base_of}
use Rattle.wire.specs.Segments.{Carried, Divided}
use Rattle.connection.specs.declared.Settings.{Settings}
use Rattle.promises.specs.Calls.{Call, look, drop, Looked, step, run, AllReal, Opened, first}
use Rattle.promises.specs.Effects.{did, bytes_in}
use Rattle.promises.specs.History.{dropped_for}
use Rattle.promises.specs.Alone.{seen_by, but, twenty_for_one, looked_in}

-- Two connections, whatever their settings and whatever else was called: where a drop may see the same, it answers the same, and so does a look, with as
-- large an area and as many bytes dropped, but for where the area begins; and where only the second is closed, the same but 20 for 1.
abbrev pub Alike : Type 0
Alike =
    (s s' : Settings) (receive send receive' send' : List ℕ) → Opened s receive send → Opened s' receive' send'
    → (cs cs' : List Call) → AllReal cs → AllReal cs'
    → let w = first s receive send in
    let w' = first s' receive' send' in
    (segments segments' : List Carried) (left left' : List ℕ)
    → Divided (bytes_in (did w cs)) segments left → Divided (bytes_in (did w' cs')) segments' left'
    → (i : ℕ) (scratch : List ℕ)
    → let v = seen_by s.party (did w cs) segments left i in
    let v' = seen_by s'.party (did w' cs') segments' left' i in
    let a = (step (run w cs) (drop i)).answer in
    let a' = (step (run w' cs') (drop i)).answer in
    let l = (step (run w cs) (look i scratch)).answer in
    let l' = (step (run w' cs') (look i scratch)).answer in
    let base = base_of s.receive i in
    let base' = base_of s'.receive i in
    (v ≡ v' → a ≡ a') × (v.closed ≡ false → v' ≡ but v true → a' ≡ twenty_for_one a)
    × (get_or s.receive i 0 ≡ get_or s'.receive i 0 → dropped_for i (did w cs) ≡ dropped_for i (did w' cs')
    → (b : ℕ × Looked) × (l ≡ looked_in base b)
    × (v ≡ v' → l' ≡ looked_in base' b) × (v.closed ≡ false → v' ≡ but v true → l' ≡ looked_in base' (twenty_for_one b)))
