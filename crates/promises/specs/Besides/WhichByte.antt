-- K3 from open on: which byte a look or a drop that is answered 14 tells.
use Rattle.std.specs.Prelude.{ℕ, List}
use Rattle.wire.specs.Segments.{Carried, Divided}
use Rattle.connection.specs.declared.Settings.{Settings}
use Rattle.hearing.specs.Besides.Numbers.{Offset}
use Rattle.looking.specs.Looking.{look_of}
use Rattle.dropping.specs.Dropping.{drop_of}
use Rattle.promises.specs.Calls.{Call, run, AllReal, Opened, first}
use Rattle.promises.specs.Effects.{did, bytes_in}
use Rattle.promises.specs.Alone.{seen_by}

-- The offset is that of the first bad byte in what came for the instance and was not dropped: however it was fed, and whatever came behind.
abbrev pub WhichByteCame : Type 0
WhichByteCame =
    (s : Settings) (receive send : List ℕ) → Opened s receive send → (cs : List Call) → AllReal cs
    → let w = first s receive send in
    (segments : List Carried) (left : List ℕ) → Divided (bytes_in (did w cs)) segments left
    → (i : ℕ) (scratch : List ℕ)
    → let bytes = (seen_by s.party (did w cs) segments left i).bytes in
    let c = (run w cs).connection in
    let store = (run w cs).receive in
    Offset bytes (look_of c store i scratch).answer.shown × Offset bytes (drop_of c store i).shown
