-- `cbor::advance` meets its contract: from head to head, where the walk is comes to what it began with comes to, and each
-- way through the loop is one law of `Walking`. It ends, since each head takes it on and each level it leaves is one less.
use Prim.Native.Nat.{ℕ, ◌+◌, ◌-◌, ◌^◌, ◌≤◌, ◌<◌}
use mathlib.Core.List.{List}
use mathlib.Core.Path.{◌≡◌, sym, ap, ◌∙◌}
use Rattle.std.specs.Prelude.{Some}
use native.Mathlib.Omega.{arith}
use lib.ListN.{length}
use Rattle.ring.specs.Inside.{seen}
use Rattle.ring.proofs.Views.{seen_length}
use Rattle.moves.specs.Inside.Moves.{Stays, Downs, Skips}
use Rattle.usual.proofs.Pieces.{pieces_none, pieces_later}
use Rattle.usual.proofs.UsualMoves.{if_past, if_asks, if_opens, if_ends}
use Rattle.cbor.proofs.Walking.{if_stay, if_down, if_skip, begins, stays, downs, pops, whole, faults, lacks, skips}
use Rattle.cbor.proofs.advance.Goals as goal
use Rattle.cbor.proofs.advance.Goals.{then-count-eq0+else-kind-eq-ITEMS, else-count-eq0+then-at-z+in-Some-Ends+else-breaks, else-count-eq0+then-at-z+in-None, else-count-eq0+else-at-z}
use Rattle.cbor.proofs.advance.Goals.{At-loop-count, In-Some-Asks, In-Down, In-Some-Opens, In-Some-Past, In-Skip, In-Stay, Then-breaks}

-- at the loop's head: the bytes, the numbers of the walk, and a place of the piece
abbrev Loop : Type 0
Loop = At-loop-count

abbrev bytes : Loop → List ℕ
bytes o = let a = o.args in seen a.v

sizes : (o : Loop)
    → (o.loop-count.heads ≤ o.loop-count.at) × (o.loop-count.depth ≤ 17) × (length o.loop-count.kinds ≡ 17) × (length o.loop-count.counts ≡ 17)
    × (length (bytes o) ≡ o.args.v.len)
sizes o = let u = o.loop-count.invariant.0 in (u.few, u.good.tall, u.outer.kinds_size, u.outer.counts_size, o.loop-count.invariant.2)

spot : (o : Loop) → o.loop-count.at < o.loop-count.z.lim
    → (o.loop-count.z.minus ≤ o.loop-count.at + o.loop-count.z.plus) × (o.loop-count.at + o.loop-count.z.plus ≤ length o.args.v.bytes.now)
spot o h = o.loop-count.invariant.1.low o.loop-count.at (omega arith) h

-- where a usual head was told, and where any head was: what is right to do
past : (c : In-Some-Past)
    → let o = c in
    Stays (seen o.args.v) o.loop-count.at o.loop-count.kind o.loop-count.count o.loop-count.depth c.in-Some-Past.p
    (record { kind = o.loop-count.kind; count = o.loop-count.count - 1 })
past c =
    let o = c.loop-count in
    if_past o.invariant.0.good (omega arith) c.usual.ensures (c.in-Some-Past.is ∙ ap Some c.in-Some-Past.field-0-is)

asked : (c : In-Some-Asks)
    → let o = c in
    Downs (seen o.args.v) o.loop-count.at o.loop-count.kind o.loop-count.count o.loop-count.depth c.in-Some-Asks.p
    (record { kind = o.loop-count.kind; count = o.loop-count.count - 1 }) (record { kind = 0; count = c.in-Some-Asks.c })
asked c =
    let o = c.loop-count in
    if_asks o.invariant.0.good (omega arith) c.usual.ensures (c.in-Some-Asks.is ∙ ap Some c.in-Some-Asks.field-0-is)

opened : (c : In-Some-Opens)
    → let o = c in
    Downs (seen o.args.v) o.loop-count.at o.loop-count.kind o.loop-count.count o.loop-count.depth c.in-Some-Opens.p
    (record { kind = o.loop-count.kind; count = o.loop-count.count - 1 }) (record { kind = c.in-Some-Opens.k; count = 2 ^ 63 })
opened c =
    let o = c.loop-count in
    if_opens o.invariant.0.good (omega arith) c.usual.ensures (c.in-Some-Opens.is ∙ ap Some c.in-Some-Opens.field-0-is)

ended : (c : Then-breaks)
    → let o = c in
    Stays (seen o.args.v) o.loop-count.at o.loop-count.kind o.loop-count.count o.loop-count.depth c.in-Some-Ends.p
    (record { kind = 0; count = 0 })
ended c =
    let o = c.loop-count in
    if_ends o.invariant.0.good (omega arith) c.usual.ensures (c.in-Some-Ends.is ∙ ap Some c.in-Some-Ends.field-0-is)
    (sym c.breaks.ensures ∙ c.if-breaks.true)

stayed : (c : In-Stay)
    → let o = c in
    Stays (seen o.args.v) o.loop-count.at o.loop-count.kind o.loop-count.count o.loop-count.depth c.in-Stay.p c.in-Stay.l
stayed c = if_stay c.any.ensures c.in-Stay.is

down : (c : In-Down)
    → let o = c in
    Downs (seen o.args.v) o.loop-count.at o.loop-count.kind o.loop-count.count o.loop-count.depth c.in-Down.p c.in-Down.l c.in-Down.i
down c = if_down c.any.ensures c.in-Down.is

skipped : (c : In-Skip)
    → let o = c in
    Skips (seen o.args.v) o.loop-count.at o.loop-count.kind o.loop-count.count o.loop-count.depth c.in-Skip.skip c.in-Skip.l
skipped c = if_skip c.any.ensures c.in-Skip.is

pub loop-count-init : goal.loop-count-init
loop-count-init c =
    let a = c.args in
    let p = c.requires in
    let len = seen_length a.v in
    (begins (seen a.v) a.at a.heads a.level.kind a.level.count a.depth a.kinds.now a.counts.now p.1 (omega arith), pieces_none (length a.v.bytes.now) a.v.from a.v.len a.at, len)

pub returns-then-depth-eq0 : goal.returns-then-depth-eq0
returns-then-depth-eq0 c =
    let o = c.loop-count in
    (whole o.invariant.0 c.if-kind-eq-ITEMS.true c.if-count-eq0.true c.if-depth-eq0.true)

pub loop-count-preserved-then-kind-eq-ITEMS : goal.loop-count-preserved-then-kind-eq-ITEMS
loop-count-preserved-then-kind-eq-ITEMS c =
    let o = c.loop-count in
    (pops o.invariant.0 c.if-kind-eq-ITEMS.true c.if-count-eq0.true (omega arith), o.invariant.1, o.invariant.2)

pub usual-requires : goal.usual-requires
usual-requires c = let o = c.loop-count in o.invariant.1.spot o.at (omega arith) c.if-at-z.true

pub loop-count-preserved-in-Some-Past : goal.loop-count-preserved-in-Some-Past
loop-count-preserved-in-Some-Past c =
    let o = c.loop-count in
    (stays o.invariant.0 (past (goal.at.loop-count-preserved-in-Some-Past c).In-Some-Past), pieces_later c.in-Some-Past.p (omega (arith, (past (goal.at.loop-count-preserved-in-Some-Past c).In-Some-Past).on)) o.invariant.1, o.invariant.2)

pub loop-count-preserved-in-Some-Asks : goal.loop-count-preserved-in-Some-Asks
loop-count-preserved-in-Some-Asks c =
    let o = c.loop-count in
    (downs o.invariant.0 (asked (goal.at.loop-count-preserved-in-Some-Asks c).In-Some-Asks), pieces_later c.in-Some-Asks.p (omega (arith, (asked (goal.at.loop-count-preserved-in-Some-Asks c).In-Some-Asks).on)) o.invariant.1, o.invariant.2)

pub loop-count-preserved-in-Some-Opens : goal.loop-count-preserved-in-Some-Opens
loop-count-preserved-in-Some-Opens c =
    let o = c.loop-count in
    (downs o.invariant.0 (opened (goal.at.loop-count-preserved-in-Some-Opens c).In-Some-Opens), pieces_later c.in-Some-Opens.p (omega (arith, (opened (goal.at.loop-count-preserved-in-Some-Opens c).In-Some-Opens).on)) o.invariant.1, o.invariant.2)

pub loop-count-preserved-then-breaks : goal.loop-count-preserved-then-breaks
loop-count-preserved-then-breaks c =
    let o = c.loop-count in
    (stays o.invariant.0 (ended (goal.at.loop-count-preserved-then-breaks c).Then-breaks), pieces_later c.in-Some-Ends.p (omega (arith, (ended (goal.at.loop-count-preserved-then-breaks c).Then-breaks).on)) o.invariant.1, o.invariant.2)

pub any-requires : goal.any-requires
any-requires c = let o = c.loop-count in omega (arith, o.invariant.2, o.invariant.0.place)

pub loop-count-preserved-in-Stay : goal.loop-count-preserved-in-Stay
loop-count-preserved-in-Stay c =
    let o = c.loop-count in
    let piece = c.piece_of-z.ensures in
    (stays o.invariant.0 (stayed (goal.at.loop-count-preserved-in-Stay c).In-Stay), pieces_later c.in-Stay.p (omega (arith, (stayed (goal.at.loop-count-preserved-in-Stay c).In-Stay).on)) piece, o.invariant.2)

pub loop-count-preserved : goal.loop-count-preserved
loop-count-preserved c =
    let o = c.loop-count in
    let piece = c.piece_of-z.ensures in
    (downs o.invariant.0 (down (goal.at.loop-count-preserved c).In-Down), pieces_later c.in-Down.p (omega (arith, (down (goal.at.loop-count-preserved c).In-Down).on)) piece, o.invariant.2)

pub returns-in-Skip : goal.returns-in-Skip
returns-in-Skip c =
    let o = c.loop-count in (skips o.invariant.0 o.invariant.2 (skipped (goal.at.returns-in-Skip c).In-Skip))

pub returns-in-Fault : goal.returns-in-Fault
returns-in-Fault c =
    let o = c.loop-count in
    (faults o.invariant.0 c.in-Fault.is c.any.ensures)

pub returns-in-Lack : goal.returns-in-Lack
returns-in-Lack c =
    let o = c.loop-count in
    (lacks o.invariant.0 c.in-Lack.is c.any.ensures)

pub bounds-kinds-depth : goal.bounds-kinds-depth
bounds-kinds-depth c = omega (arith, sizes (goal.at.bounds-kinds-depth c).At-loop-count)

pub overflow_add-at : goal.overflow_add-at
overflow_add-at c = omega (arith, spot (goal.at.overflow_add-at c).At-loop-count c.if-at-z.true)

pub overflow_sub-at : goal.overflow_sub-at
overflow_sub-at c = omega (arith, spot (goal.at.overflow_sub-at c).At-loop-count c.if-at-z.true)

pub overflow_add-heads : goal.overflow_add-heads
overflow_add-heads c = omega (arith, past (goal.at.overflow_add-heads c).In-Some-Past, sizes (goal.at.overflow_add-heads c).At-loop-count)

pub loop-count-smaller-in-Some-Past : goal.loop-count-smaller-in-Some-Past
loop-count-smaller-in-Some-Past c = omega (arith, past (goal.at.loop-count-smaller-in-Some-Past c).In-Some-Past, sizes (goal.at.loop-count-smaller-in-Some-Past c).At-loop-count)

pub bounds-kinds-depth-in-Some-Asks : goal.bounds-kinds-depth-in-Some-Asks
bounds-kinds-depth-in-Some-Asks c = omega (arith, asked (goal.at.bounds-kinds-depth-in-Some-Asks c).In-Some-Asks, sizes (goal.at.bounds-kinds-depth-in-Some-Asks c).At-loop-count)

pub overflow_add-depth : goal.overflow_add-depth
overflow_add-depth c = omega (arith, asked (goal.at.overflow_add-depth c).In-Some-Asks, sizes (goal.at.overflow_add-depth c).At-loop-count)

pub overflow_add-heads-in-Some-Asks : goal.overflow_add-heads-in-Some-Asks
overflow_add-heads-in-Some-Asks c = omega (arith, asked (goal.at.overflow_add-heads-in-Some-Asks c).In-Some-Asks, sizes (goal.at.overflow_add-heads-in-Some-Asks c).At-loop-count)

pub loop-count-smaller-in-Some-Asks : goal.loop-count-smaller-in-Some-Asks
loop-count-smaller-in-Some-Asks c = omega (arith, asked (goal.at.loop-count-smaller-in-Some-Asks c).In-Some-Asks, sizes (goal.at.loop-count-smaller-in-Some-Asks c).At-loop-count)

pub bounds-kinds-depth-in-Some-Opens : goal.bounds-kinds-depth-in-Some-Opens
bounds-kinds-depth-in-Some-Opens c = omega (arith, opened (goal.at.bounds-kinds-depth-in-Some-Opens c).In-Some-Opens, sizes (goal.at.bounds-kinds-depth-in-Some-Opens c).At-loop-count)

pub overflow_add-depth-in-Some-Opens : goal.overflow_add-depth-in-Some-Opens
overflow_add-depth-in-Some-Opens c = omega (arith, opened (goal.at.overflow_add-depth-in-Some-Opens c).In-Some-Opens, sizes (goal.at.overflow_add-depth-in-Some-Opens c).At-loop-count)

pub overflow_add-heads-in-Some-Opens : goal.overflow_add-heads-in-Some-Opens
overflow_add-heads-in-Some-Opens c = omega (arith, opened (goal.at.overflow_add-heads-in-Some-Opens c).In-Some-Opens, sizes (goal.at.overflow_add-heads-in-Some-Opens c).At-loop-count)

pub loop-count-smaller-in-Some-Opens : goal.loop-count-smaller-in-Some-Opens
loop-count-smaller-in-Some-Opens c = omega (arith, opened (goal.at.loop-count-smaller-in-Some-Opens c).In-Some-Opens, sizes (goal.at.loop-count-smaller-in-Some-Opens c).At-loop-count)

pub overflow_add-heads-then-breaks : goal.overflow_add-heads-then-breaks
overflow_add-heads-then-breaks c = omega (arith, ended (goal.at.overflow_add-heads-then-breaks c).Then-breaks, sizes (goal.at.overflow_add-heads-then-breaks c).At-loop-count)

pub loop-count-smaller-then-breaks : goal.loop-count-smaller-then-breaks
loop-count-smaller-then-breaks c = omega (arith, ended (goal.at.loop-count-smaller-then-breaks c).Then-breaks, sizes (goal.at.loop-count-smaller-then-breaks c).At-loop-count)

pub overflow_add-heads-in-Stay : goal.overflow_add-heads-in-Stay
overflow_add-heads-in-Stay c = omega (arith, stayed (goal.at.overflow_add-heads-in-Stay c).In-Stay, sizes (goal.at.overflow_add-heads-in-Stay c).At-loop-count)

pub loop-count-smaller-in-Stay : goal.loop-count-smaller-in-Stay
loop-count-smaller-in-Stay c = omega (arith, stayed (goal.at.loop-count-smaller-in-Stay c).In-Stay, sizes (goal.at.loop-count-smaller-in-Stay c).At-loop-count)

pub bounds-kinds-depth-in-Down : goal.bounds-kinds-depth-in-Down
bounds-kinds-depth-in-Down c = omega (arith, down (goal.at.bounds-kinds-depth-in-Down c).In-Down, sizes (goal.at.bounds-kinds-depth-in-Down c).At-loop-count)

pub overflow_add-depth-in-Down : goal.overflow_add-depth-in-Down
overflow_add-depth-in-Down c = omega (arith, down (goal.at.overflow_add-depth-in-Down c).In-Down, sizes (goal.at.overflow_add-depth-in-Down c).At-loop-count)

pub overflow_add-heads-in-Down : goal.overflow_add-heads-in-Down
overflow_add-heads-in-Down c = omega (arith, down (goal.at.overflow_add-heads-in-Down c).In-Down, sizes (goal.at.overflow_add-heads-in-Down c).At-loop-count)

pub loop-count-smaller : goal.loop-count-smaller
loop-count-smaller c = omega (arith, down (goal.at.loop-count-smaller c).In-Down, sizes (goal.at.loop-count-smaller c).At-loop-count)

pub offset_bounds-counts-depth : goal.offset_bounds-counts-depth
offset_bounds-counts-depth c = omega (arith, sizes (goal.at.offset_bounds-counts-depth c).At-loop-count)

pub bounds-counts-depth : goal.bounds-counts-depth
bounds-counts-depth c = omega (arith, sizes (goal.at.bounds-counts-depth c).At-loop-count)

pub offset_bounds-counts-depth-in-Some-Asks : goal.offset_bounds-counts-depth-in-Some-Asks
offset_bounds-counts-depth-in-Some-Asks c = omega (arith, asked (goal.at.offset_bounds-counts-depth-in-Some-Asks c).In-Some-Asks, sizes (goal.at.offset_bounds-counts-depth-in-Some-Asks c).At-loop-count)

pub bounds-counts-depth-in-Some-Asks : goal.bounds-counts-depth-in-Some-Asks
bounds-counts-depth-in-Some-Asks c = omega (arith, asked (goal.at.bounds-counts-depth-in-Some-Asks c).In-Some-Asks, sizes (goal.at.bounds-counts-depth-in-Some-Asks c).At-loop-count)

pub offset_bounds-counts-depth-in-Some-Opens : goal.offset_bounds-counts-depth-in-Some-Opens
offset_bounds-counts-depth-in-Some-Opens c = omega (arith, opened (goal.at.offset_bounds-counts-depth-in-Some-Opens c).In-Some-Opens, sizes (goal.at.offset_bounds-counts-depth-in-Some-Opens c).At-loop-count)

pub bounds-counts-depth-in-Some-Opens : goal.bounds-counts-depth-in-Some-Opens
bounds-counts-depth-in-Some-Opens c = omega (arith, opened (goal.at.bounds-counts-depth-in-Some-Opens c).In-Some-Opens, sizes (goal.at.bounds-counts-depth-in-Some-Opens c).At-loop-count)

pub offset_bounds-counts-depth-in-Down : goal.offset_bounds-counts-depth-in-Down
offset_bounds-counts-depth-in-Down c = omega (arith, down (goal.at.offset_bounds-counts-depth-in-Down c).In-Down, sizes (goal.at.offset_bounds-counts-depth-in-Down c).At-loop-count)

pub bounds-counts-depth-in-Down : goal.bounds-counts-depth-in-Down
bounds-counts-depth-in-Down c = omega (arith, down (goal.at.bounds-counts-depth-in-Down c).In-Down, sizes (goal.at.bounds-counts-depth-in-Down c).At-loop-count)
