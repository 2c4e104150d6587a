-- `usual::nested` meets its contract: within the nesting, the items of an array or a map, or those up to a break.
use mathlib.Core.Path.{sym, subst}
use native.Mathlib.Omega.{arith}
use Prim.Native.Nat.{ℕ, ◌+◌, ◌*◌}
use Rattle.usual.specs.Inside.Usual.{Enters}
use Rattle.usual.proofs.UsualHeads.{enter_array, enter_map, open_array, open_map}
use Rattle.usual.proofs.nested.Goals as goal

pub returns-then-depth-ge-NESTING : goal.returns-then-depth-ge-NESTING
returns-then-depth-ge-NESTING c =
    λ xs l e. tt

pub returns-then-b-lt-MAPS : goal.returns-then-b-lt-MAPS
returns-then-b-lt-MAPS c =
    let a = c.args in
    let p = c.requires in
    λ xs l e.
    subst (Enters xs a.at a.depth (a.at + 1) 0) (sym c.from.ensures)
    (enter_array xs a.at a.depth a.b l e (omega arith) (omega arith) p.1 (omega arith))

pub returns-then-i-lt-ONE_BYTE : goal.returns-then-i-lt-ONE_BYTE
returns-then-i-lt-ONE_BYTE c =
    let a = c.args in
    let p = c.requires in
    λ xs l e.
    subst (λ (v : ℕ). Enters xs a.at a.depth (a.at + 1) 0 (v * 2)) (sym c.from-then-i-lt-ONE_BYTE.ensures)
    (enter_map xs a.at a.depth a.b l e (omega arith) (omega arith) (omega arith) p.2)

pub returns-then-b-eq-OPEN_ARRAY : goal.returns-then-b-eq-OPEN_ARRAY
returns-then-b-eq-OPEN_ARRAY c =
    let a = c.args in λ xs l e. open_array xs a.at a.depth a.b l e c.if-b-eq-OPEN_ARRAY.true (omega arith)

pub returns-then-b-eq-OPEN_MAP : goal.returns-then-b-eq-OPEN_MAP
returns-then-b-eq-OPEN_MAP c =
    let a = c.args in λ xs l e. open_map xs a.at a.depth a.b l e c.if-b-eq-OPEN_MAP.true (omega arith)

pub returns : goal.returns
returns c =
    λ xs l e. tt
