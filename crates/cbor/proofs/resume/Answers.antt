-- `cbor::resume` meets its contract: the rest of a string is not all there, or the walk goes on after it.
use Prim.Native.Nat.{◌-◌}
use mathlib.Core.Path.{refl}
use native.Mathlib.Omega.{arith}
use Rattle.ring.specs.Inside.{seen}
use Rattle.ring.proofs.Views.{seen_length}
use Rattle.cbor.proofs.Walking.{starts, starts_cut}
use Rattle.cbor.proofs.resume.Goals as goal

pub returns-then-there-w : goal.returns-then-there-w
returns-then-there-w c =
    let a = c.args in
    let p = c.requires in
    rw (c.within.ensures.0, c.within.ensures.1)
    (starts_cut (seen a.v) a.w a.v.len (a.w.skip - (a.v.len - a.w.at)) (seen_length a.v) p.1 p.0 (omega arith) refl)

pub advance-r-requires : goal.advance-r-requires
advance-r-requires c =
    let p = c.requires in
    let s = p.1 in
    let f = s.few in
    (omega arith, record { few = omega arith; good = s.good; outer = s.outer })

pub returns : goal.returns
returns c =
    let a = c.args in
    let p = c.requires in
    let len = seen_length a.v in
    rw (c.within-2.ensures.0, c.within-2.ensures.1)
    (starts (seen a.v) a.w _ c.advance-r.result.verdict (omega arith) c.advance-r.ensures)
