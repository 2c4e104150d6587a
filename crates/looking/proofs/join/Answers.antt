-- `looking::join` meets its contract: each way out is one of the places.
use mathlib.Core.Path.{refl, sym, ap, ◌∙◌}
use mathlib.Core.List.{List}
use Prim.Native.Nat.{ℕ, ◌+◌}
use native.Mathlib.Omega.{arith}
use lib.ListN.{length, get_or}
use lib.Seq.{sets}
use Rattle.ring.specs.Ring.{base_of, stream}
use Rattle.looking.specs.declared.Place.TheVariants.{Store}
use Rattle.looking.proofs.LookingLaws.{in_one_run, wraps_in, wraps_out}
use Rattle.looking.proofs.join.Goals as goal

pub base_of-base-requires : goal.base_of-base-requires
base_of-base-requires c = let k = c.requires in (omega (arith, k.listed), omega (arith, k.stored))

pub returns-then-n-cap : goal.returns-then-n-cap
returns-then-n-cap c =
    let a = c.args in
    let caps : List ℕ = a.caps.now in (
      ap (λ (n : ℕ). Store (n + a.start)) c.base_of-base.ensures
          ∙ sym (in_one_run (base_of caps a.i) (get_or caps a.i 0) a.start a.n (length a.scratch.now) (omega (arith, c.if-n-cap.true, c.requires.placed))),
      refl,
    )

pub returns-then-scratch-n : goal.returns-then-scratch-n
returns-then-scratch-n c =
    let a = c.args in
    let caps : List ℕ = a.caps.now in (
      sym (wraps_out (base_of caps a.i) (get_or caps a.i 0) a.start a.n (length a.scratch.now) (omega (arith, c.if-n-cap.false, c.requires.placed)) c.if-scratch-n.true),
      refl,
    )

pub read-requires : goal.read-requires
read-requires c =
    let k = c.requires in
    (k.within, k.some, omega (arith, c.base_of-base.ensures, k.stored), omega (arith, c.if-scratch-n.false))

pub returns : goal.returns
returns c =
    let a = c.args in
    let caps : List ℕ = a.caps.now in (
      sym (wraps_in (base_of caps a.i) (get_or caps a.i 0) a.start a.n (length a.scratch.now) (omega (arith, c.if-n-cap.false, c.requires.placed))
          (omega (arith, c.if-scratch-n.false))),
      c.read.ensures
          ∙ ap (λ (n : ℕ). sets a.scratch.now 0 (stream a.store.now n (get_or caps a.i 0) a.start a.n)) c.base_of-base.ensures,
    )

pub offset_bounds-caps-i : goal.offset_bounds-caps-i
offset_bounds-caps-i c = record { fits = omega (arith, c.requires.below) }

pub bounds-caps-i : goal.bounds-caps-i
bounds-caps-i c = omega (arith, c.requires.below)

pub overflow_sub-cap : goal.overflow_sub-cap
overflow_sub-cap c = omega (arith, c.requires.placed)

pub overflow_add-result : goal.overflow_add-result
overflow_add-result c = record { fits = omega (arith, c.base_of-base.ensures, c.requires.stored, c.requires.placed) }
