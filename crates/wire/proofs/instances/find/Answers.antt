-- `wire::instances::find` meets its contract: an unknown bundle knows no number, a number past the table is unknown, and
-- within it the entry is right.
use mathlib.Core.Path.{sym, ◌∙◌}
use native.Mathlib.Omega.{arith}
use borrow.Author.Rules.{rules}
use borrow.Author.Tests.{ltb-false}
use Rattle.wire.specs.Instances.{bundle_of, find, route_of}
use Rattle.wire.proofs.InstanceLaws.{table, named, entry, no_bundle, past, decided}
use Rattle.wire.proofs.instances.find.Goals.{then-not-known-via-then-not-known, then-not-known-via-else-not-known+then-p-ge-NUMBERS}
use Rattle.wire.proofs.instances.find.Goals as goal

pub returns-then-not-known : goal.returns-then-not-known
returns-then-not-known c =
    let a = c.args in (
      elim c.then-not-known.branch [
        | then-not-known-via-then-not-known w ↦ no_bundle a.party a.protocol a.mode (ltb-false _ _ (sym c.known.ensures ∙ w.if-not-known.true))
        | then-not-known-via-else-not-known+then-p-ge-NUMBERS w ↦ past a.party a.protocol a.mode (omega arith)
      ],
      tt,
    )

pub returns-in-None : goal.returns-in-None
unfolding table entry named route_of find bundle_of
returns-in-None c =
    let known = decided c.args.party c.from-p.result c.from.result (search rules) (search rules) (search rules) in
    rw (← c.from-p.ensures, ← c.from.ensures) (known.0 c.in-None.is, tt)

pub by_mode-requires : goal.by_mode-requires
unfolding table entry named route_of find bundle_of
by_mode-requires c =
    let known = decided c.args.party c.from-p.result c.from.result (search rules) (search rules) (search rules) in
    omega (arith, c.from-in-Some.ensures, (known.1 c.in-Some.i c.in-Some.is).0)

pub returns-in-Some : goal.returns-in-Some
unfolding table entry named route_of find bundle_of
returns-in-Some c =
    let known = decided c.args.party c.from-p.result c.from.result (search rules) (search rules) (search rules) in
    let at_i = (known.1 c.in-Some.i c.in-Some.is).1 in
    (c.by_mode.ensures.0 ∙ rw (c.from-in-Some.ensures, ← c.from-p.ensures, ← c.from.ensures) at_i, c.by_mode.ensures.1)
