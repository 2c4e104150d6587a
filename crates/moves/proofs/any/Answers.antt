-- `moves::any` meets its contract: each arm does what its initial byte says.
use mathlib.Core.Path.{refl, sym, ap, ◌∙◌}
use native.Mathlib.Omega.{arith}
use Rattle.head.specs.Initial.{initial}
use Rattle.head.proofs.ReadLaws.{long_small}
use Rattle.ring.specs.Inside.{seen}
use Rattle.ring.proofs.Views.{seen_length}
use Rattle.moves.proofs.AnyHead.{lacks, no_reserved}
use Rattle.moves.proofs.any.Goals as goal

pub returns-then-at-v : goal.returns-then-at-v
returns-then-at-v c =
    let a = c.args in
    let xs = seen a.v in
    let len = seen_length a.v in
    lacks xs a.at a.w.level.kind a.w.level.count a.w.depth (omega arith) a.w.wants

pub long-requires : goal.long-requires
long-requires c =
    let e = ap initial (sym c.byte.ensures) ∙ sym c.initial_of.ensures ∙ c.in-Long.is in
    let small = long_small _ refl e in
    record { in_bounds = (omega arith, omega arith); at_value = e }

pub simple-requires : goal.simple-requires
simple-requires c =
    let e = ap initial (sym c.byte.ensures) ∙ sym c.initial_of.ensures ∙ c.in-Simple.is in
    record { in_bounds = omega arith; at_value = e }

pub returns-in-Short : goal.returns-in-Short
returns-in-Short c =
    let a = c.args in
    let xs = seen a.v in
    let len = seen_length a.v in
    let e = ap initial (sym c.byte.ensures) ∙ sym c.initial_of.ensures ∙ c.in-Short.is in
    c.short.ensures xs len e

pub returns-in-Long : goal.returns-in-Long
returns-in-Long c =
    c.long.ensures

pub returns-in-Indefinite : goal.returns-in-Indefinite
returns-in-Indefinite c =
    let a = c.args in
    let xs = seen a.v in
    let len = seen_length a.v in
    let e = ap initial (sym c.byte.ensures) ∙ sym c.initial_of.ensures ∙ c.in-Indefinite.is in
    c.indefinite.ensures xs (omega arith) e

pub returns-in-Simple : goal.returns-in-Simple
returns-in-Simple c =
    c.simple.ensures

pub returns-in-Break : goal.returns-in-Break
returns-in-Break c =
    let a = c.args in
    let xs = seen a.v in
    let len = seen_length a.v in
    let e = ap initial (sym c.byte.ensures) ∙ sym c.initial_of.ensures ∙ c.in-Break.is in
    c.broken.ensures xs a.w.depth (omega arith) a.w.good a.w.wants e

pub returns-in-Reserved : goal.returns-in-Reserved
returns-in-Reserved c =
    let a = c.args in
    let xs = seen a.v in
    let len = seen_length a.v in
    let e = ap initial (sym c.byte.ensures) ∙ sym c.initial_of.ensures ∙ c.in-Reserved.is in
    no_reserved xs a.at a.w.level.kind a.w.level.count a.w.depth (omega arith) a.w.wants e
