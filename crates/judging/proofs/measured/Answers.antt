-- `judging::measured` meets its contract: each case of the verdict is a case of the definition.
use mathlib.Core.Path.{sym, ap, ◌∙◌}
use native.Mathlib.Omega.{arith}
use Rattle.std.specs.Prelude.{Err}
use Rattle.ring.proofs.Around.{around_take}
use Rattle.judging.specs.Judging.{unjudged, judged_of}
use Rattle.judging.proofs.JudgingLaws.{whole_alone}
use Rattle.judging.proofs.measured.Goals as goal

pub judge-requires : goal.judge-requires
judge-requires c =
    let s = c in
    let a = s.args in
    (whole_alone a.held.bytes.now a.held.from a.held.len _ a.held.once_round (sym c.measure.ensures ∙ c.in-Ok.is)).1

pub returns-in-Ok : goal.returns-in-Ok
returns-in-Ok c =
    let s = c in
    let a = s.args in
    let e = sym c.measure.ensures ∙ c.in-Ok.is in
    let q = whole_alone a.held.bytes.now a.held.from a.held.len _ a.held.once_round e in
    rw e (c.judge.ensures ∙ ap (judged_of a.p a.state) (sym (around_take a.held.bytes.now a.held.from _ a.held.len q.0)))

pub returns-in-Err-Bad : goal.returns-in-Err-Bad
returns-in-Err-Bad c =
    let e = sym c.measure.ensures ∙ c.in-Err-Bad.is ∙ ap Err c.in-Err-Bad.field-0-is in
    rw (e, c.in-Err-Bad.field-0-is)

pub returns-in-Err-Incomplete : goal.returns-in-Err-Incomplete
returns-in-Err-Incomplete c =
    let e = sym c.measure.ensures ∙ c.in-Err-Incomplete.is ∙ ap Err c.in-Err-Incomplete.field-0-is in
    rw e (ap unjudged c.not_whole.ensures)

pub invariant_of-judge : goal.invariant_of-judge
invariant_of-judge c =
    let a = c.args in
    let q = whole_alone a.held.bytes.now a.held.from a.held.len _ a.held.once_round (sym c.measure.ensures ∙ c.in-Ok.is) in
    record { begins_inside = a.held.begins_inside; once_round = omega (arith, q.0, a.held.once_round) }
