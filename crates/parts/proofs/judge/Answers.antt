-- `parts::judge` meets its contract: the fields left, from these numbers and runs on, always come to what all of them come to.
use Rattle.std.proofs.Common.{◌≡◌, ◌+◌, ◌≤◌, rules, arith, sym, ◌∙◌}
use Rattle.messages.specs.Inside.{form_at}
use Rattle.parts.specs.Inside.{number_after, run_after}
use Rattle.parts.proofs.PartLaws.{plan_on, plan_stop, plan_end, plan_over}
use Rattle.parts.proofs.judge.Goals as goal
use Rattle.parts.proofs.judge.Goals.{then-is_number, else-is_number}

pub returns-in_err-arguments : goal.returns-in_err-arguments
returns-in_err-arguments c =
    let l = c.loop-i in
    c.from_residual.ensures
    ∙ plan_stop c.args.given (form_at c.args.row).fields l.i l.n l.r l.arguments (omega arith) c.field_at-f.ensures c.argument.ensures c.in_err-arguments.was
    ∙ l.invariant.3

pub loop-i-preserved : goal.loop-i-preserved
loop-i-preserved c =
    let l = c.loop-i in
    let m = c.if-is_number in
    let f = c.field_at-f.result in
    let on : (m.n ≡ number_after f l.n) × (m.r ≡ run_after f l.r) × (m.n ≤ l.i + 1) × (m.r ≤ l.i + 1) =
    elim m.branch [
      | then-is_number w ↦ rw (sym c.is_number.ensures ∙ w.if-is_number.true) (w.n-is, w.r-is, omega arith, omega arith)
      | else-is_number w ↦ rw (sym c.is_number.ensures ∙ w.if-is_number.false) (w.n-is, w.r-is, omega arith, omega arith)
    ] in (
      on.2,
      on.3,
      search rules,
      plan_on c.args.given (form_at c.args.row).fields l.i l.n l.r l.arguments (omega arith) c.field_at-f.ensures c.argument.ensures c.in_ok-arguments.was on.0 on.1
          ∙ l.invariant.3,
    )

pub returns-then-r-given : goal.returns-then-r-given
returns-then-r-given c =
    let l = c.loop-i in
    plan_end c.args.given (form_at c.args.row).fields l.i l.n l.r l.arguments (omega arith) (omega arith) (omega arith)
    ∙ l.invariant.3

pub returns-else-n-given : goal.returns-else-n-given
returns-else-n-given c =
    let l = c.loop-i in
    plan_over c.args.given (form_at c.args.row).fields l.i l.n l.r l.arguments (omega arith) (λ en er. search rules)
    ∙ l.invariant.3
