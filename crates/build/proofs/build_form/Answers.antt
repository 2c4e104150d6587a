-- `build::build_form` meets its contract: the parts make a message of the form, and there is room for it, or not.
use Rattle.std.proofs.Common.{rules, arith, sym, ap, ◌∙◌}
use Rattle.messages.specs.Inside.{form_at}
use Rattle.layout.specs.Inside.{whole_of}
use Rattle.build.specs.Building.{handed}
use Rattle.build.proofs.BuildLaws.{no_message, heads_and_runs, unplanned, planned_so, hand_short, hand_over}
use Rattle.build.proofs.build_form.Goals as goal

pub returns-in_err-arguments : goal.returns-in_err-arguments
returns-in_err-arguments c =
    let a = c.args in
    let none = c.in_err-arguments.ensures in
    rw (
      no_message _ _ _ c.from_residual.ensures.1 none.value none.ok_part,
      unplanned a.asked a.given a.kind (form_at a.row).fields (sym c.judge.ensures ∙ none.ok_part),
    )

pub len-requires : goal.len-requires
len-requires c =
    let a = c.args in
    heads_and_runs a.asked a.given a.kind (form_at a.row).fields (sym c.judge.ensures ∙ c.in_ok-arguments.ensures.ok_part) c.requires.1

pub returns-in-Some : goal.returns-in-Some
returns-in-Some c =
    let a = c.args in
    hand_over _ a.buf.now c.in-Some.ensures.1 (omega arith) c.lay.ensures
    ∙ ap (handed a.buf.now) (planned_so a.asked a.given a.kind (form_at a.row).fields (sym c.judge.ensures ∙ c.in_ok-arguments.ensures.ok_part))

pub returns-in_default : goal.returns-in_default
returns-in_default c =
    let a = c.args in
    let s = c.in-Some.ensures in
    hand_short _ a.buf.now (omega arith)
    ∙ ap (handed a.buf.now) (planned_so a.asked a.given a.kind (form_at a.row).fields (sym c.judge.ensures ∙ c.in_ok-arguments.ensures.ok_part))

pub returns-in_default-2 : goal.returns-in_default-2
returns-in_default-2 c =
    let a = c.args in
    let s = c.in_default.ensures in
    hand_short (whole_of a.asked a.given.first.now a.given.second.now (form_at a.row).fields a.kind c.in_ok-arguments.arguments) a.buf.now (search rules)
    ∙ ap (handed a.buf.now) (planned_so a.asked a.given a.kind (form_at a.row).fields (sym c.judge.ensures ∙ c.in_ok-arguments.ensures.ok_part))
