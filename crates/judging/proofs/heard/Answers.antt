-- `judging::heard` meets its contract: each way out is told by a "when" that holds there.
use Rattle.std.proofs.Common.{refl, sym, ap, ◌∙◌, cond, ℕ, eqb, arith}
use Rattle.ring.specs.Inside.{seen}
use Rattle.ring.proofs.Views.{seen_length}
use Rattle.wire.proofs.InstanceLaws.{at_most}
use Rattle.item.specs.Verdict.{verdict}
use Rattle.rows.specs.declared.Protocol.{Protocol}
use Rattle.rows.specs.Rows.{done_of}
use Rattle.judging.specs.declared.Outcome.TheVariants.{OurTurn, Finished, AfterDone, NoAccept}
use Rattle.judging.specs.Judging.{view_of, unjudged, by_verdict}
use Rattle.judging.specs.Besides.Hearing.{refusal, no_accept, our_turn}
use Rattle.judging.proofs.JudgingLaws.{ours_spoken}
use Rattle.judging.proofs.HearingLaws.{heard_exactly, heard_done, awaited_so}
use Rattle.judging.proofs.heard.Goals as goal

pub offset_bounds-c-i : goal.offset_bounds-c-i
offset_bounds-c-i c = record { fits = omega (arith, c.requires, at_most c.args.c.now.settings.party.bundle) }

pub bounds-c-i : goal.bounds-c-i
bounds-c-i c = omega (arith, c.requires, at_most c.args.c.now.settings.party.bundle)

pub returns-then-barred : goal.returns-then-barred
returns-then-barred c =
    let v = view_of c.args.c.now c.args.i (seen c.args.held) in
    sym ((heard_exactly v (unjudged NoAccept)).1 (refusal (no_accept (sym c.barred.ensures ∙ c.if-barred.true))))

pub returns-then-state-done : goal.returns-then-state-done
returns-then-state-done c =
    let v = view_of c.args.c.now c.args.i (seen c.args.held) in
    let unbarred = sym c.barred.ensures ∙ c.if-barred.false in
    let last = c.done.ensures ∙ ap done_of c.protocol-p.ensures in
    let long = seen_length c.args.held in
    ap unjudged (c.ended.ensures ∙ ap (λ (k : ℕ). cond (eqb k 0) Finished AfterDone) (sym long))
    ∙ sym (heard_done v unbarred (c.if-state-done.true ∙ last))

pub returns-then-ours : goal.returns-then-ours
returns-then-ours c =
    let v = view_of c.args.c.now c.args.i (seen c.args.held) in
    let unbarred = sym c.barred.ensures ∙ c.if-barred.false in
    let last = c.done.ensures ∙ ap done_of c.protocol-p.ensures in
    let ours-now = sym (c.ours.ensures ∙ ours_spoken v.party v.instance v.state _ c.protocol-p.ensures) ∙ c.if-ours.true in
    sym ((heard_exactly v (unjudged OurTurn)).1 (refusal (our_turn unbarred (λ z. c.if-state-done.false (z ∙ sym last)) ours-now)))

pub returns : goal.returns
returns c =
    let held = seen c.args.held in
    let v = view_of c.args.c.now c.args.i held in
    let unbarred = sym c.barred.ensures ∙ c.if-barred.false in
    let last = c.done.ensures ∙ ap done_of c.protocol-p.ensures in
    let theirs = sym (c.ours.ensures ∙ ours_spoken v.party v.instance v.state _ c.protocol-p.ensures) ∙ c.if-ours.false in
    rw (c.measured.ensures, c.is_open.ensures)
    (ap (λ (p : Protocol). by_verdict p v.state v.closed held (verdict held)) c.protocol-p.ensures
    ∙ sym (awaited_so v (record { allowed = unbarred; going = λ z. c.if-state-done.false (z ∙ sym last); theirs = theirs }) _ refl))
