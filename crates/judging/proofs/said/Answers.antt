-- `judging::said` meets its contract: each way out is told by a "when" that holds there.
use Rattle.std.proofs.Common.{◌≡◌, true, false, not, sym, ap, ◌∙◌, arith}
use Rattle.wire.proofs.InstanceLaws.{at_most}
use Rattle.rows.specs.declared.Protocol.{Protocol}
use Rattle.judging.specs.declared.Outcome.TheVariants.{NoAccept, Closed, NotOurTurn}
use Rattle.judging.specs.Judging.{view_of, unjudged, judged_of}
use Rattle.judging.specs.Besides.Saying.{refusal, closed, no_accept, not_our_turn}
use Rattle.judging.proofs.JudgingLaws.{ours_spoken}
use Rattle.judging.proofs.SayingLaws.{said_exactly, said_bytes}
use Rattle.judging.proofs.said.Goals as goal

pub offset_bounds-c-i : goal.offset_bounds-c-i
offset_bounds-c-i c = record { fits = omega (arith, c.requires, at_most c.args.c.now.settings.party.bundle) }

pub bounds-c-i : goal.bounds-c-i
bounds-c-i c = omega (arith, c.requires, at_most c.args.c.now.settings.party.bundle)

pub returns-then-not-is_open : goal.returns-then-not-is_open
returns-then-not-is_open c =
    let v = view_of c.args.c.now c.args.i c.args.message.now in
    let shut : v.closed ≡ true = ap not (sym c.is_open.ensures ∙ c.if-not-is_open.true) in
    sym ((said_exactly v (unjudged Closed)).1 (refusal (closed shut)))

pub returns-then-barred : goal.returns-then-barred
returns-then-barred c =
    let v = view_of c.args.c.now c.args.i c.args.message.now in
    let unshut : v.closed ≡ false = ap not (sym c.is_open.ensures ∙ c.if-not-is_open.false) in
    let bars = sym c.barred.ensures ∙ c.if-barred.true in
    sym ((said_exactly v (unjudged NoAccept)).1 (refusal (no_accept unshut bars)))

pub returns-then-ours : goal.returns-then-ours
returns-then-ours c =
    let v = view_of c.args.c.now c.args.i c.args.message.now in
    let unshut : v.closed ≡ false = ap not (sym c.is_open.ensures ∙ c.if-not-is_open.false) in
    let unbarred = sym c.barred.ensures ∙ c.if-barred.false in
    let ours-now = sym (c.ours.ensures ∙ ours_spoken v.party v.instance v.state _ c.protocol-p.ensures) ∙ c.if-ours.true in
    c.judge_slice.ensures ∙ ap (λ (p : Protocol). judged_of p v.state v.bytes) c.protocol-p.ensures
    ∙ sym (said_bytes v (record { unclosed = unshut; allowed = unbarred; ours = ours-now }))

pub returns : goal.returns
returns c =
    let v = view_of c.args.c.now c.args.i c.args.message.now in
    let unshut : v.closed ≡ false = ap not (sym c.is_open.ensures ∙ c.if-not-is_open.false) in
    let unbarred = sym c.barred.ensures ∙ c.if-barred.false in
    let theirs = sym (c.ours.ensures ∙ ours_spoken v.party v.instance v.state _ c.protocol-p.ensures) ∙ c.if-ours.false in
    sym ((said_exactly v (unjudged NotOurTurn)).1 (refusal (not_our_turn unshut unbarred theirs)))
