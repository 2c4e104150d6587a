-- `judging::judge_slice` meets its contract: the bytes are exactly one item, which is judged, or they are not, and are no message.
use Rattle.std.proofs.Common.{◌≡◌, ℕ, List, length, Ok, sym, ap, ◌∙◌}
use borrow.Author.Tests.{ne_eqb}
use Rattle.item.specs.Verdict.{verdict, Verdict}
use Rattle.messages.specs.Reading.{wholly}
use Rattle.ring.proofs.Views.{seen_length}
use Rattle.judging.proofs.JudgingLaws.{judged_not_one}
use Rattle.judging.proofs.judge_slice.Goals as goal

pub judge-requires : goal.judge-requires
judge-requires c =
    let long : c.in-Ok.n ≡ c.all.result.len = c.if-n-s.true ∙ ap length (sym c.all.ensures) ∙ seen_length c.all.result in
    ap verdict c.all.ensures ∙ sym c.measure_slice.ensures ∙ c.in-Ok.is ∙ ap Ok long

pub returns-in_default : goal.returns-in_default
returns-in_default c =
    let xs : List ℕ = c.args.s.now in
    judged_not_one c.args.p c.args.state xs
    (ap (λ (v : Verdict). wholly v (length xs)) (sym c.measure_slice.ensures ∙ c.in-Ok.is) ∙ ne_eqb c.in-Ok.n (length xs) c.if-n-s.false)

pub returns-in_default-2 : goal.returns-in_default-2
returns-in_default-2 c =
    let xs : List ℕ = c.args.s.now in
    judged_not_one c.args.p c.args.state xs (ap (λ (v : Verdict). wholly v (length xs)) (sym c.measure_slice.ensures ∙ c.in_default.is))
