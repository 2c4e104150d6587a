-- T2 for what put asks of a view: `said_exactly`. Each "when" decides the tests up to its own, and one walk through the tests finds a "when" that
-- holds.
-- Assumes nothing.
use mathlib.Core.Path.{◌≡◌, subst, ◌∙◌}
use Prim.Native.Nat.{◌≤◌, ◌<◌}
use native.Mathlib.Omega.{arith}
use Rattle.base.proofs.Conds.{cond_cases}
use Rattle.judging.specs.declared.Outcome.{Outcome}
use Rattle.judging.specs.Judging.{View, spoken, ours_now, barred, outcome_number, Judgement, unjudged, judged_of, said}
use Rattle.judging.specs.Besides.Saying.{OurTurn, Unsaid, Utters, refusal, message, SaidExactly}
use Rattle.judging.specs.Besides.Saying.{closed, no_accept, not_our_turn, not_a_message, no_row}
use Rattle.judging.proofs.JudgingLaws as judging
use Rattle.judging.proofs.JudgingLaws.{Judges, judges, judged_so}

module _ (v : View) where
  -- where a "when" holds, that is told
  pub said_bytes : OurTurn v → said v ≡ judged_of (spoken v) v.state v.bytes
  unfolding said
  said_bytes t = rw (t.unclosed, t.allowed, t.ours)

  judged_as : OurTurn v → {j : Judgement} → Judges (spoken v) v.state v.bytes j → said v ≡ j
  judged_as t q = said_bytes t ∙ judged_so (spoken v) v.state v.bytes q

  unsaid_so : {o : Outcome} → Unsaid v o → said v ≡ unjudged o
  unfolding said
  unsaid_so (closed o) = rw o
  unsaid_so (no_accept o b) = rw (o, b)
  unsaid_so (not_our_turn o b u) = rw (o, b, u)
  unsaid_so (not_a_message {why = r} t e none) = judged_as t (judging.not_read r e none)
  unsaid_so (no_row {m = m} t s x) = judged_as t (judging.not_led m s x)

  said_so : {j : Judgement} → Utters v j → said v ≡ j
  said_so (refusal u) = unsaid_so u
  said_so (message {next = next} {m = m} k) = judged_as k.turn (judging.message m next k.says k.row)

  -- and one of them holds
  by_judged : OurTurn v → {j : Judgement} → Judges (spoken v) v.state v.bytes j → Utters v j
  by_judged t (judging.not_read r e none) = refusal (not_a_message t e none)
  by_judged t (judging.not_led m s x) = refusal (no_row t s x)
  by_judged t (judging.message m next s x) = message (record { turn = t; says = s; row = x })

  pub utters : Utters v (said v)
  unfolding said
  utters =
      cond_cases (Utters v) v.closed (λ o. refusal (closed o))
      (λ o.
      cond_cases (Utters v) (barred v) (λ b. refusal (no_accept o b))
      (λ b.
      cond_cases (Utters v) (ours_now v)
      (λ u. by_judged (record { unclosed = o; allowed = b; ours = u }) (judges (spoken v) v.state v.bytes))
      (λ u. refusal (not_our_turn o b u))))

pub said_exactly : SaidExactly
said_exactly v j = (λ e. subst (Utters v) e (utters v), said_so v)

-- no refusal is 0, and none is above 21
pub unsaid_number : {v : View} {o : Outcome} → Unsaid v o → (0 < outcome_number o) × (outcome_number o ≤ 21)
unsaid_number (closed o) = (omega arith, omega arith)
unsaid_number (no_accept o b) = (omega arith, omega arith)
unsaid_number (not_our_turn o b u) = (omega arith, omega arith)
unsaid_number (not_a_message t e none) = (omega arith, omega arith)
unsaid_number (no_row t s x) = (omega arith, omega arith)
