-- T2 for what look and drop ask of a view: `heard_exactly`. Each "when" decides the tests up to its own, and one walk through the tests finds a "when" that
-- holds.
-- Assumes nothing.
use mathlib.Core.Path.{◌≡◌, refl, ap, subst, ◌∙◌}
use mathlib.Core.Bool.{false, cond}
use Prim.Native.Nat.{ℕ, ◌≤◌, ◌<◌}
use native.Mathlib.Omega.{arith}
use lib.Dec.{eqb}
use lib.ListN.{length, take}
use lib.Seq.{length-take-le}
use borrow.Author.Tests.{eq-eqb, ne_eqb, eqb-true, eqb-false}
use Rattle.std.specs.Prelude.{Ok, Err}
use Rattle.base.proofs.Conds.{cond_cases}
use Rattle.item.specs.declared.NotWhole.TheVariants.{Bad, Incomplete}
use Rattle.item.specs.Verdict.{verdict, Verdict}
use Rattle.rows.specs.Rows.{done_of}
use Rattle.connection.specs.Closings.{bytes_bad}
use Rattle.judging.specs.declared.Outcome.{Outcome}
use Rattle.judging.specs.declared.Outcome.TheVariants.{Waiting, OurTurn, Finished, BytesBad, NoMessage, NoRow, AfterDone, NoAccept, Closed, NotOurTurn, OutOfRange, NoInstance, NoRoom}
use Rattle.judging.specs.declared.Judged.{Judged}
use Rattle.judging.specs.Judging.{View, spoken, ours_now, barred, at_done, outcome_number, outcome_offset, Judgement, unjudged, led, by_verdict, heard}
use Rattle.judging.specs.Besides.Hearing.{Awaited, Unheard, Hears, refusal, message, HeardExactly}
use Rattle.judging.specs.Besides.Hearing.{no_accept, finished, past_done, our_turn, waiting, closed, are_bad, not_a_message, no_row}
use Rattle.judging.proofs.JudgingLaws as judging
use Rattle.judging.proofs.JudgingLaws.{Judges, judges, judged_so, whole_within}

module _ (v : View) where
  abbrev by_bytes : Verdict → Judgement
  by_bytes d = by_verdict (spoken v) v.state v.closed v.bytes d

  -- ---- where a "when" holds, that is told

  pub awaited_so : Awaited v → (d : Verdict) → verdict v.bytes ≡ d → heard v ≡ by_bytes d
  unfolding heard
  awaited_so w d e = rw (w.allowed, ne_eqb v.state (done_of (spoken v)) w.going, w.theirs, e)

  pub heard_done : barred v ≡ false → v.state ≡ done_of (spoken v) → heard v ≡ unjudged (cond (eqb (length v.bytes) 0) Finished AfterDone)
  unfolding heard
  heard_done b d = rw (b, eq-eqb v.state (done_of (spoken v)) d)

  judged_as : Awaited v → (n : ℕ) → verdict v.bytes ≡ Ok n → {j : Judgement} → Judges (spoken v) v.state (take n v.bytes) j → heard v ≡ j
  judged_as w n e q = awaited_so w (Ok n) e ∙ judged_so (spoken v) v.state (take n v.bytes) q

  unheard_so : {o : Outcome} → Unheard v o → heard v ≡ unjudged o
  unfolding heard
  unheard_so (no_accept b) = rw b
  unheard_so (finished b d z) = heard_done b d ∙ rw (eq-eqb (length v.bytes) 0 z)
  unheard_so (past_done b d z) = heard_done b d ∙ rw (ne_eqb (length v.bytes) 0 z)
  unheard_so (our_turn b d o) = rw (b, ne_eqb v.state (done_of (spoken v)) d, o)
  unheard_so (waiting w e o) = awaited_so w (Err Incomplete) e ∙ rw o
  unheard_so (closed w e o) = awaited_so w (Err Incomplete) e ∙ rw o
  unheard_so (are_bad {at = at} w e) = awaited_so w (Err (Bad at)) e
  unheard_so (not_a_message {n = n} {why = r} w e q none) = judged_as w n e (judging.not_read r q none)
  unheard_so (no_row {n = n} {m = m} w e s x) = judged_as w n e (judging.not_led m s x)

  -- the first n bytes are n, if they are an item
  pub first_long : (n : ℕ) → verdict v.bytes ≡ Ok n → length (take n v.bytes) ≡ n
  first_long n e = length-take-le n v.bytes (whole_within v.bytes n e)

  heard_so : {j : Judgement} → Hears v j → heard v ≡ j
  heard_so (refusal u) = unheard_so u
  heard_so (message {n = n} {next = next} {m = m} s) =
      judged_as s.awaited n s.whole (judging.message m next s.says s.row) ∙ ap (λ (k : ℕ). led k m next) (first_long n s.whole)

  -- ---- and one of them holds

  by_judged : Awaited v → (n : ℕ) → verdict v.bytes ≡ Ok n → {j : Judgement} → Judges (spoken v) v.state (take n v.bytes) j → Hears v j
  by_judged w n e (judging.not_read r q none) = refusal (not_a_message w e q none)
  by_judged w n e (judging.not_led m s x) = refusal (no_row w e s x)
  by_judged w n e (judging.message m next s x) =
      rw (first_long n e) (message (record { awaited = w; whole = e; says = s; row = x }))

  hears_by_verdict : Awaited v → (d : Verdict) → verdict v.bytes ≡ d → Hears v (by_bytes d)
  hears_by_verdict w (Ok n) e = by_judged w n e (judges (spoken v) v.state (take n v.bytes))
  hears_by_verdict w (Err (Bad at)) e = refusal (are_bad w e)
  hears_by_verdict w (Err Incomplete) e =
      cond_cases (λ (o : Outcome). Hears v (unjudged o)) v.closed (λ o. refusal (closed w e o)) (λ o. refusal (waiting w e o))

  pub hears : Hears v (heard v)
  unfolding heard
  hears =
      let done = done_of (spoken v) in
      let long = length v.bytes in
      cond_cases (Hears v) (barred v) (λ b. refusal (no_accept b))
      (λ b.
      cond_cases (Hears v) (at_done v)
      (λ t.
      let d = eqb-true v.state done t in
      cond_cases (λ (o : Outcome). Hears v (unjudged o)) (eqb long 0) (λ z. refusal (finished b d (eqb-true long 0 z)))
      (λ z. refusal (past_done b d (eqb-false long 0 z))))
      (λ t.
      let d = eqb-false v.state done t in
      cond_cases (Hears v) (ours_now v) (λ o. refusal (our_turn b d o))
      (λ o. hears_by_verdict (record { allowed = b; going = d; theirs = o }) (verdict v.bytes) refl)))

pub heard_exactly : HeardExactly
heard_exactly v j = (λ e. subst (Hears v) e (hears v), heard_so v)

-- no refusal or notice is 0, and none is above 20
pub unheard_number : {v : View} {o : Outcome} → Unheard v o → (0 < outcome_number o) × (outcome_number o ≤ 20)
unheard_number (no_accept b) = (omega arith, omega arith)
unheard_number (finished b d z) = (omega arith, omega arith)
unheard_number (past_done b d z) = (omega arith, omega arith)
unheard_number (our_turn b d o) = (omega arith, omega arith)
unheard_number (waiting w e o) = (omega arith, omega arith)
unheard_number (closed w e o) = (omega arith, omega arith)
unheard_number (are_bad w e) = (omega arith, omega arith)
unheard_number (not_a_message w e q none) = (omega arith, omega arith)
unheard_number (no_row w e s x) = (omega arith, omega arith)

-- with 14, the offset is that of the verdict; with any other number it is 0
pub unheard_bad : {v : View} {o : Outcome} → Unheard v o → outcome_number o ≡ bytes_bad → verdict v.bytes ≡ Err (Bad (outcome_offset o))
unheard_bad (no_accept b) z = absurd (omega arith)
unheard_bad (finished b d q) z = absurd (omega arith)
unheard_bad (past_done b d q) z = absurd (omega arith)
unheard_bad (our_turn b d o) z = absurd (omega arith)
unheard_bad (waiting w e o) z = absurd (omega arith)
unheard_bad (closed w e o) z = absurd (omega arith)
unheard_bad (are_bad w e) z = e
unheard_bad (not_a_message w e q none) z = absurd (omega arith)
unheard_bad (no_row w e s x) z = absurd (omega arith)

pub no_offset : (o : Outcome) → (outcome_number o ≡ bytes_bad → ⊥) → outcome_offset o ≡ 0
no_offset Waiting h = refl
no_offset OurTurn h = refl
no_offset Finished h = refl
no_offset (BytesBad at) h = absurd (h refl)
no_offset (NoMessage why) h = refl
no_offset NoRow h = refl
no_offset AfterDone h = refl
no_offset NoAccept h = refl
no_offset Closed h = refl
no_offset NotOurTurn h = refl
no_offset OutOfRange h = refl
no_offset NoInstance h = refl
no_offset NoRoom h = refl

-- what is judged is not longer than the bytes
pub heard_within : (v : View) (j : Judged) → heard v ≡ Ok j → j.len ≤ length v.bytes
heard_within v j e = of (subst (Hears v) e (hears v)) refl
  where
    of : {k : Judgement} → Hears v k → k ≡ Ok j → j.len ≤ length v.bytes
    of (refusal u) e = cc
    of (message {n = n} s) e = let q : n ≡ j.len = cc in omega (arith, whole_within v.bytes n s.whole)
