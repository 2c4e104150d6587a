-- Slices that match are the same log as their records, at every call.
-- Assumes nothing.
use mathlib.Core.Path.{◌≡◌, refl, ap, ◌∙◌}
use mathlib.Core.Bool.{true}
use mathlib.Core.List.{List, [], ◌∷◌}
use Prim.Native.Nat.{ℕ}
use Rattle.points.specs.declared.Point.{Point}
use Rattle.std.specs.Prelude.{Result}
use Rattle.point_log.specs.declared.Refusal.{Refusal}
use Rattle.point_log.specs.Log.{add_of}
use Rattle.point_log.specs.Besides.Numbers.{number, left}
use Rattle.slices.specs.Parallel.{match, records, add_in}
use Rattle.point_log.specs.Besides.History.{Call, adds, backs, Log, answer, after, after_all}
use Rattle.slices.specs.Besides.History.{Slices, log_of, answer_in, after_in, after_all_in, answers_in, answers, Alike}
use Rattle.slices.proofs.NumberLaws.{calls_in}

record Alikes (l : Slices) (c : Call) : Type 0 where
  answers_so : answer_in l c ≡ answer (log_of l) c
  after_so : log_of (after_in l c) ≡ after (log_of l) c
  matches : match (after_in l c).slots (after_in l c).hashes ≡ true

alike_step : (l : Slices) (c : Call) → match l.slots l.hashes ≡ true → Alikes l c
alike_step l (adds item) e =
    let (ans, run, m) = ((calls_in l.slots l.hashes l.count).together e).2 item in
    record {
      answers_so = ap (number {A = ℕ}) ans;
      after_so =
          ap (λ (r : List Point). record { run = r; count = left l.count (add_in l.slots l.hashes l.count item).answer }) run
          ∙ ap (λ (d : Result ℕ Refusal). record { run = (add_of (records l.slots l.hashes) l.count item).run; count = left l.count d }) ans;
      matches = m;
    }
alike_step l (backs item) e =
    let b = ((calls_in l.slots l.hashes l.count).together e).1 item in
    record {
      answers_so = ap (number {A = ℕ}) b;
      after_so = ap (λ (d : Result ℕ Refusal). record { run = records l.slots l.hashes; count = left l.count d }) b;
      matches = e;
    }

pub alike : Alike
unfolding answers_in answers after_all_in after_all
alike l [] e = (refl, refl)
alike l (c ∷ cs) e =
    let s = alike_step l c e in
    let (a, b) = alike (after_in l c) cs s.matches in (
      ap (λ (n : ℕ). n ∷ answers_in (after_in l c) cs) s.answers_so ∙ ap (λ (r : List ℕ). answer (log_of l) c ∷ r) (a ∙ ap (λ (m : Log). answers m cs) s.after_so),
      b ∙ ap (λ (m : Log). after_all m cs) s.after_so,
    )
