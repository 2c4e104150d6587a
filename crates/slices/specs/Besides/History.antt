-- A log in parallel slices is the same log, at every call.
use Rattle.std.specs.Prelude.{ℕ, ◌≡◌, true, List, [], ◌∷◌}
use Rattle.point_log.specs.Besides.Numbers.{number, left}
use Rattle.slices.specs.Parallel.{match, records, back_in, add_in}
use Rattle.point_log.specs.Besides.History.{Call, adds, backs, Log, answer, after, after_all}

pub record Slices : Type 0 where
  pub slots : List ℕ
  pub hashes : List ℕ
  pub count : ℕ

abbrev pub log_of : Slices → Log
log_of l = record { run = records l.slots l.hashes; count = l.count }

abbrev pub answer_in : Slices → Call → ℕ
answer_in l (adds item) = number (add_in l.slots l.hashes l.count item).answer
answer_in l (backs item) = number (back_in l.slots l.hashes l.count item)

abbrev pub after_in : Slices → Call → Slices
after_in l (adds item) =
    let t = add_in l.slots l.hashes l.count item in record { slots = t.slots; hashes = t.hashes; count = left l.count t.answer }
after_in l (backs item) = record { slots = l.slots; hashes = l.hashes; count = left l.count (back_in l.slots l.hashes l.count item) }

unfoldable pub after_all_in : Slices → List Call → Slices
after_all_in l [] = l
after_all_in l (c ∷ cs) = after_all_in (after_in l c) cs

unfoldable pub answers_in : Slices → List Call → List ℕ
answers_in l [] = []
answers_in l (c ∷ cs) = answer_in l c ∷ answers_in (after_in l c) cs

unfoldable pub answers : Log → List Call → List ℕ
answers l [] = []
answers l (c ∷ cs) = answer l c ∷ answers (after l c) cs

-- slices that match answer every call as their records do, and hold what these hold
abbrev pub Alike : Type 0
Alike = (l : Slices) (cs : List Call) → match l.slots l.hashes ≡ true
    → (answers_in l cs ≡ answers (log_of l) cs) × (log_of (after_all_in l cs) ≡ after_all (log_of l) cs)
