-- The levels of a walk, and what is told of the bytes from a place on.
use Rattle.std.specs.Prelude.{ℕ, zero, suc, ◌+◌, ◌^◌, ◌≤◌, ◌<◌, ◌%◌, List, true, false, cond, ◌≡◌, eqb, drop}
use Rattle.item.specs.Grammar.{Frame, Items, Elements, Pairs, Value, Chunks, nesting}
use Rattle.item.specs.Verdict.{Stack, judge, Verdict}
use Rattle.item.specs.Besides.Verdict.{heads}

-- What a level wants, by its kind and its count.
abbrev pub frame_of : ℕ → ℕ → Frame
frame_of zero c = Items c
frame_of (suc zero) c = Items (c + 2 ^ 64)
frame_of (suc (suc zero)) c = Elements
frame_of (suc (suc (suc zero))) c = cond (eqb (c % 2) 0) Pairs Value
frame_of (suc (suc (suc (suc zero)))) c = Chunks false
frame_of (suc (suc (suc (suc (suc k))))) c = Chunks true

-- A level that wants items is within as many others as the nesting has, a string within one more; a string has no count.
pub record Good (k c d : ℕ) : Type 0 where
  pub tall : d ≤ nesting + 1
  pub low : k < 4 → 0 < k + c → d ≤ nesting
  pub none : 4 ≤ k → c ≡ 0

-- The verdict on the bytes xs, and the number of complete heads in them, from a place on, with h heads before it.
abbrev pub tell : List ℕ → ℕ → ℕ → Stack → Verdict × ℕ
tell xs at h fs = (judge (drop at xs) at fs, h + heads (drop at xs) fs)
