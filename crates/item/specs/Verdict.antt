-- The verdict on a run of bytes: what is wanted is a stack, and each byte moves it.
use Rattle.std.specs.Prelude.{ℕ, zero, suc, ◌+◌, ◌*◌, ◌-◌, List, [], ◌∷◌, Bool, true, false, cond, leb, Result, Ok, Err}
use Rattle.std.proofs.Math.Option.{Option, none, some}
use Rattle.head.specs.Initial.{initial}
use Rattle.head.specs.declared.Initial.{Initial}
use Rattle.head.specs.declared.Initial.TheVariants.{Short, Long, Indefinite, Simple, Break, Reserved}
use Rattle.item.specs.declared.NotWhole.{NotWhole}
use Rattle.item.specs.declared.NotWhole.TheVariants.{Bad, Incomplete}
use Rattle.item.specs.Grammar.{Frame, One, Items, Elements, Pairs, Value, Chunks, Content, Second, Argument, content, enter, enter_chunk}
use Rattle.item.specs.Grammar.{nesting}

-- The verdict: an item of so many bytes; no item is possible after the byte at this place; an item is still possible.
abbrev pub Verdict : Type 0
Verdict = Result ℕ NotWhole

-- What is wanted, the next first, each within its nesting.
pub data Stack : Type 0 where
  nil : Stack
  push : ℕ → Frame → Stack → Stack

-- Into what an initial byte asks for, within one less of the nesting.
abbrev pub into : ℕ → Option Frame → Stack → Option Stack
into d none fs = none
into d (some f) fs = some (push (d - 1) f fs)

-- A break, or else.
abbrev pub or_break : Initial → Stack → Option Stack → Option Stack
or_break (Short m v) fs n = n
or_break (Long m k) fs n = n
or_break (Indefinite m) fs n = n
or_break Simple fs n = n
or_break Break fs n = some fs
or_break Reserved fs n = n

-- What is wanted after a byte; none where no item is possible after it.
unfoldable pub step : Stack → ℕ → Option Stack
step nil b = none
step (push d One fs) b = into d (enter d (initial b)) (push d (Items zero) fs)
step (push d (Items zero) fs) b = step fs b
step (push d (Items (suc n)) fs) b = into d (enter d (initial b)) (push d (Items n) fs)
step (push d Elements fs) b = or_break (initial b) fs (into d (enter d (initial b)) (push d Elements fs))
step (push d Pairs fs) b = or_break (initial b) fs (into d (enter d (initial b)) (push d Value fs))
step (push d Value fs) b = into d (enter d (initial b)) (push d Pairs fs)
step (push d (Chunks text) fs) b = or_break (initial b) fs (into d (enter_chunk text (initial b)) (push d (Chunks text) fs))
step (push d (Content zero) fs) b = step fs b
step (push d (Content (suc n)) fs) b = some (push d (Content n) fs)
step (push d Second fs) b = cond (leb 32 b) (some fs) none
step (push d (Argument m v zero) fs) b = some (push d (content m (v * 256 + b)) fs)
step (push d (Argument m v (suc k)) fs) b = some (push d (Argument m (v * 256 + b) k) fs)

-- Nothing more is wanted.
unfoldable pub met : Stack → Bool
met nil = true
met (push d One fs) = false
met (push d (Items zero) fs) = met fs
met (push d (Items (suc n)) fs) = false
met (push d Elements fs) = false
met (push d Pairs fs) = false
met (push d Value fs) = false
met (push d (Chunks text) fs) = false
met (push d (Content zero) fs) = met fs
met (push d (Content (suc n)) fs) = false
met (push d Second fs) = false
met (push d (Argument m v k) fs) = false

-- At the place `at`: the item is whole; or its next byte ends all hope; or it goes on.
abbrev pub onward : Bool → ℕ → Option Stack → (Stack → Verdict) → Verdict
onward true at n k = Ok at
onward false at none k = Err (Bad at)
onward false at (some fs) k = k fs

-- The verdict on the bytes from the place `at` on, where the stack is wanted.
unfoldable pub judge : List ℕ → ℕ → Stack → Verdict
judge [] at fs = cond (met fs) (Ok at) (Err Incomplete)
judge (b ∷ bs) at fs = onward (met fs) at (step fs b) (λ gs. judge bs (suc at) gs)

-- One item within the nesting d.
abbrev pub start : ℕ → Stack
start d = push d One nil

-- The verdict on one item.
abbrev pub verdict : List ℕ → Verdict
verdict bs = judge bs 0 (start nesting)
