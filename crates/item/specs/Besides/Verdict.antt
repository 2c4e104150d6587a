-- The complete heads in a run of bytes.
use Rattle.std.specs.Prelude.{ℕ, zero, suc, ◌+◌, List, [], ◌∷◌, Bool, true, false}
use Rattle.std.proofs.Math.Option.{Option, none, some}
use Rattle.head.specs.Initial.{initial}
use Rattle.head.specs.declared.Initial.{Initial}
use Rattle.head.specs.declared.Initial.TheVariants.{Short, Long, Indefinite, Simple, Break, Reserved}
use Rattle.item.specs.Grammar.{One, Items, Elements, Pairs, Value, Chunks, Content, Second, Argument}
use Rattle.item.specs.Grammar.{nesting}
use Rattle.item.specs.Verdict.{Stack, nil, push, step, met, start}

-- A head that is its initial byte alone.
abbrev pub alone : Initial → ℕ
alone (Short m v) = 1
alone (Long m k) = 0
alone (Indefinite m) = 1
alone Simple = 0
alone Break = 1
alone Reserved = 0

-- How many heads a byte completes, one or none: a head is its initial byte with its argument; a break is a head.
unfoldable pub tally : Stack → ℕ → ℕ
tally nil b = 0
tally (push d One fs) b = alone (initial b)
tally (push d (Items zero) fs) b = tally fs b
tally (push d (Items (suc n)) fs) b = alone (initial b)
tally (push d Elements fs) b = alone (initial b)
tally (push d Pairs fs) b = alone (initial b)
tally (push d Value fs) b = alone (initial b)
tally (push d (Chunks text) fs) b = alone (initial b)
tally (push d (Content zero) fs) b = tally fs b
tally (push d (Content (suc n)) fs) b = 0
tally (push d Second fs) b = 1
tally (push d (Argument m v zero) fs) b = 1
tally (push d (Argument m v (suc k)) fs) b = 0

-- Heads go on being counted until the item is whole, or a byte is bad.
abbrev pub counting : Bool → ℕ → Option Stack → (Stack → ℕ) → ℕ
counting true t n k = 0
counting false t none k = 0
counting false t (some fs) k = t + k fs

-- The complete heads in the bytes, where the stack is wanted.
unfoldable pub heads : List ℕ → Stack → ℕ
heads [] fs = 0
heads (b ∷ bs) fs = counting (met fs) (tally fs b) (step fs b) (λ gs. heads bs gs)

abbrev pub heads_of : List ℕ → ℕ
heads_of bs = heads bs (start nesting)
