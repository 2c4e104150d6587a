-- `ready::ready_of` meets its contract: the word's ones are the ready instances, and its trailing zeros the lowest.
use mathlib.Core.Path.{◌≡◌, sym, ◌∙◌}
use native.Mathlib.Omega.{arith}
use native.Mathlib.Nat.{add-zero}
use lib.ListN.{length, take}
use lib.Count.{count_trailing_zeros}
use Rattle.ready.specs.Ready.{word_of}
use Rattle.ready.proofs.ReadyLaws.{ones_ready, lowest_none, lowest_some}
use Rattle.ready.proofs.ready_of.Goals as goal

pub returns-then-word-eq0 : goal.returns-then-word-eq0
returns-then-word-eq0 c =
    let a = c.args in
    let ws = take a.n a.waiting in
    let e = c.word-word.ensures.0 in
    cc (ones_ready ws, lowest_none 0 ws (sym e ∙ c.if-word-eq0.true))

pub returns-else-word-eq0 : goal.returns-else-word-eq0
returns-else-word-eq0 c =
    let a = c.args in
    let ws = take a.n a.waiting in
    let long : length ws ≡ a.n = c.word-word.ensures.2 in
    let e = c.word-word.ensures.0 in
    cc (ones_ready ws, lowest_some 64 0 ws (omega arith) (λ z. c.if-word-eq0.false (e ∙ z)), add-zero (count_trailing_zeros 64 (word_of ws)))
