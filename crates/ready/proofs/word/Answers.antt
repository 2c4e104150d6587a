-- `ready::word` meets its contract. The loop's invariant: the word so far is that of the first n counts, from i on.
use mathlib.Core.Path.{◌≡◌, ap, ◌∙◌}
use Prim.Native.Nat.{◌+◌, ◌-◌, ◌*◌}
use native.Mathlib.Omega.{arith}
use lib.ListN.{length, take, drop, drop_of_length-le}
use lib.Seq.{length-take-le, get_or-take}
use Rattle.wire.specs.Instances.{most}
use Rattle.ready.specs.Ready.{word_of}
use Rattle.ready.proofs.ReadyLaws.{word_turn, word_small}
use borrow.Author.Rules.{rules}
use Rattle.ready.proofs.word.Goals as goal

pub loop-i-init : goal.loop-i-init
unfolding word_of
loop-i-init c =
    let a = c.args in
    let all : length a.waiting ≡ most = search rules in
    let long : length (take a.n a.waiting) ≡ a.n = length-take-le a.n a.waiting (omega (arith, c.requires)) in
    (search rules, long, rw (drop_of_length-le (take a.n a.waiting) {i = a.n} (omega arith)), search rules)

pub loop-i-preserved : goal.loop-i-preserved
loop-i-preserved c =
    let l = c.loop-i in
    let a = c.args in
    let ws = take a.n a.waiting in
    let q : l.word * 2 + c.bit.result ≡ word_of (drop (l.i - 1) ws) =
    rw (l.invariant.2, c.bit.ensures.0, ← get_or-take a.n a.waiting (l.i - 1) 0 (search rules)) (word_turn ws l.i (search rules) (search rules)) in
    (search rules, l.invariant.1, q, rw q (word_small ws (l.i - 1) most (omega arith)))

pub returns : goal.returns
returns c =
    let l = c.loop-i in
    let a = c.args in
    let z : l.i ≡ 0 = omega arith in
    (l.invariant.2 ∙ ap (λ k. word_of (drop k (take a.n a.waiting))) z, l.invariant.3, l.invariant.1)
