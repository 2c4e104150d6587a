-- `ready::choose` meets its contract. The loop's invariant: the search from here on finds what that from the turn on finds.
use mathlib.Core.Path.{◌≡◌, sym, ap, ◌∙◌}
use Prim.Native.Nat.{◌+◌, ◌-◌}
use native.Mathlib.Omega.{arith}
use Rattle.ready.specs.Ready.{after_of}
use Rattle.ready.specs.Inside.{seek_in}
use Rattle.ready.proofs.ReadyLaws.{seek_hit, seek_on}
use borrow.Author.Rules.{rules}
use Rattle.ready.proofs.choose.Goals as goal

pub returns-then-is_set-2 : goal.returns-then-is_set-2
returns-then-is_set-2 c =
    let a = c.args in
    let l = c.loop in
    let none = sym c.is_set.ensures ∙ c.if-is_set.false in
    let t = sym c.is_set-in-loop.ensures ∙ c.if-is_set-2.true in
    rw none (sym (seek_hit a.n a.word l.i (a.n - l.counter) (search rules) t) ∙ l.invariant.1)

pub loop-preserved : goal.loop-preserved
loop-preserved c =
    let a = c.args in
    let l = c.loop in
    let t = sym c.is_set-in-loop.ensures ∙ c.if-is_set-2.false in
    let step : a.n - (l.counter + 1) ≡ a.n - l.counter - 1 = omega arith in (
      c.after-i.ensures.1,
      ap (λ k. seek_in a.n a.word k (a.n - (l.counter + 1))) c.after-i.ensures.0
          ∙ ap (λ k. seek_in a.n a.word (after_of a.n l.i) k) step
          ∙ sym (seek_on a.n a.word l.i (a.n - l.counter) (search rules) t) ∙ l.invariant.1,
    )

pub returns : goal.returns
unfolding seek_in
returns c =
    let a = c.args in
    let l = c.loop in
    let none = sym c.is_set.ensures ∙ c.if-is_set.false in
    let z : a.n - l.counter ≡ 0 = omega arith in
    rw none (rw z at l.invariant.1)
