-- `looking::cut` meets its contract: the part's bytes and where it lies, or none.
use mathlib.Core.Path.{◌≡◌, refl, ap}
use Prim.Native.Nat.{ℕ, ◌+◌, ◌-◌}
use native.Mathlib.Omega.{arith}
use lib.ListN.{take, drop}
use Rattle.looking.proofs.PartLaws.{cut_in, cut_out}
use Rattle.looking.proofs.cut.Goals as goal

pub returns-then-s-at : goal.returns-then-s-at
returns-then-s-at c =
    let a = c.args in
    let from : 0 + a.s.ref_ptr.1 ≡ a.s.ref_ptr.1 + 0 = omega arith in
    cut_out a.s a.at a.len _ (omega (arith, c.if-s-at.true)) (ap (λ (n : ℕ). (a.s.ref_ptr.0, n)) from) refl

pub returns-then-s-at-2 : goal.returns-then-s-at-2
returns-then-s-at-2 c =
    let a = c.args in
    let from : 0 + a.s.ref_ptr.1 ≡ a.s.ref_ptr.1 + 0 = omega arith in
    cut_out a.s a.at a.len _ (omega (arith, c.if-s-at-2.true, c.if-s-at.false)) (ap (λ (n : ℕ). (a.s.ref_ptr.0, n)) from) refl

pub returns : goal.returns
returns c =
    let a = c.args in
    let from : a.at + a.s.ref_ptr.1 ≡ a.s.ref_ptr.1 + a.at = omega arith in
    let long : a.at + a.len - a.at ≡ a.len = omega arith in
    cut_in a.s a.at a.len _ (omega (arith, c.if-s-at-2.false, c.if-s-at.false)) (ap (λ (n : ℕ). (a.s.ref_ptr.0, n)) from)
    (ap (λ (n : ℕ). take n (drop a.at a.s.now)) long)
