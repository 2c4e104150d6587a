-- `base::number::read` meets its contract: each byte makes the number 256 times as large, and adds itself.
use Rattle.std.proofs.Common.{◌≡◌, ℕ, ◌+◌, ◌-◌, ◌<◌, ◌≤◌, List, arith, rules, length, length-drop, length-take, take, drop, get_or, refl, ◌∙◌}
use Rattle.std.proofs.Math.Seq.{get_or-drop}
use Rattle.std.proofs.lemmas.List.{get_or-take}
use Rattle.base.specs.Numbers.{spelled}
use Rattle.base.proofs.NumberLaws.{number_more, room, grows}
use Rattle.base.proofs.number.read.Goals as goal

-- how many bytes there are
all : (s : List ℕ) (at k : ℕ) → at + k ≤ length s → length (take (at + k - at) (drop at s)) ≡ k
all s at k h = omega (arith, length-take (at + k - at) (drop at s), length-drop at s)

pub loop-b-init : goal.loop-b-init
unfolding spelled
loop-b-init c = search rules

pub overflow_mul-v : goal.overflow_mul-v
overflow_mul-v c =
    let a = c.args in
    let l = c.loop-b in
    omega (arith, all a.s.now a.at a.k c.requires.0, room l.b-index l.v l.invariant.1 (omega (arith, all a.s.now a.at a.k c.requires.0)))

pub overflow_add-v : goal.overflow_add-v
overflow_add-v c =
    let a = c.args in
    let l = c.loop-b in
    omega (arith, all a.s.now a.at a.k c.requires.0, room l.b-index l.v l.invariant.1 (omega (arith, all a.s.now a.at a.k c.requires.0)))

pub loop-b-preserved : goal.loop-b-preserved
loop-b-preserved c =
    let a = c.args in
    let l = c.loop-b in
    let long = all a.s.now a.at a.k c.requires.0 in
    let below : l.b-index < a.at + a.k - a.at = omega arith in
    let byte : c.from.result ≡ get_or a.s.now (a.at + l.b-index) 0 =
    c.from.ensures ∙ get_or-take (a.at + a.k - a.at) (drop a.at a.s.now) l.b-index 0 below ∙ get_or-drop a.at a.s.now l.b-index 0
    in
    let fits : c.from.result < 256 = omega (arith, c.type_inv.s (a.at + l.b-index)) in (
      rw (byte, l.invariant.0, number_more a.s.now a.at l.b-index (omega arith)) refl,
      grows l.b-index l.v c.from.result l.invariant.1 fits,
    )

pub returns : goal.returns
returns c =
    let a = c.args in
    let l = c.loop-b in
    let end : l.b-index ≡ a.k = omega (arith, all a.s.now a.at a.k c.requires.0) in
    (rw (← end) l.invariant.0, rw (← end) l.invariant.1)
