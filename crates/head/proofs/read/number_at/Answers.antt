-- `head::read::number_at` meets its contract: after j turns n is the number that the first j bytes spell.
use Rattle.std.proofs.Common.{◌≡◌, refl, arith, rules}
use Rattle.base.specs.Numbers.{spelled}
use Rattle.base.proofs.NumberLaws.{number_more, room, grows}
use Rattle.ring.specs.Inside.{seen}
use Rattle.ring.proofs.Views.{seen_length}
use Rattle.head.proofs.read.number_at.Goals as goal

pub loop-j-init : goal.loop-j-init
unfolding spelled
loop-j-init c = (refl, search rules)

pub overflow_mul-n : goal.overflow_mul-n
overflow_mul-n c =
    let l = c.loop-j in
    omega (arith, room l.j l.n l.invariant.1 (omega arith))

pub overflow_add-n : goal.overflow_add-n
overflow_add-n c =
    let l = c.loop-j in
    omega (arith, room l.j l.n l.invariant.1 (omega arith))

pub loop-j-preserved : goal.loop-j-preserved
loop-j-preserved c =
    let a = c.args in
    let l = c.loop-j in
    let long = seen_length a.v in (
      rw (l.invariant.0, c.from.ensures, c.byte.ensures, number_more (seen a.v) a.at l.j (omega arith)) refl,
      rw (c.from.ensures) (grows l.j l.n c.byte.result l.invariant.1 (search rules)),
    )

pub returns : goal.returns
returns c =
    let all : c.loop-j.j ≡ c.args.k = omega arith in
    let inv = c.loop-j.invariant in
    (rw (← all) inv.0, rw (← all) inv.1)
