-- `base::number::write` meets its contract, from the last byte to the first.
use Rattle.std.proofs.Common.{◌≡◌, ◌∙◌, rules, arith}
use Rattle.base.specs.Numbers.{octets}
use Rattle.base.proofs.NumberLaws.{store_last}
use Rattle.base.proofs.number.write.Goals as goal

pub loop-j-preserved : goal.loop-j-preserved
loop-j-preserved c =
    let l = c.loop-j in
    store_last l.s c.args.at l.j l.rest (search rules) ∙ l.invariant

pub returns : goal.returns
unfolding octets
returns c =
    let e : c.loop-j.j ≡ 0 = omega arith in
    rw e at c.loop-j.invariant
