-- `admitting::header_at` meets its contract: after j steps the record is filled with the first j bytes.
use mathlib.Core.Path.{◌≡◌, ap, ◌∙◌}
use native.Mathlib.Omega.{arith}
use Rattle.ring.specs.Ring.{run}
use Rattle.wire.specs.Segments.{header_length, empty}
use Rattle.admitting.specs.Inside.{filled}
use Rattle.admitting.proofs.HeaderLaws.{filled_next}
use borrow.Author.Rules.{rules}
use Rattle.admitting.proofs.header_at.Goals as goal

pub loop-j-init : goal.loop-j-init
unfolding filled
loop-j-init c = (search rules, c.empty-header.ensures)

pub loop-j-preserved : goal.loop-j-preserved
loop-j-preserved c =
    let a = c.args in
    let l = c.loop-j in
    (search rules, filled_next empty a.input.now a.at l.j (omega arith) l.invariant.1 c.add-header.ensures)

pub returns : goal.returns
returns c =
    let a = c.args in
    let l = c.loop-j in
    let all : l.j ≡ header_length = omega arith in
    l.invariant.1 ∙ ap (λ j. filled empty (run a.input.now a.at j)) all
