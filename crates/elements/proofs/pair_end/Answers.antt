-- `elements::pair_end` meets its contract: an array whose item and size are found, and then its end, as the definition goes by.
use mathlib.Core.Path.{sym, ◌∙◌}
use native.Mathlib.Omega.{arith}
use Rattle.std.specs.Prelude.{◌-◌}
use Rattle.ring.specs.Inside.{seen}
use Rattle.ring.proofs.Views.{seen_length}
use Rattle.elements.proofs.ElementLaws.{sized_end_lem, closed_true, past_inside}
use Rattle.elements.proofs.pair_end.Goals as goal

pub past-requires : goal.past-requires
past-requires c =
    let bs = seen c.args.v in
    let long = seen_length c.args.v in
    let low = sized_end_lem bs (c.args.d - 1) c.in_ok-x.first (sym c.sized_end.ensures ∙ c.in_ok-q.was) in
    let ends =
    past_inside bs c.in_ok-x.x 2 low (closed_true bs c.in_ok-x.x 2 c.in_ok-q.q (sym c.is_closed.ensures ∙ c.if-is_closed.true)) in
    omega (arith, ends.1)
