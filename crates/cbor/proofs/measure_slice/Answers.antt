-- `cbor::measure_slice` meets its contract: a slice as a whole is a view of it.
use mathlib.Core.Path.{ap, ◌∙◌}
use Rattle.item.specs.Verdict.{verdict}
use Rattle.cbor.proofs.measure_slice.Goals as goal

pub returns : goal.returns
returns c =
    c.measure.ensures ∙ ap verdict c.all.ensures
