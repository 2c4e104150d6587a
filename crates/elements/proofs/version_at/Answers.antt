-- `elements::version_at` meets its contract: behind the key, if there is one, stands its value.
use mathlib.Core.Path.{sym, ◌∙◌}
use native.Mathlib.Omega.{arith}
use Rattle.ring.specs.Inside.{seen}
use Rattle.elements.proofs.ElementLaws.{key_small}
use Rattle.elements.proofs.version_at.Goals as goal

pub overflow_add-result : goal.overflow_add-result
overflow_add-result c =
    record { fits = omega (arith, key_small (seen c.args.v) c.args.low c.args.at (sym c.key_at.ensures ∙ c.in_ok-key.was)) }
