-- `cbor::begin` meets its contract: it is the definition.
use mathlib.Core.Path.{refl}
use Rattle.item.specs.Grammar.{nesting}
use Rattle.cbor.specs.Inside.Walk.{first_at}
use Rattle.cbor.proofs.Kept.{first_sound}
use Rattle.cbor.proofs.begin.Goals as goal

pub returns : goal.returns
unfolding first_at
returns c = (refl, refl, first_sound 0 nesting)
