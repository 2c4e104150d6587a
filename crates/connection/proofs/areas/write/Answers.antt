-- `connection::areas::write` meets its contract: the area lies in the store.
use mathlib.Core.Path.{◌∙◌}
use native.Mathlib.Omega.{arith}
use Rattle.connection.proofs.areas.write.Goals as goal

pub base_of-base-requires : goal.base_of-base-requires
base_of-base-requires c =
    let s = c in
    let area = s.requires.0 in
    (omega (arith, area.listed), omega (arith, area.inside))

pub write-requires : goal.write-requires
write-requires c =
    let s = c in
    let (area, within, fits) = s.requires in
    (within, area.some, rw c.base_of-base.ensures area.inside, fits)

pub returns : goal.returns
returns c = c.write.ensures ∙ rw c.base_of-base.ensures
