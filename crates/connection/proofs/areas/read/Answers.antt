-- `connection::areas::read` meets its contract: the area lies in the store.
use mathlib.Core.Path.{◌∙◌}
use native.Mathlib.Omega.{arith}
use Rattle.connection.proofs.areas.read.Goals as goal

pub base_of-base-requires : goal.base_of-base-requires
base_of-base-requires c =
    let s = c in
    let area = s.requires.0 in
    (omega (arith, area.listed), omega (arith, area.inside))

pub read-requires : goal.read-requires
read-requires c =
    let s = c in
    let (area, within, fits) = s.requires in
    (within, area.some, rw c.base_of-base.ensures area.inside, fits)

pub returns : goal.returns
returns c = c.read.ensures ∙ rw c.base_of-base.ensures
