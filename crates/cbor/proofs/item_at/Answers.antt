-- `cbor::item_at` meets its contract: a walk that begins at the place comes to the verdict there.
use Rattle.ring.specs.Inside.{seen}
use Rattle.cbor.specs.Inside.Walk.{first_at}
use Rattle.cbor.proofs.Kept.{first_sound, first_told}
use Rattle.cbor.proofs.item_at.Goals as goal

pub advance-requires : goal.advance-requires
unfolding first_at
advance-requires c =
    let a = c.args in
    let p = c.requires in
    (p.0, first_sound a.at a.d)

pub returns : goal.returns
unfolding first_at
returns c =
    let a = c.args in
    first_told (seen a.v) a.at a.d c.advance.result.heads c.advance.result.verdict c.requires.1 c.advance.ensures.told
