-- `admitting::room` meets its contract: the test decides.
use Rattle.admitting.proofs.HeaderLaws.{room_enough, room_short}
use Rattle.admitting.proofs.room.Goals as goal

pub returns-then-not-fits : goal.returns-then-not-fits
returns-then-not-fits c =
    let a = c.args in
    room_short a.caps.now a.held.now a.n a.i c.fits.result c.fits.ensures c.if-not-fits.true

pub returns : goal.returns
returns c =
    let a = c.args in
    room_enough a.caps.now a.held.now a.n a.i c.fits.result c.fits.ensures c.if-not-fits.false
