-- `admitting::header_whole` meets its contract: the header that is there decides.
use mathlib.Core.Path.{◌∙◌, ap, subst}
use Rattle.wire.specs.Segments.{header_length}
use Rattle.admitting.specs.Admitting.{Admission, admission}
use Rattle.admitting.specs.Inside.{Settles}
use Rattle.admitting.proofs.header_whole.Goals as goal

pub returns : goal.returns
returns c =
    let a = c.args in
    subst (λ (x : Admission). Settles a.w x header_length c.settled.result)
    (c.admit.ensures ∙ ap (admission a.party a.caps.now a.held.now) c.header_at-header.ensures)
    c.settled.ensures
