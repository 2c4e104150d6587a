-- `judging::ours` meets its contract: we are initiator exactly if we send with mode 0.
use mathlib.Core.Path.{◌≡◌, ap, ◌∙◌}
use mathlib.Core.Bool.{Bool}
use lib.Dec.{eqb}
use Rattle.wire.specs.Instances.{role_of, initiates}
use Rattle.judging.specs.Judging.{holds}
use Rattle.judging.proofs.JudgingLaws.{initiator_mode}
use Rattle.judging.proofs.ours.Goals as goal

pub returns : goal.returns
returns c =
    let a = c.args in
    let initiator : eqb c.mode.result 0 ≡ initiates a.party.side (role_of a.party.bundle a.i) =
    rw c.mode.ensures (initiator_mode (initiates a.party.side (role_of a.party.bundle a.i))) in
    c.holds.ensures ∙ ap (λ (b : Bool). holds b c.agent-agency.result) initiator ∙ rw c.agent-agency.ensures
