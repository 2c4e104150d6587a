-- `rows::spoken::last_states` meets its contract: the table has each bundle's last states, and an unknown one has no instance.
use mathlib.Core.Path.{sym, ◌∙◌}
use native.Mathlib.Omega.{arith}
use borrow.Author.Tests.{ltb-false}
use Rattle.wire.proofs.InstanceLaws.{none_unknown}
use Rattle.rows.specs.Rows.{place_in}
use Rattle.rows.proofs.SpokenLaws.{lasts, last_right}
use Rattle.rows.proofs.spoken.last_states.Goals as goal

pub returns-then-not-known : goal.returns-then-not-known
returns-then-not-known c i h = absurd (omega (arith, none_unknown c.args.bundle (ltb-false _ _ (sym c.known.ensures ∙ c.if-not-known.true))))

pub returns : goal.returns
unfolding lasts place_in
returns c = last_right c.args.bundle
