-- `wire::instances::by_mode` meets its contract: the test decides the definition's.
use borrow.Author.Rules.{rules}
use borrow.Author.Tests.{eq-eqb, ne_eqb}
use Rattle.wire.specs.Inside.{by_mode}
use Rattle.wire.proofs.instances.by_mode.Goals as goal

pub returns-then-m-mode : goal.returns-then-m-mode
unfolding by_mode
returns-then-m-mode c = (rw (← c.mode.ensures) (simp (eq-eqb _ _ c.if-m-mode.true)), search rules)

pub returns : goal.returns
unfolding by_mode
returns c = (rw (← c.mode.ensures) (simp (ne_eqb _ _ c.if-m-mode.false)), search rules)
