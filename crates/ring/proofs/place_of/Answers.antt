-- `ring::place_of` meets its contract: a number below what it is divided by is its own remainder, and every remainder is
-- below that.
use mathlib.Core.Path.{refl, sym}
use native.Mathlib.Nat.{mod-lt, mod-eq_of_lt}
use borrow.Author.Rules.{rules}
use Rattle.ring.proofs.place_of.Goals as goal

pub returns-then-n-cap : goal.returns-then-n-cap
returns-then-n-cap c = (sym (mod-eq_of_lt (search rules)), search rules)

pub returns-else-n-cap : goal.returns-else-n-cap
returns-else-n-cap c = (refl, mod-lt _ (search rules))
