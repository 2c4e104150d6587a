-- `points::head_at` meets its contract: a slice read from its front to its end does not go around.
use mathlib.Core.Path.{ap, ◌∙◌}
use mathlib.Core.List.{List}
use Prim.Native.Nat.{ℕ}
use Rattle.head.specs.Read.{head_at}
use Rattle.points.proofs.head_at.Goals as goal

pub returns : goal.returns
returns c = let a = c.args in c.head_at.ensures ∙ ap (λ (l : List ℕ). head_at l a.at) c.all.ensures
