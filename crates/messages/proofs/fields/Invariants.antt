use mathlib.Core.Path.{◌≡◌}
use Prim.Native.Nat.{ℕ, ◌+◌, ◌≤◌}
use mathlib.Core.List.{List}
use lib.ListN.{drop}
use Rattle.ring.specs.Inside.{seen}
use Rattle.messages.specs.declared.Message.{Message}
use Rattle.elements.specs.Besides.Matching.{ItemsAt}
use Rattle.elements.specs.Matching.{in_message}
use Rattle.messages.specs.Matching.{begun}
use Rattle.messages.specs.Reading.{fields_of}
use Rattle.messages.specs.Inside.{form_at}
use Rattle.messages.proofs.fields.Given as goal

-- the fields from i on give what all of them give, with so much said so far, and those before are behind
pub record Under (bs : List ℕ) (row kind first : ℕ) (message : Message) (at i : ℕ) : Type 0 where
  pub numbers : message.count ≤ i
  pub places : message.parts ≤ i
  pub passed : ItemsAt bs in_message i first at
  pub gives : fields_of bs (drop i (form_at row).fields) (i + 1) at message ≡ fields_of bs (form_at row).fields 1 first (begun kind)

abbrev pub invariant-loop-i : goal.invariant-loop-i
invariant-loop-i l = Under (seen l.v) l.row l.kind l.first l.message l.at l.i
