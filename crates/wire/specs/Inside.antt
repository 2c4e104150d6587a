-- What only functions below the operations cite: how many protocol numbers there are, how a table has an instance, and what a segment's mode decides.
use Rattle.std.specs.Prelude.{ℕ, ◌<◌, ◌^◌, cond, eqb, Ok, Err}
use Rattle.wire.specs.Instances.{Instance, Route, mode_of, instances}
use Rattle.wire.specs.declared.instances.Party.{Party}
use Rattle.wire.specs.declared.instances.Role.{Role}
use Rattle.wire.specs.declared.instances.RouteError.TheVariants.{Unknown, Wrong}
use Rattle.wire.specs.declared.segment.Segment.{Segment}

-- every instance's protocol number is below this
abbrev pub numbers : ℕ
numbers = 9

-- an instance as the code's tables have it
abbrev pub pair : Instance → ℕ × Role
pair x = (x.protocol, x.role)

-- a segment for instance i, by its mode: it comes from our own end or from the other
unfoldable pub by_mode : Party → ℕ → ℕ → Route
by_mode us m i = cond (eqb m (mode_of us i)) (Err (Wrong i)) (Ok i)

-- an instance of the bundle
abbrev pub Within : ℕ → Route → Type 0
Within b (Err Unknown) = Unit {0}
Within b (Err (Wrong i)) = i < instances b
Within b (Ok i) = i < instances b

-- what can be said in eight bytes
pub record Fits (s : Segment) : Type 0 where
  pub time : s.time < 2 ^ 32
  pub mode : s.mode < 2
  pub protocol : s.protocol < 2 ^ 15
  pub len : s.len < 2 ^ 16
