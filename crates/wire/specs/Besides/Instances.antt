-- Which instance of the other end each instance talks with.
use Rattle.std.specs.Prelude.{ℕ, Bool, not, ◌&&◌, List, eqb}
use Rattle.std.specs.Bool.{beq}
use Rattle.std.proofs.Math.Option.{get_or}
use Rattle.wire.specs.declared.instances.Side.TheVariants.{Dialler, Accepter}
use Rattle.wire.specs.declared.instances.Party.{Party}
use Rattle.wire.specs.declared.instances.Role.{Role}
use Rattle.wire.specs.Instances.{Instance, bundle_of, instance_in, initiates, find, other}

-- the other party: the same bundle, from the other side
abbrev pub other_of : Party → Party
other_of us = record { bundle = us.bundle; side = other us.side }

-- an initiator talks with a responder, whichever side has which
abbrev pub opposite : Role → Role → Bool
opposite r s = beq (initiates Dialler r) (not (initiates Accepter s)) && beq (initiates Accepter r) (not (initiates Dialler s))

-- the instance of the other side that x talks with: the same protocol in the opposite role
abbrev pub talks_with : Instance → Instance → Bool
talks_with x y = eqb y.protocol x.protocol && opposite x.role y.role

abbrev pub pair_in : List Instance → ℕ → ℕ
pair_in xs i = get_or (find (talks_with (instance_in xs i)) 0 xs) 0

unfoldable pub pair_of : ℕ → ℕ → ℕ
pair_of b i = pair_in (bundle_of b) i
