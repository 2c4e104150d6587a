-- What the promises suppose is met, in every bundle: by one run of two ends, from open on.
use Rattle.std.specs.Prelude.{ℕ, ◌≤◌, ◌<◌, ◌≡◌, true, List, [], ◌∷◌, ◌++◌, length}
use Rattle.std.proofs.Math.Option.{none, some}
use Rattle.base.specs.Numbers.{Bytes}
use Rattle.wire.specs.declared.instances.Side.TheVariants.{Dialler}
use Rattle.wire.specs.Instances.{known}
use Rattle.connection.specs.Closings.{closing_of}
use Rattle.promises.specs.Calls.{Call, feed, run}
use Rattle.promises.specs.Effects.{did, segments}
use Rattle.promises.specs.Reached.{waits}
use Rattle.promises.specs.Fairness.{enough}
use Rattle.promises.specs.Besides.Arrival.{End, start, Parts, Due}

-- Two ends after Accept: the dialler put a message to instance 1 and sent it, and the accepter was fed it.
pub record Met (b : ℕ) : Type 0 where
  pub dialler : End
  pub accepter : End
  pub party : dialler.settings.party ≡ record { bundle = b; side = Dialler }
  -- `Journey`: the message is due at the accepter
  pub parts : Parts
  pub message : List ℕ
  pub due : Due dialler accepter [] 1 parts message
  -- `FairFrom`: after the first of the dialler's calls a byte of instance 1 waits, and the others make as many segments as are enough for it
  pub before : List Call
  pub behind : List Call
  pub calls : dialler.calls ≡ before ++ behind
  pub waiting : 0 < waits (run (start dialler) before) 1
  pub made : enough dialler.settings 0 ≤ length (segments (did (run (start dialler) before) behind))
  -- `AfterFault`: one feed more, and a fault has closed the dialler
  pub fault : List ℕ
  pub real : Bytes fault
  pub closes : closing_of (run (start dialler) (dialler.calls ++ (feed fault ∷ []))).connection.gate ≡ some (11, none)

abbrev pub AllMet : Type 0
AllMet = (b : ℕ) → known b ≡ true → Met b
