-- What holds besides: of two ends, of examples, and that what the promises suppose is met.
use Rattle.promises.specs.Besides.Met.{AllMet}
use Rattle.promises.specs.Besides.Arrival.{Glued, AllThere, BuiltArrives, Journey}
use Rattle.promises.specs.Besides.Alike.{Alike}
use Rattle.promises.specs.Besides.WhichByte.{WhichByteCame}
use Rattle.promises.specs.Besides.Examples.{Examples}

pub record Further : Type 0 where
  -- what the promises suppose is met, in every bundle: an open answered 0, and calls from there on by which a message is due, as many segments are made
  -- as are enough, and a fault closes
  pub all_met : AllMet
  -- T9 (c): what is put at one end is what the other end dropped and holds, what is in flight and what waits; and a message that was built, put,
  -- sent in any segments and fed is, once it is due, what look shows and drop frees, with build's kind, numbers and runs
  pub glued : Glued
  pub all_there : AllThere
  pub built_arrives : BuiltArrives
  pub journey : Journey
  -- T14's corollary for two connections
  pub alike : Alike
  -- K3: which byte of what came for an instance is bad
  pub which_byte : WhichByteCame
  -- T16: P1 to P12
  pub examples : Examples
