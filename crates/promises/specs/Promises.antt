-- What the front promises over several calls. Each that speaks of calls holds after every list of calls from an open answered 0 on (`Calls`), where
-- the caller hands record and stores back untouched; what the calls did is read off them and their answers (`Effects`). This is the file to open
-- first; the words of each promise stand at its statement.
use Rattle.promises.specs.Determined.{Contracts, Tied}
use Rattle.promises.specs.Reached.{InRangeForEver, Never23}
use Rattle.promises.specs.Fairness.{Fair}
use Rattle.promises.specs.History.{History, StatusTells, AfterFault}
use Rattle.promises.specs.Alone.{Alone}

pub record Promises : Type 0 where
  -- T1, demand 1: each contract determines the answer, the next state and each lent byte, on every input
  pub contracts : Contracts
  -- and that is what `Calls.step` has, of which the others speak
  pub tied : Tied
  -- T10: the record is in range, with its stores, so that no call answers 23
  pub is_in_range : InRangeForEver
  pub never_23 : Never23
  -- T11, demand 2: of each instance, the messages dropped, each one item that reads as the drop answered, and then what is held are what was received, in
  -- one way only, and a look shows the first message held; what was put is what was sent, read back by the layout, and what waits; each state is where
  -- the instance's own messages lead through the rows; the closing is the first fault's
  pub history : History
  -- T12, demand 3: a byte that waits is in one of so many next segments; nothing to send exactly when every queue is empty and the gate open
  pub fair : Fair
  -- T13: status tells the history's counts and closing, and who is ready
  pub status_tells : StatusTells
  -- T14: what look and drop answer and write rests on their own instance, the bundle, the side and Accept, and look's also on its receive capacity and
  -- scratch; only 1 or 20 rests on the closing
  pub alone : Alone
  -- T15: after a fault feed, put and next segment answer 20 (put 10 where there is no instance), and nothing comes in, is put or is sent
  pub after_fault : AfterFault
