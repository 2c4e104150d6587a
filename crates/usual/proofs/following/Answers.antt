-- `usual::following` meets its contract: the definition goes by the same numbers.
use native.Mathlib.Omega.{arith}
use Rattle.usual.proofs.UsualHeads.{width_short, width_24, width_25, width_26, width_27, width_other}
use Rattle.usual.proofs.following.Goals as goal

pub returns-in-24 : goal.returns-in-24
returns-in-24 c =
    width_24 _ c.in-24.is

pub returns-in-25 : goal.returns-in-25
returns-in-25 c =
    width_25 _ c.in-25.is

pub returns-in-26 : goal.returns-in-26
returns-in-26 c =
    width_26 _ c.in-26.is

pub returns-in-27 : goal.returns-in-27
returns-in-27 c =
    width_27 _ c.in-27.is

pub returns-in_default : goal.returns-in_default
returns-in_default c =
    width_other c.args.i (λ q. omega arith) (λ q. omega arith) (λ q. omega arith) (λ q. omega arith)

pub returns-then-i-lt-ONE_BYTE : goal.returns-then-i-lt-ONE_BYTE
returns-then-i-lt-ONE_BYTE c = width_short c.args.i c.if-i-lt-ONE_BYTE.true
