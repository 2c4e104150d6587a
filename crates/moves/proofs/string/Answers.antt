-- `moves::string` meets its contract: the bytes are all there, or they go on after all that is there.
use Prim.Native.Nat.{◌-◌}
use native.Mathlib.Omega.{arith}
use Rattle.moves.proofs.AnyHead.{string_there, string_cut}
use Rattle.moves.proofs.string.Goals as goal

pub returns-then-v-there : goal.returns-then-v-there
returns-then-v-there c =
    let a = c.args in
    let h = c.if-v-there.true in
    λ xs at k n d e b q s g l t. string_there xs at k n d (omega arith) s a.left l g a.p a.v b (omega arith) (omega arith) t

pub returns : goal.returns
returns c =
    let a = c.args in
    let h = c.if-v-there.false in
    λ xs at k n d e b q s g l t. string_cut xs at k n d (omega arith) s a.left l g a.p a.v (a.v - (a.n - a.p)) (omega arith) (omega arith) (omega arith) t
