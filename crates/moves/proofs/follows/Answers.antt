-- `moves::follows` meets its contract: each arm does what the content of its major type asks for.
use mathlib.Core.Logic.{⊎_elim}
use native.Mathlib.Omega.{arith}
use Rattle.moves.proofs.AnyHead.{follow_number, follow_array, follow_map, follow_tag}
use Rattle.moves.proofs.follows.Goals as goal

pub returns-in-Number : goal.returns-in-Number
returns-in-Number c =
    let a = c.args in
    rw c.in-Number.is (λ xs at k n d e b q s g l r t. follow_number xs at k n d a.p a.left b (omega arith) s l g a.v t)

pub returns-in-Bytes : goal.returns-in-Bytes
returns-in-Bytes c =
    ⊎_elim
    (λ m. rw m (λ xs at k n d e b q s g l r t. c.string.ensures xs at k n d e b q s g l t))
    (λ m. rw m (λ xs at k n d e b q s g l r t. c.string.ensures xs at k n d e b q s g l t))
    c.in-Bytes.is

pub returns-in-Array : goal.returns-in-Array
returns-in-Array c =
    let a = c.args in
    rw c.in-Array.is
    (λ xs at k n d e b q s g l r t. follow_array xs at k n d a.p a.left b (omega arith) s l g a.v r t)

pub returns-in-Map : goal.returns-in-Map
returns-in-Map c =
    let a = c.args in
    rw c.in-Map.is
    (λ xs at k n d e b q s g l r t. follow_map xs at k n d a.p a.left b (omega arith) s l g a.v c.pairs.result c.pairs.ensures r t)

pub returns-in-Tag : goal.returns-in-Tag
returns-in-Tag c =
    let a = c.args in
    rw c.in-Tag.is
    (λ xs at k n d e b q s g l r t. follow_tag xs at k n d a.p a.left b (omega arith) s l g a.v r t)
