-- `usual::short_string` meets its contract: the argument is in the first byte or in the next, and the string is there.
use mathlib.Core.Path.{◌≡◌, ap, ◌∙◌}
use native.Mathlib.Omega.{arith}
use Prim.Native.Nat.{ℕ, ◌+◌, ◌%◌}
use lib.ListN.{get_or}
use Rattle.usual.specs.Inside.Usual.{following, small_of}
use Rattle.usual.proofs.UsualHeads.{width_most, pass_string}
use Rattle.usual.proofs.short_string.Goals as goal

pub returns-then-i-gt-ONE_BYTE : goal.returns-then-i-gt-ONE_BYTE
returns-then-i-gt-ONE_BYTE c =
    λ xs d b e q x i k l. tt

pub overflow_add-p-2 : goal.overflow_add-p-2
overflow_add-p-2 c =
    let a = c.args in omega (arith, width_most a.i)

pub overflow_sub-n : goal.overflow_sub-n
overflow_sub-n c =
    let a = c.args in omega (arith, width_most a.i)

pub overflow_add-result : goal.overflow_add-result
overflow_add-result c =
    let a = c.args in omega (arith, width_most a.i)

pub returns-then-v-n : goal.returns-then-v-n
returns-then-v-n c =
    let a = c.args in
    let p = c.requires in
    let w = c.following.ensures in
    let h = c.if-v-n.true in
    λ xs d b e q x i k l.
    let m = width_most a.i in
    let z : a.at + 1 + c.following.result ≡ a.at + 1 + following (b % 32) = ap (λ (j : ℕ). a.at + 1 + j) (w ∙ ap following i) in
    let v : c.small-v.result ≡ small_of (b % 32) (get_or xs (a.at + 1) 0) = c.small-v.ensures ∙ cc in
    pass_string xs a.at d b (omega arith) q (a.at + 1 + c.following.result) c.small-v.result z (omega arith) k l v
    (omega arith)

pub returns : goal.returns
returns c =
    λ xs d b e q x i k l. tt
