-- `head::read::simple_at` meets its contract: the byte is there or not, and at least 32 or not.
use mathlib.Core.Path.{◌≡◌, sym, ap, ◌∙◌}
use Prim.Native.Nat.{ℕ, ◌+◌}
use native.Mathlib.Omega.{arith}
use lib.ListN.{get_or}
use Rattle.ring.specs.Inside.{seen}
use Rattle.ring.proofs.Views.{seen_length}
use Rattle.head.specs.declared.read.Head.TheVariants.{Definite}
use Rattle.head.proofs.ReadLaws.{simple_here, simple_bad, simple_short}
use Rattle.head.proofs.read.simple_at.Goals as goal

pub returns-then-v-at : goal.returns-then-v-at
returns-then-v-at c =
    let a = c.args in
    let long = seen_length a.v in
    sym (simple_short (seen a.v) a.at (omega arith))

pub returns-then-argument-lt32 : goal.returns-then-argument-lt32
returns-then-argument-lt32 c =
    let a = c.args in
    let bs = seen a.v in
    let long = seen_length a.v in
    let byte : c.from-argument.result ≡ get_or bs a.at 0 = c.from-argument.ensures ∙ c.byte.ensures in
    sym (simple_bad bs a.at (omega arith) (omega arith))

pub returns : goal.returns
returns c =
    let a = c.args in
    let bs = seen a.v in
    let long = seen_length a.v in
    let byte : c.from-argument.result ≡ get_or bs a.at 0 = c.from-argument.ensures ∙ c.byte.ensures in
    ap (λ (v : ℕ). Definite 7 v (a.at + 1)) byte ∙ sym (simple_here bs a.at (omega arith) (omega arith))
