-- `head::read::long_at` meets its contract: the bytes are all there, or not.
use mathlib.Core.Path.{sym, ap, ◌∙◌}
use Prim.Native.Nat.{ℕ, ◌+◌}
use native.Mathlib.Omega.{arith}
use Rattle.ring.specs.Inside.{seen}
use Rattle.ring.proofs.Views.{seen_length}
use Rattle.head.specs.declared.read.Head.TheVariants.{Definite}
use Rattle.head.proofs.ReadLaws.{long_here, long_short}
use Rattle.head.proofs.read.long_at.Goals as goal

pub returns-then-v-at : goal.returns-then-v-at
returns-then-v-at c =
    let a = c.args in
    let long = seen_length a.v in
    sym (long_short (seen a.v) a.major a.k a.at (omega arith))

pub returns : goal.returns
returns c =
    let a = c.args in
    let long = seen_length a.v in
    ap (λ (v : ℕ). Definite a.major v (a.at + a.k)) c.number_at.ensures.0
    ∙ sym (long_here (seen a.v) a.major a.k a.at (omega arith))
