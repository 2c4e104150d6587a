-- `head::read::head_at` meets its contract: each arm is what the definition gives for what the byte says.
use mathlib.Core.List.{List}
use mathlib.Core.Path.{◌≡◌, sym, ◌∙◌}
use Prim.Native.Nat.{ℕ, ◌+◌, ◌/◌, ◌≤◌}
use native.Mathlib.Omega.{arith}
use borrow.Author.Rules.{rules}
use Rattle.ring.specs.Inside.{seen}
use Rattle.ring.proofs.Views.{seen_length}
use Rattle.head.specs.Read.{head_by, head_at}
use Rattle.head.specs.declared.Major.{Major}
use Rattle.head.specs.declared.Initial.{Initial}
use Rattle.head.specs.declared.Initial.TheVariants.{Long}
use Rattle.head.proofs.ReadLaws.{head_by_around, head_none, long_small}
use Rattle.head.proofs.read.head_at.Goals as goal
use Rattle.head.proofs.read.head_at.Goals.{After-initial_of}

pub returns-then-v-at : goal.returns-then-v-at
returns-then-v-at c =
    let a = c.args in
    let long = seen_length a.v in
    sym (head_none (seen a.v) a.at (omega arith))

-- once the byte is told: the bytes, the head by what the byte says, and how many bytes can follow it
abbrev bytes : After-initial_of → List ℕ
bytes c = let a = c.args in seen a.v

by : (c : After-initial_of) {i : Initial} → c.initial_of.result ≡ i
    → head_by i (bytes c) (c.byte-b.result / 32) (c.args.at + 1)
    ≡ head_at (bytes c) c.args.at
by c e =
    let a = c.args in
    head_by_around a.v.bytes.now a.v.from a.v.len (omega arith) (omega arith) c.byte-b.ensures c.initial_of.ensures e

few : (c : After-initial_of) {M : Major} {k : ℕ} → c.initial_of.result ≡ Long M k → k + 1 ≤ 8
few c e = long_small c.byte-b.result c.initial_of.ensures e

pub returns-in-Short : goal.returns-in-Short
unfolding head_by
returns-in-Short c = by (goal.at.returns-in-Short c).After-initial_of c.in-Short.is

pub returns-in-Long : goal.returns-in-Long
unfolding head_by
returns-in-Long c = c.long_at.ensures ∙ by (goal.at.returns-in-Long c).After-initial_of c.in-Long.is

pub returns-in-Indefinite : goal.returns-in-Indefinite
unfolding head_by
returns-in-Indefinite c = by (goal.at.returns-in-Indefinite c).After-initial_of c.in-Indefinite.is

pub returns-in-Simple : goal.returns-in-Simple
unfolding head_by
returns-in-Simple c = c.simple_at.ensures ∙ by (goal.at.returns-in-Simple c).After-initial_of c.in-Simple.is

pub returns-in-Break : goal.returns-in-Break
unfolding head_by
returns-in-Break c = by (goal.at.returns-in-Break c).After-initial_of c.in-Break.is

pub returns-in-Reserved : goal.returns-in-Reserved
unfolding head_by
returns-in-Reserved c = by (goal.at.returns-in-Reserved c).After-initial_of c.in-Reserved.is

pub overflow_add-k : goal.overflow_add-k
overflow_add-k c = omega (arith, few (goal.at.overflow_add-k c).After-initial_of c.in-Long.is)

pub long_at-requires : goal.long_at-requires
long_at-requires c = (search rules, few (goal.at.long_at-requires c).After-initial_of c.in-Long.is)
