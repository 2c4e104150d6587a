-- `usual::usual` meets its contract: by the first byte, which lies in the piece, as the bytes after it do.
use mathlib.Core.List.{List}
use mathlib.Core.Path.{◌≡◌, refl, ap}
use native.Mathlib.Omega.{arith}
use Prim.Native.Nat.{ℕ, ◌+◌, ◌%◌, ◌<◌}
use lib.ListN.{length, get_or}
use Rattle.ring.specs.Inside.{seen}
use Rattle.ring.proofs.Views.{seen_length}
use Rattle.usual.proofs.Pieces.{spot_here, spot_byte}
use Rattle.usual.proofs.UsualHeads.{width_short, width_most, is_break, pass_number}
use Rattle.usual.proofs.usual.Goals as goal
use Rattle.usual.proofs.usual.Goals.{Start}

-- where the call begins: the bytes, that nine of them lie at the place, in the ring and in the slice, and the first of these
abbrev bytes : Start → List ℕ
bytes c = seen c.args.v

near : (c : Start) → (c.args.at + 8 < length (bytes c)) × (length (bytes c) ≡ c.args.v.len) × (c.args.p + 8 < length c.args.v.bytes.now)
near c =
    let long = seen_length c.args.v in
    (omega (arith, c.requires.more), long, c.requires.inside)

first : (c : Start) → get_or c.args.v.bytes.now c.args.p 0 ≡ get_or (bytes c) c.args.at 0
first c = spot_here c.args.v.bytes.now c.args.v.from c.args.v.len c.args.at c.args.p c.args.v.once_round c.requires

abbrev info : Start → ℕ
info c = get_or c.args.v.bytes.now c.args.p 0 % 32

pub returns-then-b : goal.returns-then-b
returns-then-b c =
    let s = (goal.at.returns-then-b c).Start in
    is_break (bytes s) s.args.at s.args.depth _ (near s).0 (first s) c.if-b.true

pub returns-then-b-lt-STRINGS : goal.returns-then-b-lt-STRINGS
returns-then-b-lt-STRINGS c =
    let s = (goal.at.returns-then-b-lt-STRINGS c).Start in
    pass_number (bytes s) s.args.at s.args.depth _ (near s).0 (first s) (s.args.at + 1 + c.following.result)
    (ap (λ (w : ℕ). s.args.at + 1 + w) c.following.ensures) (omega arith) (omega arith)

pub returns-then-b-lt-ARRAYS : goal.returns-then-b-lt-ARRAYS
returns-then-b-lt-ARRAYS c =
    let s = (goal.at.returns-then-b-lt-ARRAYS c).Start in
    let second = spot_byte s.args.v.bytes.now s.args.v.from s.args.v.len s.args.at s.args.p 1 s.args.v.once_round s.requires (omega arith) in
    c.short_string.ensures (bytes s) s.args.depth _ (near s).1 (first s) second refl (omega arith) (omega arith)

pub returns : goal.returns
returns c = let s = (goal.at.returns c).Start in c.simple.ensures s.args.depth (bytes s) (near s).0 (first s)

pub bounds-v-p : goal.bounds-v-p
bounds-v-p c = omega (arith, near (goal.at.bounds-v-p c).Start)

pub overflow_add-result : goal.overflow_add-result
overflow_add-result c = omega (arith, near (goal.at.overflow_add-result c).Start)

pub overflow_add-result-then-b-lt-STRINGS : goal.overflow_add-result-then-b-lt-STRINGS
overflow_add-result-then-b-lt-STRINGS c = omega (arith, near (goal.at.overflow_add-result-then-b-lt-STRINGS c).Start)

pub overflow_add-result-then-b-lt-STRINGS-2 : goal.overflow_add-result-then-b-lt-STRINGS-2
overflow_add-result-then-b-lt-STRINGS-2 c = omega (arith, near (goal.at.overflow_add-result-then-b-lt-STRINGS-2 c).Start, width_most (info (goal.at.overflow_add-result-then-b-lt-STRINGS-2 c).Start))

pub overflow_add-p : goal.overflow_add-p
overflow_add-p c = omega (arith, near (goal.at.overflow_add-p c).Start)

pub bounds-v-p-then-b-lt-ARRAYS : goal.bounds-v-p-then-b-lt-ARRAYS
bounds-v-p-then-b-lt-ARRAYS c = omega (arith, near (goal.at.bounds-v-p-then-b-lt-ARRAYS c).Start)

pub short_string-requires : goal.short_string-requires
short_string-requires c = omega (arith, near (goal.at.short_string-requires c).Start)

pub nested-requires : goal.nested-requires
nested-requires c = let h = near (goal.at.nested-requires c).Start in (omega arith, omega arith, omega arith)

pub returns-then-b-lt-TAGS : goal.returns-then-b-lt-TAGS
returns-then-b-lt-TAGS c = let s = (goal.at.returns-then-b-lt-TAGS c).Start in c.nested.ensures (bytes s) (near s).0 (first s)

pub tag-requires : goal.tag-requires
tag-requires c = let h = near (goal.at.tag-requires c).Start in (omega arith, omega arith, omega arith)

pub returns-then-b-lt-SIMPLES : goal.returns-then-b-lt-SIMPLES
returns-then-b-lt-SIMPLES c = let s = (goal.at.returns-then-b-lt-SIMPLES c).Start in c.tag.ensures (bytes s) (near s).0 (first s)

pub simple-requires : goal.simple-requires
simple-requires c = let h = near (goal.at.simple-requires c).Start in (omega arith, omega arith, omega arith)
