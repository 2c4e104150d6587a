-- Laws of areas: the area of an instance lies in its store, and bytes that leave its front leave it in range.
-- Assumes nothing.
use mathlib.Core.Path.{◌≡◌}
use mathlib.Core.Bool.{true}
use mathlib.Core.List.{List}
use Prim.Native.Nat.{ℕ, ◌+◌, ◌-◌, ◌%◌, ◌≤◌, ◌<◌}
use native.Mathlib.Omega.{arith}
use native.Mathlib.Decide.{dec_lt}
use native.Mathlib.Nat.{mod-lt}
use lib.Dec.{eqb}
use lib.ListN.{length, get_or, get_or-eq_default}
use lib.Seq.{get_or-set_same, get_or-set_other}
use borrow.Author.Tests.{eqb-true, eqb-false}
use Rattle.base.proofs.Conds.{by_test}
use Rattle.ring.specs.Ring.{base_of}
use Rattle.ring.proofs.Areas.{area_within}
use Rattle.wire.specs.Instances.{instances}
use Rattle.connection.specs.declared.Connection.{Connection}
use Rattle.connection.specs.Areas.{starts_past, counts_less}
use Rattle.connection.specs.Inside.{Area}
use Rattle.range.specs.Ranges.{receives, sends}
use Rattle.range.proofs.RangeLaws.{ranged, receives_both, sends_both}

-- what is not 0 is an entry: an area that is not empty is one of those that there are
pub area_of : (caps : List ℕ) (n i : ℕ) → 0 < get_or caps i 0 → base_of caps i + get_or caps i 0 ≤ n → Area caps n i
area_of caps n i some inside = elim (dec_lt i (length caps)) [
  | yes y ↦ record { listed = y; some = some; inside = inside }
  | no x ↦ absurd (omega (arith, get_or-eq_default caps 0 {n = i} (omega arith)))
]

-- each instance of a record in range with its store has its area
pub receive_area : (c : Connection) (n i : ℕ) → receives c n ≡ true → i < instances c.settings.party.bundle → Area c.settings.receive n i
receive_area c n i ok h =
    let p = receives_both c n ok in
    let cap = (ranged c p.0).set.receive i h in
    area_of c.settings.receive n i (omega arith) (omega (arith, area_within c.settings.receive i (instances c.settings.party.bundle) h, p.1))

pub send_area : (c : Connection) (n i : ℕ) → sends c n ≡ true → i < instances c.settings.party.bundle → Area c.settings.send n i
send_area c n i ok h =
    let p = sends_both c n ok in
    let cap = (ranged c p.0).set.send i h in
    area_of c.settings.send n i (omega arith) (omega (arith, area_within c.settings.send i (instances c.settings.party.bundle) h, p.1))

-- where n bytes leave the front of the area of instance i, each start place stays below its capacity, and no count is more
pub leaves_front : (caps starts counts : List ℕ) (i n : ℕ) → 0 < get_or caps i 0 → i < length starts → i < length counts
    → (j : ℕ) → get_or starts j 0 < get_or caps j 0
    → (get_or (starts_past caps starts i n) j 0 < get_or caps j 0) × (get_or (counts_less counts i n) j 0 ≤ get_or counts j 0)
leaves_front caps starts counts i n some l k j h =
    let start = (get_or starts i 0 + n) % get_or caps i 0 in
    let left = get_or counts i 0 - n in
    by_test (eqb j i)
    (λ t. rw (eqb-true j i t, get_or-set_same starts i start 0 l, get_or-set_same counts i left 0 k) (mod-lt (get_or starts i 0 + n) some, omega arith))
    (λ t.
    let ne = eqb-false j i t in
    rw (get_or-set_other starts i j start 0 ne, get_or-set_other counts i j left 0 ne) (h, omega arith))
