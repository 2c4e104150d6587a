-- Handshake: its three rows give us one message at most, and then our agency does not come back.
-- Assumes nothing.
use mathlib.Core.Path.{◌≡◌, refl}
use mathlib.Core.Bool.{Bool, true, false≢true, not, ◌&&◌, ◌||◌}
use mathlib.Core.List.{[]}
use Prim.Native.Nat.{ℕ, zero, suc, ◌≤◌, ◌<◌}
use native.Mathlib.Omega.{arith}
use lib.Dec.{T, eqb, eqb→eq}
use lib.ListN.{length}
use Rattle.base.proofs.Conds.{so, and_left}
use Rattle.base.proofs.Table.{every}
use Rattle.wire.specs.declared.instances.Side.{Side}
use Rattle.wire.specs.declared.instances.Party.{Party}
use Rattle.wire.specs.declared.instances.Side.TheVariants.{Dialler, Accepter}
use Rattle.rows.specs.declared.Protocol.{Protocol}
use Rattle.rows.specs.declared.Protocol.TheVariants.{Handshake}
use Rattle.std.specs.Prelude.{Some}
use Rattle.wire.specs.declared.instances.Role.{Role}
use Rattle.wire.specs.declared.instances.Role.TheVariants.{Initiator, Responder, OfSide}
use Rattle.wire.specs.Instances.{sided, Instance, bundles, known, role_of, initiates}
use Rattle.wire.proofs.InstanceLaws.{of_instances, at_least}
use Rattle.rows.specs.Rows.{next_of, place_in, agency_in, agency_of, fits, rows_of}
use Rattle.rows.specs.Besides.Rows.{row_in}
use Rattle.rows.proofs.RowLaws.{rows_say}
use Rattle.judging.specs.Judging.{holds, ours}
use Rattle.judging.proofs.Moving.{first_speaks}

-- a message leads from a state of a protocol to another
abbrev pub Row : Protocol → ℕ → ℕ → Type 0
Row p state to = (k : ℕ) × (f : ℕ) × (next_of p state k f ≡ Some to)

-- a message of Handshake leads from Propose to Confirm, and from there to Done
pub data Shakes : ℕ → ℕ → Type 0 where
  proposes : Shakes 0 1
  confirms : Shakes 1 2

pub shakes : (state next : ℕ) → Row Handshake state next → Shakes state next
unfolding place_in
shakes state next (k, f, e) = let (i, l, t, q) = rows_say.only Handshake state k f next e in by_row i l t q
  where
    from : (s k' f' : ℕ) → (eqb s state && (eqb k' k && eqb f' f)) ≡ true → s ≡ state
    from s k' f' t = eqb→eq s state (and_left (eqb s state) _ (so _ t))

    by_row : (i : ℕ) → i < length (rows_of Handshake) → fits state k f (row_in Handshake i) ≡ true → (row_in Handshake i).next ≡ next → Shakes state next
    by_row zero l t q = rw (← from 0 0 0 t, ← q) proposes
    by_row (suc zero) l t q = rw (← from 1 1 0 t, ← q) confirms
    by_row (suc (suc zero)) l t q = rw (← from 1 2 0 t, ← q) confirms
    by_row (suc (suc (suc i))) l t q = absurd (omega arith)

-- the bytes that we may still put: S, while our message is to come
unfoldable pub spare : Side → ℕ → ℕ → ℕ
spare Dialler zero limit = limit
spare Dialler (suc state) limit = 0
spare Accepter zero limit = limit
spare Accepter (suc zero) limit = limit
spare Accepter (suc (suc state)) limit = 0

-- our role in Handshake is our side's
firstly : ℕ → ℕ → Instance → Bool
firstly bundle i x = not (eqb i 0) || sided x.role

all_firstly : T (every [] (λ b xs. every (record { protocol = 0; role = Initiator }) (firstly b) 0 xs) 0 bundles)
unfolding firstly
all_firstly = tt

side_role : (r : Role) → T (sided r) → r ≡ OfSide
side_role Initiator t = absurd t
side_role Responder t = absurd t
side_role OfSide t = refl

first_role : (bundle : ℕ) → known bundle ≡ true → role_of bundle 0 ≡ OfSide
unfolding firstly
first_role bundle k = side_role (role_of bundle 0) (of_instances firstly all_firstly bundle 0 (omega (arith, at_least bundle k)))

-- our agency in Handshake, whose role is our side's in every bundle
by_side : (side : Side) (limit : ℕ) {state next : ℕ} → Shakes state next → holds (initiates side OfSide) (agency_of Handshake state) ≡ true
    → (spare side state limit ≡ limit) × (spare side next limit ≡ 0)
unfolding spare place_in agency_in
by_side Dialler limit proposes o = (refl, refl)
by_side Dialler limit confirms o = absurd (false≢true o)
by_side Accepter limit proposes o = absurd (false≢true o)
by_side Accepter limit confirms o = (refl, refl)

pub spare_put : (us : Party) (limit : ℕ) {state next : ℕ} → known us.bundle ≡ true → Shakes state next → ours us 0 state ≡ true
    → (spare us.side state limit ≡ limit) × (spare us.side next limit ≡ 0)
unfolding ours
spare_put us limit known-bundle k o = by_side us.side limit k (rw (first_role us.bundle known-bundle, first_speaks us.bundle) at o)

pub spare_moved : (side : Side) (limit : ℕ) {state next : ℕ} → Shakes state next → spare side next limit ≤ spare side state limit
unfolding spare
spare_moved Dialler limit proposes = omega arith
spare_moved Dialler limit confirms = omega arith
spare_moved Accepter limit proposes = omega arith
spare_moved Accepter limit confirms = omega arith

pub spare_first : (side : Side) (limit : ℕ) → spare side 0 limit ≤ limit
unfolding spare
spare_first Dialler limit = omega arith
spare_first Accepter limit = omega arith

pub spare_none : (side : Side) (state limit : ℕ) → spare side state limit < limit → spare side state limit ≡ 0
unfolding spare
spare_none Dialler zero limit h = absurd (omega arith)
spare_none Dialler (suc state) limit h = refl
spare_none Accepter zero limit h = absurd (omega arith)
spare_none Accepter (suc zero) limit h = absurd (omega arith)
spare_none Accepter (suc (suc state)) limit h = refl
