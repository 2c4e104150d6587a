-- A move keeps a record in range: a row leads to a state of its protocol, and Accept leads Handshake to Done, which no row leaves.
-- Assumes nothing.
use mathlib.Core.Path.{◌≡◌, refl, sym, ap, ◌∙◌}
use mathlib.Core.Bool.{Bool, true, false, not, ◌&&◌, ◌||◌}
use mathlib.Core.List.{List}
use mathlib.Core.Logic.{◌≢◌}
use Prim.Native.Nat.{ℕ, ◌≤◌, ◌<◌}
use native.Mathlib.Omega.{arith}
use lib.Dec.{T, eqb, eqb→eq}
use lib.ListN.{length, get_or, length-set}
use lib.Seq.{get_or-set_same, get_or-set_other}
use borrow.Author.Tests.{eqb-true, eqb-false, ltb-true, ltb-false}
use Rattle.base.proofs.Conds.{by_test, so, is, and_left, and_right}
use Rattle.base.proofs.Table.{every, at}
use Rattle.wire.specs.declared.instances.Role.TheVariants as role
use Rattle.wire.specs.Instances.{Instance, bundles, known, bundle_of, instances, most}
use Rattle.wire.proofs.InstanceLaws.{unknown_none, of_bundles, at_most}
use Rattle.rows.specs.declared.Protocol.{Protocol}
use Rattle.rows.specs.declared.Protocol.TheVariants.{Handshake}
use Rattle.rows.specs.declared.Agency.TheVariants.{Nobody}
use Rattle.std.specs.Prelude.{Some}
use Rattle.rows.specs.declared.Row.{Row}
use Rattle.rows.specs.Rows.{fits, rows_of, next_of, done_of, place_in}
use Rattle.rows.specs.Besides.Rows.{row_in}
use Rattle.rows.specs.Spoken.{spoken, speaks}
use Rattle.rows.proofs.RowLaws.{rows_say}
use Rattle.connection.specs.declared.Talk.{Talk}
use Rattle.connection.specs.declared.Connection.{Connection}
use Rattle.connection.specs.Shapes.{Shaped}
use Rattle.connection.specs.Parts.{with_talk}
use Rattle.range.proofs.RangeLaws.{Ranged}
use Rattle.judging.specs.Judging.{moved_by}

-- ---- where a row leads

-- a row leaves a state before Done, for one not behind it
pub leads_low : (p : Protocol) (s k f n : ℕ) → next_of p s k f ≡ Some n → (s < done_of p) × (n ≤ done_of p)
leads_low p s k f n e =
    let (j, h, t, q) = rows_say.only p s k f n e in
    let r = row_in p j in
    let l = rows_say.last p j h in
    let here : r.state ≡ s = eqb→eq r.state s (and_left (eqb r.state s) (eqb r.kind k && eqb r.flag f) (so (fits s k f r) t)) in
    (omega arith, omega arith)

-- what stands past the rows' end
abbrev nothing : Row
nothing = record { state = 0; agency = Nobody; kind = 0; flag = 0; next = 0 }

-- message 1 of Handshake leads to Done alone
abbrev accepts : ℕ → Row → Bool
accepts j r = not (eqb r.kind 1) || eqb r.next (done_of Handshake)

all_accept : T (every nothing accepts 0 (rows_of Handshake))
unfolding place_in
all_accept = tt

accept_ends : (s f n : ℕ) → next_of Handshake s 1 f ≡ Some n → n ≡ done_of Handshake
accept_ends s f n e =
    let (j, h, t, q) = rows_say.only Handshake s 1 f n e in
    let r = row_in Handshake j in
    let same = eqb r.kind 1 && eqb r.flag f in
    let k : T (eqb r.kind 1) = and_left (eqb r.kind 1) (eqb r.flag f) (and_right (eqb r.state s) same (so (fits s 1 f r) t)) in
    let d = at nothing accepts (rows_of Handshake) all_accept j h in
    sym q ∙ eqb→eq r.next (done_of Handshake) (rw (is (eqb r.kind 1) k) at d)

-- instance 0 speaks Handshake, in any bundle
abbrev protocol_first : List Instance → ℕ
protocol_first xs = (get_or xs 0 (record { protocol = 0; role = role.Initiator })).protocol

pub first_speaks : (b : ℕ) → speaks b 0 ≡ Handshake
unfolding speaks
first_speaks b =
    by_test (known b)
    (λ t.
    let first = of_bundles (λ b xs. eqb (protocol_first xs) 0) tt b (ltb-true b (length bundles) t) in
    ap spoken (eqb→eq (protocol_first (bundle_of b)) 0 first))
    (λ t. ap (λ (xs : List Instance). spoken (protocol_first xs)) (unknown_none b (ltb-false b (length bundles) t)))

pub accept_done : (b s f n : ℕ) → next_of (speaks b 0) s 1 f ≡ Some n → n ≡ done_of (speaks b 0)
accept_done b s f n e = rw (first_speaks b) (accept_ends s f n (rw (first_speaks b) at e))

-- a mark that is there bars Handshake from moving, and one that is made now is made by message 1
marked : (b : ℕ) (t : Talk) (k f n : ℕ) → (t.accepted ≡ true → get_or t.states 0 0 ≡ done_of (speaks b 0))
    → next_of (speaks b 0) (get_or t.states 0 0) k f ≡ Some n → (t.accepted || eqb k 1) ≡ true → n ≡ done_of (speaks b 0)
marked b t k f n d e m =
    by_test t.accepted
    (λ a. let l = (leads_low (speaks b 0) (get_or t.states 0 0) k f n e).0 in let q = d a in absurd (omega arith))
    (λ a. accept_done b (get_or t.states 0 0) f n (rw (eqb-true k 1 (rw a at m)) at e))

unmarked : (b : Bool) → (b || false) ≡ true → b ≡ true
unmarked true m = refl
unmarked false m = m

-- ---- the record once a message has moved instance i

pub moved_shaped : (c : Connection) (i kind next : ℕ) → Shaped c → Shaped (with_talk c (moved_by c.talk i kind next))
moved_shaped c i kind next s =
    record {
      receive = s.receive;
      send = s.send;
      receive_starts = s.receive_starts;
      held = s.held;
      header = s.header;
      send_starts = s.send_starts;
      waiting = s.waiting;
      states = rw length-set s.states;
    }

module _ (c : Connection) (i kind flag next : ℕ) (inside : i < instances c.settings.party.bundle) (long : length c.talk.states ≡ most)
    (r : Ranged c) (e : next_of (speaks c.settings.party.bundle i) (get_or c.talk.states i 0) kind flag ≡ Some next) where
  abbrev b : ℕ
  b = c.settings.party.bundle

  abbrev after : Talk
  after = moved_by c.talk i kind next

  here : get_or after.states i 0 ≡ next
  here = get_or-set_same c.talk.states i next 0 (omega (arith, at_most b))

  there : (j : ℕ) → j ≢ i → get_or after.states j 0 ≡ get_or c.talk.states j 0
  there j ne = get_or-set_other c.talk.states i j next 0 ne

  state_low : (j : ℕ) → j < instances b → get_or after.states j 0 ≤ done_of (speaks b j)
  state_low j h =
      by_test (eqb j i)
      (λ q. rw (eqb-true j i q, here) (leads_low (speaks b i) (get_or c.talk.states i 0) kind flag next e).1)
      (λ q. rw (there j (eqb-false j i q)) (r.states j h))

  -- with a move of instance 0, Accept is marked only at Done; a move of another leaves mark and state
  accepted : after.accepted ≡ true → get_or after.states 0 0 ≡ done_of (speaks b 0)
  accepted m =
      by_test (eqb i 0)
      (λ q.
      let z : i ≡ 0 = eqb-true i 0 q in
      ap (λ (k : ℕ). get_or after.states k 0) (sym z) ∙ here ∙ marked b c.talk kind flag next r.accepted (rw z at e) (rw q at m))
      (λ q. there 0 (λ z. eqb-false i 0 q (sym z)) ∙ r.accepted (unmarked c.talk.accepted (rw q at m)))

  pub moved_ranged : Ranged (with_talk c (moved_by c.talk i kind next))
  moved_ranged =
      record {
        set = r.set;
        receiving = r.receiving;
        sending = r.sending;
        states = state_low;
        turn = r.turn;
        header = r.header;
        under_way = r.under_way;
        accepted = accepted;
        closing = r.closing;
      }
