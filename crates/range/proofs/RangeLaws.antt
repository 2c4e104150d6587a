-- Laws of the range: what a record in range promises.
-- Assumes nothing.
use mathlib.Core.Path.{◌≡◌, sym, ap, ◌∙◌}
use mathlib.Core.Bool.{Bool, true, false, true≢false, not, ◌&&◌, ◌||◌}
use mathlib.Core.List.{List}
use Prim.Native.Nat.{ℕ, ◌+◌, ◌-◌, ◌≤◌, ◌<◌}
use native.Mathlib.Omega.{arith}
use lib.Dec.{T, eqb, leb, ltb, leb→le, ltb→lt, eqb→eq}
use lib.ListN.{get_or}
use borrow.Author.Tests.{eq-eqb, ne_eqb, eqb-false, lt-ltb, le-leb, lt-leb, leb-true, leb-false}
use Rattle.base.specs.Below.{all_below}
use Rattle.base.proofs.Conds.{by_test, so, is, and_left, and_right, below_at, below_all, and_equal}
use Rattle.rows.specs.Rows.{done_of}
use Rattle.rows.specs.Spoken.{speaks}
use Rattle.wire.specs.Instances.{known, instances}
use Rattle.wire.specs.Segments.{header_length}
use Rattle.connection.specs.declared.Settings.{Settings}
use Rattle.connection.specs.declared.Receiving.{Receiving}
use Rattle.connection.specs.declared.Talk.{Talk}
use Rattle.connection.specs.declared.Connection.{Connection}
use Rattle.connection.specs.Closings.{gate_ok}
use Rattle.range.specs.Ranges.{limit_ok, capacity_ok, capacities_ok, settings_ok, area_ok, state_ok, turn_ok, header_ok, accept_ok, instance_ok, in_range, receive_length, send_length, receives, sends}

-- a sum within a capacity
pub fits_left : (a b c : ℕ) → a ≤ c → leb (a + b) c ≡ leb b (c - a)
fits_left a b c h =
    by_test (leb b (c - a)) (λ t. let q : b ≤ c - a = leb-true b (c - a) t in le-leb (a + b) c (omega arith) ∙ sym t)
    (λ t. let q : c - a < b = leb-false b (c - a) t in lt-leb (a + b) c (omega arith) ∙ sym t)

-- ---- settings in range

between : (a b c : ℕ) → T (leb a b && leb b c) → (a ≤ b) × (b ≤ c)
between a b c t = (leb→le a b (and_left (leb a b) (leb b c) t), leb→le b c (and_right (leb a b) (leb b c) t))

-- what settings in range promise
pub record Set (s : Settings) : Type 0 where
  pub bundle : known s.party.bundle ≡ true
  pub limit : (1 ≤ s.limit) × (s.limit ≤ 65535)
  pub receive : (i : ℕ) → i < instances s.party.bundle → (16 ≤ get_or s.receive i 0) × (get_or s.receive i 0 ≤ 131072)
  pub send : (i : ℕ) → i < instances s.party.bundle → (16 ≤ get_or s.send i 0) × (get_or s.send i 0 ≤ 131072)

pub settings_set : (s : Settings) → settings_ok s ≡ true → Set s
unfolding settings_ok
settings_set s e =
    let n = instances s.party.bundle in
    let all = all_below (capacities_ok s) n in
    let numbers = limit_ok s.limit && all in
    let whole : T (known s.party.bundle && numbers) = so (known s.party.bundle && numbers) e in
    let t : T numbers = and_right (known s.party.bundle) numbers whole in
    let each : (i : ℕ) → i < n → T (capacities_ok s i) = below_at (capacities_ok s) n (and_right (limit_ok s.limit) all t) in
    record {
      bundle = is (known s.party.bundle) (and_left (known s.party.bundle) numbers whole);
      limit = between 1 s.limit 65535 (and_left (limit_ok s.limit) all t);
      receive = λ i h. between 16 (get_or s.receive i 0) 131072 (and_left (capacity_ok (get_or s.receive i 0)) (capacity_ok (get_or s.send i 0)) (each i h));
      send = λ i h. between 16 (get_or s.send i 0) 131072 (and_right (capacity_ok (get_or s.receive i 0)) (capacity_ok (get_or s.send i 0)) (each i h));
    }

-- ---- a record in range

-- what an area in range promises: the start place below the capacity, the count not above it
abbrev pub AreaIn : List ℕ → List ℕ → List ℕ → ℕ → Type 0
AreaIn caps starts counts i = (get_or starts i 0 < get_or caps i 0) × (get_or counts i 0 ≤ get_or caps i 0)

-- what a record in range promises
pub record Ranged (c : Connection) : Type 0 where
  pub set : Set c.settings
  pub receiving : (i : ℕ) → i < instances c.settings.party.bundle → AreaIn c.settings.receive c.receiving.starts c.receiving.held i
  pub sending : (i : ℕ) → i < instances c.settings.party.bundle → AreaIn c.settings.send c.sending.starts c.sending.waiting i
  pub states : (i : ℕ) → i < instances c.settings.party.bundle → get_or c.talk.states i 0 ≤ done_of (speaks c.settings.party.bundle i)
  pub turn : (1 ≤ c.sending.turn) × (c.sending.turn < instances c.settings.party.bundle)
  pub header : c.receiving.header.count < header_length
  pub under_way : 0 < c.receiving.rest
      → (c.receiving.header.count ≡ 0) × (c.receiving.instance < instances c.settings.party.bundle)
      × (get_or c.receiving.held c.receiving.instance 0 + c.receiving.rest ≤ get_or c.settings.receive c.receiving.instance 0)
  pub accepted : c.talk.accepted ≡ true → get_or c.talk.states 0 0 ≡ done_of (speaks c.settings.party.bundle 0)
  pub closing : gate_ok c.settings.party.bundle c.gate ≡ true

-- the parts of a test of two
both : (a b : Bool) → T (a && b) → T a × T b
both a b t = (and_left a b t, and_right a b t)

-- an area's tests: its capacity, and the rest
abbrev Tested : List ℕ → List ℕ → List ℕ → ℕ → Type 0
Tested caps starts counts i = ((16 ≤ get_or caps i 0) × (get_or caps i 0 ≤ 131072)) × AreaIn caps starts counts i

pub area_in : (caps starts counts : List ℕ) (i : ℕ) → T (area_ok caps starts counts i) → Tested caps starts counts i
area_in caps starts counts i t =
    let cap = get_or caps i 0 in
    let (c, d) = both (capacity_ok cap) (ltb (get_or starts i 0) cap && leb (get_or counts i 0) cap) t in
    let (e, f) = both (ltb (get_or starts i 0) cap) (leb (get_or counts i 0) cap) d in
    (between 16 cap 131072 c, (ltb→lt (get_or starts i 0) cap e, leb→le (get_or counts i 0) cap f))

-- one of two, the first of which does not hold
second : (a b : Bool) → T (a || b) → a ≡ false → T b
second true b t e = absurd (true≢false e)
second false b t e = t

pub ranged : (c : Connection) → in_range c ≡ true → Ranged c
unfolding in_range
ranged c e =
    let s = c.settings in
    let b = s.party.bundle in
    let n = instances b in
    let r = c.receiving in
    let w = c.sending in
    let t = c.talk in
    let header = header_ok n s.receive r.held r.header.count r.instance r.rest in
    let accept = accept_ok b t.accepted t.states in
    let five = accept && gate_ok b c.gate in
    let four = header && five in
    let three = turn_ok n w.turn && four in
    let two = all_below (instance_ok c) n && three in
    let one = limit_ok s.limit && two in
    let (Known-so, t1) = both (known b) one (so (known b && one) e) in
    let (limit-so, t2) = both (limit_ok s.limit) two t1 in
    let (all, t3) = both (all_below (instance_ok c) n) three t2 in
    let (turn-so, t4) = both (turn_ok n w.turn) four t3 in
    let (header-so, t5) = both header five t4 in
    let (accept-so, gate-so) = both accept (gate_ok b c.gate) t5 in
    let way = eqb r.header.count 0 && (ltb r.instance n && leb (get_or r.held r.instance 0 + r.rest) (get_or s.receive r.instance 0)) in
    let h = both (ltb r.header.count header_length) (eqb r.rest 0 || way) header-so in
    let turning = both (leb 1 w.turn) (ltb w.turn n) turn-so in
    let receiving = area_ok s.receive r.starts r.held in
    let sending = area_ok s.send w.starts w.waiting in
    let states = state_ok b t.states in
    let each : (i : ℕ) → i < n → T (receiving i) × (T (sending i) × T (states i)) =
    λ i l.
    let (p, q) = both (receiving i) (sending i && states i) (below_at (instance_ok c) n all i l) in
    (p, both (sending i) (states i) q) in
    let receives : (i : ℕ) → i < n → Tested s.receive r.starts r.held i = λ i l. area_in s.receive r.starts r.held i (each i l).0 in
    let sends : (i : ℕ) → i < n → Tested s.send w.starts w.waiting i = λ i l. area_in s.send w.starts w.waiting i (each i l).1.0 in
    record {
      set = record {
        bundle = is (known b) Known-so;
        limit = between 1 s.limit 65535 limit-so;
        receive = λ i l. (receives i l).0;
        send = λ i l. (sends i l).0;
      };
      receiving = λ i l. (receives i l).1;
      sending = λ i l. (sends i l).1;
      states = λ i l. leb→le (get_or t.states i 0) (done_of (speaks b i)) (each i l).1.1;
      turn = (leb→le 1 w.turn turning.0, ltb→lt w.turn n turning.1);
      header = ltb→lt r.header.count header_length h.0;
      under_way = λ some.
          let q = second (eqb r.rest 0) way h.1 (ne_eqb r.rest 0 (λ z. omega arith)) in
          let within = ltb r.instance n && leb (get_or r.held r.instance 0 + r.rest) (get_or s.receive r.instance 0) in
          let (none, q1) = both (eqb r.header.count 0) within q in
          let (one_of, fit) = both (ltb r.instance n) (leb (get_or r.held r.instance 0 + r.rest) (get_or s.receive r.instance 0)) q1 in
          (eqb→eq r.header.count 0 none, ltb→lt r.instance n one_of, leb→le _ _ fit);
      accepted = λ a. eqb→eq (get_or t.states 0 0) (done_of (speaks b 0)) (second (not t.accepted) (eqb (get_or t.states 0 0) (done_of (speaks b 0))) accept-so (ap not a));
      closing = is (gate_ok b c.gate) gate-so;
    }

-- ---- and back: what has all that is in range

between_is : (a b c : ℕ) → (a ≤ b) × (b ≤ c) → (leb a b && leb b c) ≡ true
between_is a b c (l, h) = rw (le-leb a b l, le-leb b c h)

pub set_settings : (s : Settings) → Set s → settings_ok s ≡ true
unfolding settings_ok
set_settings s k =
    rw (
      k.bundle,
      between_is 1 s.limit 65535 k.limit,
      below_all (capacities_ok s) (instances s.party.bundle) (λ i h. rw (between_is 16 _ 131072 (k.receive i h), between_is 16 _ 131072 (k.send i h))),
    )

area_is : (caps starts counts : List ℕ) (i : ℕ) → (16 ≤ get_or caps i 0) × (get_or caps i 0 ≤ 131072) → AreaIn caps starts counts i
    → area_ok caps starts counts i ≡ true
area_is caps starts counts i c (l, h) = rw (between_is 16 _ 131072 c, lt-ltb _ _ l, le-leb _ _ h)

pub is_in_range : (c : Connection) → Ranged c → in_range c ≡ true
unfolding in_range
is_in_range c k =
    let s = c.settings in
    let r = c.receiving in
    let w = c.sending in
    let t = c.talk in
    let b = s.party.bundle in
    let n = instances b in
    rw (
      k.set.bundle,
      between_is 1 s.limit 65535 k.set.limit,
      below_all (instance_ok c) n
          (λ i h.
          rw (
            area_is s.receive r.starts r.held i (k.set.receive i h) (k.receiving i h),
            area_is s.send w.starts w.waiting i (k.set.send i h) (k.sending i h),
            le-leb _ _ (k.states i h),
          )),
      turn_is n w.turn k.turn,
      header_is n s.receive r k.header k.under_way,
      accept_is b t k.accepted,
      k.closing,
    )
  where
    turn_is : (n t : ℕ) → (1 ≤ t) × (t < n) → turn_ok n t ≡ true
    turn_is n t (l, h) = rw (le-leb 1 t l, lt-ltb t n h)

    header_is : (n : ℕ) (caps : List ℕ) (r : Receiving) → r.header.count < header_length
        → (0 < r.rest → (r.header.count ≡ 0) × (r.instance < n) × (get_or r.held r.instance 0 + r.rest ≤ get_or caps r.instance 0))
        → header_ok n caps r.held r.header.count r.instance r.rest ≡ true
    header_is n caps r h u =
        by_test (eqb r.rest 0) (λ q. rw (lt-ltb r.header.count header_length h, q))
        (λ q.
        let ne = eqb-false r.rest 0 q in
        let (none, one_of, fit) = u (omega arith) in
        rw (lt-ltb r.header.count header_length h, q, eq-eqb r.header.count 0 none, lt-ltb r.instance n one_of, le-leb _ _ fit))

    accept_is : (b : ℕ) (t : Talk) → (t.accepted ≡ true → get_or t.states 0 0 ≡ done_of (speaks b 0)) → accept_ok b t.accepted t.states ≡ true
    accept_is b t h = by_test t.accepted (λ q. rw (q, eq-eqb (get_or t.states 0 0) (done_of (speaks b 0)) (h q))) (λ q. rw q)

-- ---- a record in range with the store that is lent, of n bytes

pub receives_both : (c : Connection) (n : ℕ) → receives c n ≡ true → (in_range c ≡ true) × (n ≡ receive_length c.settings)
receives_both c n e = and_equal {n = n} {m = receive_length c.settings} e

pub sends_both : (c : Connection) (n : ℕ) → sends c n ≡ true → (in_range c ≡ true) × (n ≡ send_length c.settings)
sends_both c n e = and_equal {n = n} {m = send_length c.settings} e
