-- Which number next segment answers, and what a call leaves: `exactly`, `untouched` and `keeps`. Where the "when" of a number holds, it is
-- answered; one walk through the tests finds a "when" that holds.
-- Assumes nothing.
use mathlib.Core.Path.{◌≡◌, refl, sym, ap, ◌∙◌}
use mathlib.Core.Bool.{true, false}
use mathlib.Core.List.{List}
use mathlib.Core.Logic.{◌↔◌, ◌≢◌}
use Prim.Native.Nat.{ℕ, ◌+◌, ◌<◌, ◌≤◌}
use native.Mathlib.Omega.{arith}
use lib.Dec.{eqb, ltb}
use lib.ListN.{length, get_or, take, length-set}
use lib.Seq.{get_or-take, length-take-le}
use borrow.Author.Tests.{ltb-true, ltb-false}
use Rattle.base.proofs.Conds.{by_test, cond_cases, exactly_when}
use Rattle.wire.specs.Segments.{header_length}
use Rattle.wire.specs.Instances.{instances}
use Rattle.wire.proofs.InstanceLaws.{at_most}
use Rattle.std.specs.Prelude.{Option, Some, None}
use Rattle.ready.proofs.ReadyLaws.{nobody_waits, chosen_waits, after_low}
use Rattle.connection.specs.declared.Connection.{Connection}
use Rattle.connection.specs.declared.Sending.{Sending}
use Rattle.connection.specs.Shapes.{Shaped}
use Rattle.connection.specs.Closings.{is_open}
use Rattle.range.specs.Ranges.{in_range, sends}
use Rattle.connection.specs.Parts.{with_sending}
use Rattle.range.proofs.StoreLaws.{leaves_front}
use Rattle.range.proofs.RangeLaws.{ranged, is_in_range, sends_both}
use Rattle.sending.specs.declared.Made.{Made}
use Rattle.sending.specs.NextSegment.{Told, told, refused, much, sent_of, chosen_of, next_of}
use Rattle.sending.specs.Besides.Numbers.{Unclosed, When, out_of_range, closed, all_empty, no_room, done, Exactly, Untouched, Keeps}
use Rattle.sending.proofs.SendingLaws.{served, serve_short, serve_all, next_unranged, next_closed, next_served}

-- the counts of the bundle's instances
abbrev pub counts : Connection → List ℕ
counts c = take (instances c.settings.party.bundle) c.sending.waiting

pub counts_long : (c : Connection) → Shaped c → length (counts c) ≡ instances c.settings.party.bundle
counts_long c s =
    length-take-le (instances c.settings.party.bundle) c.sending.waiting (omega (arith, s.waiting, at_most c.settings.party.bundle))

pub counts_at : (c : Connection) (i : ℕ) → i < instances c.settings.party.bundle → get_or (counts c) i 0 ≡ get_or c.sending.waiting i 0
counts_at c i h = get_or-take (instances c.settings.party.bundle) c.sending.waiting i 0 h

-- whoever is chosen is an instance with bytes waiting
pub chosen_waiting : (c : Connection) → Shaped c → (i : ℕ) → chosen_of c ≡ Some i
    → (i < instances c.settings.party.bundle) × (0 < get_or c.sending.waiting i 0)
chosen_waiting c s i e =
    let p = chosen_waits (counts c) c.sending.turn i e in
    let h : i < instances c.settings.party.bundle = omega (arith, p.0, counts_long c s) in
    (h, omega (arith, p.1, counts_at c i h))

module _ (c : Connection) (store : List ℕ) (time : ℕ) (buf : List ℕ) where
  abbrev out : Told
  out = next_of c store time buf

  abbrev who : Option ℕ
  who = chosen_of c

  abbrev Refuses : ℕ → Type 0
  Refuses n = told (refused c n) buf ≡ out

  -- what 0 leaves
  abbrev Serves : ℕ → Type 0
  Serves i = served c store time buf i ≡ out

  -- ---- what is answered where nobody is chosen, and where somebody is

  o4 : Unclosed c store → who ≡ None → Refuses 4
  o4 (r, o) w = next_served c store time buf r o None (sym w)

  o18 : Unclosed c store → (i : ℕ) → who ≡ Some i → length buf < header_length + much c i → Refuses 18
  o18 (r, o) i w l = serve_short c store time buf i (much c i) refl l ∙ next_served c store time buf r o (Some i) (sym w)

  o0 : Unclosed c store → (i : ℕ) → who ≡ Some i → header_length + much c i ≤ length buf → Serves i
  o0 (r, o) i w l = serve_all c store time buf i l ∙ next_served c store time buf r o (Some i) (sym w)

  -- every queue is empty exactly where nobody is chosen
  idle : Shaped c → Unclosed c store → (who ≡ None) ↔ ((i : ℕ) → i < instances c.settings.party.bundle → get_or c.sending.waiting i 0 ≡ 0)
  idle s u =
      let t = (ranged c (sends_both c (length store) u.0).0).turn in
      let none = nobody_waits (counts c) c.sending.turn t.0 (rw (counts_long c s) t.1) in (
        λ w i h. sym (counts_at c i h) ∙ none.0 w i (rw (counts_long c s) h),
        λ e. none.1 (λ i h. let k = rw (counts_long c s) at h in counts_at c i k ∙ e i k),
      )

  -- the ways of a call: a refusal or a notice, with its "when"; or a segment
  pub data Way : Type 0 where
    stays : (n : ℕ) → n ≢ 0 → (n ≡ 23 → sends c (length store) ≡ false) → (Shaped c → When c store buf n) → Refuses n → Way
    gone : (i : ℕ) → Unclosed c store → who ≡ Some i → header_length + much c i ≤ length buf → Serves i → Way

  by_who : Unclosed c store → (x : Option ℕ) → who ≡ x → Way
  by_who u None e = stays 4 (λ z. omega arith) (λ z. absurd (omega arith)) (λ s. all_empty u ((idle s u).0 e)) (o4 u e)
  by_who u (Some i) e =
      by_test (ltb (length buf) (header_length + much c i))
      (λ t.
      let l = ltb-true (length buf) (header_length + much c i) t in
      stays 18 (λ z. omega arith) (λ z. absurd (omega arith)) (λ s. no_room u e l) (o18 u i e l))
      (λ t. let l = ltb-false (length buf) (header_length + much c i) t in gone i u e l (o0 u i e l))

  pub way : Way
  way =
      by_test (sends c (length store))
      (λ r.
      by_test (is_open c.gate) (λ o. by_who (r, o) who refl)
      (λ o. stays 20 (λ z. omega arith) (λ z. absurd (omega arith)) (λ s. closed r o) (next_closed c store time buf r o)))
      (λ r. stays 23 (λ z. omega arith) (λ z. r) (λ s. out_of_range r) (next_unranged c store time buf r))

  -- ---- so each number exactly then

  abbrev number : ℕ
  number = out.answer.number

  numbered : (n : ℕ) → Refuses n → number ≡ n
  numbered n e = ap (λ (x : Told). x.answer.number) (sym e)

  zero_out : (i : ℕ) → Serves i → number ≡ 0
  zero_out i e = ap (λ (x : Told). x.answer.number) (sym e)

  answered : Shaped c → {n : ℕ} → When c store buf n → number ≡ n
  answered s (out_of_range r) = numbered 23 (next_unranged c store time buf r)
  answered s (closed r o) = numbered 20 (next_closed c store time buf r o)
  answered s (all_empty u e) = numbered 4 (o4 u ((idle s u).1 e))
  answered s (no_room {i = i} u w l) = numbered 18 (o18 u i w l)
  answered s (done {i = i} u w l) = zero_out i (o0 u i w l)

  exact : Shaped c → Way → (n : ℕ) → (number ≡ n) ↔ When c store buf n
  exact s (stays k ne z w e) n = exactly_when (When c store buf) (numbered k e) (w s) (answered s)
  exact s (gone i u w l e) n = exactly_when (When c store buf) (zero_out i e) (done u w l) (answered s)

  -- with any number but 0, record and buffer are as they were
  untouched_by : Way → (m : Made) (after : List ℕ) → told m after ≡ out → (m.number ≡ 0 → ⊥) → (m.connection ≡ c) × (m.len ≡ 0) × (after ≡ buf)
  untouched_by (stays n ne k w e) m after q z =
      let p = q ∙ sym e in
      (ap (λ (x : Told). x.answer.connection) p, ap (λ (x : Told). x.answer.len) p, ap (λ (x : Told). x.buffer) p)
  untouched_by (gone i u w l e) m after q z = absurd (z (ap (λ (x : Told). x.answer.number) (q ∙ sym e)))

pub exactly : Exactly
exactly c store time buf s n = exact c store time buf s (way c store time buf) n

pub untouched : Untouched
untouched c store time buf = untouched_by c store time buf (way c store time buf)

-- ---- the range

-- n bytes sent of instance i leave every area, and the turn, in range
module _ (c : Connection) (s : Shaped c) (r : in_range c ≡ true) (i : ℕ) (inside : i < instances c.settings.party.bundle) (n : ℕ) where
  abbrev many : ℕ
  many = instances c.settings.party.bundle

  abbrev w : Sending
  w = sent_of c.settings.party.bundle c.sending c.settings.send i n

  sent_area : (j : ℕ) → j < many
      → (get_or w.starts j 0 < get_or c.settings.send j 0) × (get_or w.waiting j 0 ≤ get_or c.settings.send j 0)
  sent_area j h =
      let k = ranged c r in
      let cap = k.set.send i inside in
      let q = k.sending j h in
      let (low, less) =
      leaves_front c.settings.send c.sending.starts c.sending.waiting i n (omega arith)
      (omega (arith, s.send_starts, at_most c.settings.party.bundle)) (omega (arith, s.waiting, at_most c.settings.party.bundle)) j q.0 in
      (low, omega (arith, less, q.1))

  sent_turn : (1 ≤ w.turn) × (w.turn < many)
  sent_turn =
      let turn = (ranged c r).turn in
      cond_cases (λ (k : ℕ). (1 ≤ k) × (k < many)) (eqb i 0) (λ t. turn)
      (λ t. (cond_cases (λ (k : ℕ). 1 ≤ k) (eqb (i + 1) many) (λ t. omega arith) (λ t. omega arith), after_low many i (omega arith) inside))

  sent_ranged : in_range (with_sending c w) ≡ true
  sent_ranged =
      let k = ranged c r in
      is_in_range (with_sending c w)
      (record {
        set = k.set;
        receiving = k.receiving;
        sending = sent_area;
        states = k.states;
        turn = sent_turn;
        header = k.header;
        under_way = k.under_way;
        accepted = k.accepted;
        closing = k.closing;
      })

  sent_shaped : Shaped (with_sending c w)
  sent_shaped =
      record {
        receive = s.receive;
        send = s.send;
        receive_starts = s.receive_starts;
        held = s.held;
        header = s.header;
        send_starts = rw length-set s.send_starts;
        waiting = rw length-set s.waiting;
        states = s.states;
      }

keeps_by : (c : Connection) (store : List ℕ) (time : ℕ) (buf : List ℕ) → Shaped c → in_range c ≡ true → Way c store time buf
    → (in_range (next_of c store time buf).answer.connection ≡ true) × Shaped (next_of c store time buf).answer.connection
keeps_by c store time buf s r (stays n ne k w e) = rw (← e) (r, s)
keeps_by c store time buf s r (gone i u w l e) =
    let inside = (chosen_waiting c s i w).0 in rw (← e) (sent_ranged c s r i inside (much c i), sent_shaped c s r i inside (much c i))

pub keeps : Keeps
keeps c store time buf s r = keeps_by c store time buf s r (way c store time buf)
