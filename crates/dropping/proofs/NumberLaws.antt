-- Which number drop answers and what it leaves: `exactly`, `leaves`, `drops`, `frees`, `which_byte_dropped`, `keeps`. What is heard decides which way a
-- call goes, and the ways say what is answered and left.
-- Assumes nothing.
use mathlib.Core.Path.{◌≡◌, refl, sym, ap, ◌∙◌}
use mathlib.Core.Bool.{true, true≢false}
use mathlib.Core.List.{List, ◌++◌}
use Prim.Native.Nat.{ℕ, ◌+◌, ◌-◌, ◌%◌, ◌≤◌, ◌<◌}
use native.Mathlib.Omega.{arith}
use native.Mathlib.Nat.{mod-mod}
use lib.ListN.{length, get_or, length-set}
use lib.Seq.{get_or-set_same}
use Rattle.base.proofs.Conds.{exactly_when}
use Rattle.ring.specs.Ring.{base_of}
use Rattle.ring.proofs.Stores.{stream_append, stream_same}
use Rattle.wire.specs.Instances.{instances}
use Rattle.wire.proofs.InstanceLaws.{at_most}
use Rattle.messages.specs.declared.Message.{Message}
use Rattle.messages.specs.Reading.{flag_of}
use Rattle.connection.specs.declared.Connection.{Connection}
use Rattle.connection.specs.Shapes.{Shaped}
use Rattle.connection.specs.Closings.{heard_fault}
use Rattle.connection.specs.Parts.{with_receiving, first_held, held_of}
use Rattle.range.specs.Ranges.{in_range}
use Rattle.range.proofs.StoreLaws.{leaves_front}
use Rattle.range.proofs.RangeLaws.{Ranged, ranged, is_in_range, receives_both}
use Rattle.judging.specs.declared.Judged.{Judged}
use Rattle.judging.specs.declared.Outcome.{Outcome}
use Rattle.judging.specs.Judging.{spoken, Judgement, outcome_number, unjudged, leading, led}
use Rattle.judging.proofs.HearingLaws.{no_offset}
use Rattle.judging.proofs.Moving.{moved_ranged, moved_shaped}
use Rattle.hearing.specs.Hearing.{seen, shown_by, shut}
use Rattle.hearing.specs.Besides.Numbers as hearing
use Rattle.hearing.specs.Besides.Numbers.{Unshown, Found, Tells, refusal, message}
use Rattle.hearing.proofs.HearingLaws.{asked, held_within}
use Rattle.hearing.proofs.NumberLaws.{tells, hear_exactly, unshown_number, which_byte_heard, bad_closes, not_fault, shut_keeps}
use Rattle.dropping.specs.declared.Dropped.{Dropped}
use Rattle.dropping.specs.Dropping.{freed_of, handed, drop_of}
use Rattle.dropping.specs.Besides.Numbers.{When, refused, done, Exactly, Leaves, LeavesAll, Drops, Frees, WhichByte, Keeps}
use Rattle.dropping.proofs.DroppingLaws.{drop_by}

module _ (c : Connection) (store : List ℕ) (i : ℕ) where
  -- what a call comes to: without a message, and with one
  pub drop_stays : {o : Outcome} → Unshown c store i o → record { shown = shown_by (unjudged o); connection = shut c i (outcome_number o) } ≡ drop_of c store i
  drop_stays {o} u =
      drop_by c store i (unjudged o) (sym ((hear_exactly c store i (unjudged o)).1 (refusal u)))

  pub drop_gone : {n next : ℕ} {m : Message} → Found c store i n m next
      → record { shown = hearing.done n m; connection = handed c i (leading n m next) } ≡ drop_of c store i
  drop_gone {n} {next} {m} f = drop_by c store i (led n m next) (sym ((hear_exactly c store i (led n m next)).1 (message f)))

  -- these are its ways
  pub data Way : ℕ → Type 0 where
    stays : (o : Outcome) → Unshown c store i o
        → record { shown = shown_by (unjudged o); connection = shut c i (outcome_number o) } ≡ drop_of c store i → Way (outcome_number o)
    gone : (n : ℕ) (m : Message) (next : ℕ) → Found c store i n m next
        → record { shown = hearing.done n m; connection = handed c i (leading n m next) } ≡ drop_of c store i → Way 0

  goes : {n : ℕ} → When c store i n → Way n
  goes (refused {o = o} u) = stays o u (drop_stays u)
  goes (done {n = n} {next = next} {m = m} f) = gone n m next f (drop_gone f)

  -- one of them holds
  by_told : {j : Judgement} → Tells c store i j → (n : ℕ) × When c store i n
  by_told (refusal {o = o} u) = (outcome_number o, refused u)
  by_told (message f) = (0, done f)

  when : (n : ℕ) × When c store i n
  when = by_told (tells c store i)

  pub way : (n : ℕ) × Way n
  way = let (n, w) = when in (n, goes w)

  -- ---- so each number exactly then

  answered : {n : ℕ} → Way n → (drop_of c store i).shown.number ≡ n
  answered (stays o u e) = ap (λ (d : Dropped). d.shown.number) (sym e)
  answered (gone k m next f e) = ap (λ (d : Dropped). d.shown.number) (sym e)

  -- what a way leaves
  leaves_by : {n : ℕ} → Way n → Leaves c i (drop_of c store i)
  leaves_by (stays o u e) =
      rw (← e)
      (record {
        fault = λ t. rw t;
        other = λ q away. rw (away, no_offset o (λ z. true≢false (sym bad_closes ∙ ap heard_fault (sym z) ∙ away)));
      })
  leaves_by (gone k m next f e) = rw (← e) (record { fault = λ t. absurd (true≢false (sym t ∙ not_fault.0)); other = λ q away. absurd (q refl) })

  -- with 0, what the first bytes held spell
  given : {n : ℕ} → Way n → n ≡ 0
      → (k : ℕ) × (m : Message) × (next : ℕ) × Found c store i k m next
      × (drop_of c store i ≡ record { shown = hearing.done k m; connection = handed c i (leading k m next) })
  given (stays o u e) z = absurd (omega (arith, unshown_number u))
  given (gone k m next f e) z = (k, m, next, f, sym e)

pub exactly : Exactly
exactly c store i n =
    let (k, w) = when c store i in
    let is : (n : ℕ) → When c store i n → (drop_of c store i).shown.number ≡ n = λ n v. answered c store i (goes c store i v) in
    exactly_when (When c store i) (is k w) w (is n)

pub leaves : LeavesAll
leaves c store i = let (n, w) = way c store i in leaves_by c store i w

pub drops : Drops
drops c store i z = let (n, w) = way c store i in given c store i w (sym (answered c store i w) ∙ z)

pub which_byte_dropped : WhichByte
unfolding drop_of
which_byte_dropped c store i = which_byte_heard c store i

-- ---- the bytes

-- where n bytes leave the front of those held, the others are held
pub freed_held : (c : Connection) (store : List ℕ) (i : ℕ) (j : Judged) → i < length c.receiving.starts → i < length c.receiving.held
    → j.len ≤ get_or c.receiving.held i 0 → held_of c store i ≡ first_held c store i j.len ++ held_of (handed c i j) store i
freed_held c store i j l k h =
    let caps = c.settings.receive in
    let base = base_of caps i in
    let cap = get_or caps i 0 in
    let from = get_or c.receiving.starts i 0 in
    let all = get_or c.receiving.held i 0 in
    let n = j.len in
    let whole : all ≡ n + (all - n) = omega arith in
    let start : get_or (handed c i j).receiving.starts i 0 ≡ (from + n) % cap = get_or-set_same c.receiving.starts i ((from + n) % cap) 0 l in
    let left : get_or (handed c i j).receiving.held i 0 ≡ all - n = get_or-set_same c.receiving.held i (all - n) 0 k in
    ap (λ (k : ℕ). first_held c store i k) whole ∙ stream_append store base cap from n (all - n)
    ∙ ap (λ (bs : List ℕ). first_held c store i n ++ bs) (stream_same store base cap (from + n) ((from + n) % cap) (all - n) (sym (mod-mod (from + n) cap)) ∙ rw (start, left))

pub frees : Frees
frees c store i s z =
    let (n, m, next, f, e) = drops c store i z in
    let low : i < 9 = (asked c store i f.asked).below in
    rw e (freed_held c store i (leading n m next) (omega (arith, s.receive_starts)) (omega (arith, s.held)) (held_within c store i n f.spells.whole))

-- ---- the range

-- n bytes freed leave every area in range
module _ (c : Connection) (s : Shaped c) (r : Ranged c) (i : ℕ) (inside : i < instances c.settings.party.bundle) (n : ℕ) where
  abbrev caps : List ℕ
  caps = c.settings.receive

  abbrev after : Connection
  after = with_receiving c (freed_of c.receiving caps i n) c.gate

  -- start places stay below their capacities, and no count is more
  fewer : (j : ℕ) → j < instances c.settings.party.bundle
      → (get_or after.receiving.starts j 0 < get_or caps j 0) × (get_or after.receiving.held j 0 ≤ get_or c.receiving.held j 0)
  fewer j h =
      let cap = r.set.receive i inside in
      let few = at_most c.settings.party.bundle in
      leaves_front caps c.receiving.starts c.receiving.held i n (omega arith) (omega (arith, s.receive_starts)) (omega (arith, s.held)) j
      (r.receiving j h).0

  freed_ranged : Ranged after
  freed_ranged =
      record {
        set = r.set;
        receiving = λ j h. let q = fewer j h in (q.0, omega (arith, q.1, (r.receiving j h).1));
        sending = r.sending;
        states = r.states;
        turn = r.turn;
        header = r.header;
        under_way = λ some. let (none, one_of_lem, fit) = r.under_way some in (none, one_of_lem, omega (arith, (fewer _ one_of_lem).1));
        accepted = r.accepted;
        closing = r.closing;
      }

  freed_shaped : Shaped after
  freed_shaped =
      record {
        receive = s.receive;
        send = s.send;
        receive_starts = rw length-set s.receive_starts;
        held = rw length-set s.held;
        header = s.header;
        send_starts = s.send_starts;
        waiting = s.waiting;
        states = s.states;
      }

keeps_by : (c : Connection) (store : List ℕ) (i : ℕ) → Shaped c → Ranged c → {n : ℕ} → Way c store i n
    → let k = (drop_of c store i).connection in (in_range k ≡ true) × Shaped k
keeps_by c store i s r (stays o u e) = rw (← e) (shut_keeps c store i s r u)
keeps_by c store i s r (gone k m next f e) =
    let d = with_receiving c (freed_of c.receiving c.settings.receive i k) c.gate in
    let h = f.asked.1 in
    let protocol = spoken (seen c store i) in
    rw (← e) (
      is_in_range (handed c i (leading k m next)) (moved_ranged d i m.kind (flag_of protocol m) next h s.states (freed_ranged c s r i h k) f.spells.row),
      moved_shaped d i m.kind next (freed_shaped c s r i h k),
    )

pub keeps : Keeps
keeps c store i s q = let (n, w) = way c store i in keeps_by c store i s (ranged c (receives_both c (length store) q).0) w
