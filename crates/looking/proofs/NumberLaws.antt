-- Which number look answers and what it leaves: `exactly`, `leaves`, `looks`, `which_byte_looked`, `keeps`. What is heard decides which "when" holds; each
-- "when" makes the call go one of four ways; and the ways say what is answered and left.
-- Assumes nothing.
use mathlib.Core.Path.{◌≡◌, refl, sym, ap, ◌∙◌}
use mathlib.Core.Bool.{true, true≢false}
use mathlib.Core.List.{List}
use Prim.Native.Nat.{ℕ, ◌+◌, ◌≤◌, ◌<◌}
use native.Mathlib.Omega.{arith}
use lib.Dec.{leb}
use lib.ListN.{length, get_or}
use lib.Seq.{sets}
use borrow.Author.Tests.{leb-true, leb-false}
use Rattle.base.proofs.Conds.{by_test, exactly_when}
use Rattle.ring.specs.Ring.{base_of}
use Rattle.messages.specs.declared.Message.{Message}
use Rattle.connection.specs.declared.Connection.{Connection}
use Rattle.connection.specs.Shapes.{Shaped}
use Rattle.connection.specs.Closings.{heard_fault}
use Rattle.connection.specs.Parts.{first_held, held_of}
use Rattle.range.specs.Ranges.{in_range}
use Rattle.range.proofs.RangeLaws.{Ranged, ranged, is_in_range, receives_both}
use Rattle.judging.specs.declared.Judged.{Judged}
use Rattle.judging.specs.declared.Outcome.{Outcome}
use Rattle.judging.specs.Judging.{Judgement, leading, outcome_number, unjudged, led}
use Rattle.judging.proofs.HearingLaws.{no_offset}
use Rattle.hearing.specs.Hearing.{shown_by, shut}
use Rattle.hearing.specs.Besides.Numbers as hearing
use Rattle.hearing.specs.Besides.Numbers.{Unshown, Found, Tells, refusal, message, Offset, bare}
use Rattle.hearing.proofs.NumberLaws.{tells, hear_exactly, unshown_number, unshown_offset, bad_closes, not_fault, shut_keeps}
use Rattle.looking.specs.declared.Place.TheVariants.{Store, Scratch, Nowhere}
use Rattle.looking.specs.Looking.{Told, told, look_of}
use Rattle.looking.specs.Besides.Numbers as numbers
use Rattle.looking.specs.Besides.Numbers.{InOneRun, Wrapped, When, refused, no_room, in_one_run, joined, Exactly, Leaves, LeavesAll, ShownWhere, Looks, WhichByte, Keeps}
use Rattle.looking.proofs.LookingLaws as laws
use Rattle.looking.proofs.LookingLaws.{look_by, look_at}

-- other places are not scratch
pub nowhere_else : Nowhere ≡ Scratch → ⊥
nowhere_else e = let z : ◌≡◌ {A = ℕ} 0 1 = cc in omega arith

pub store_else : (at : ℕ) → Store at ≡ Scratch → ⊥
store_else at e = let z : ◌≡◌ {A = ℕ} 0 1 = cc in omega arith

module _ (c : Connection) (store : List ℕ) (i : ℕ) (scratch : List ℕ) where
  abbrev out : Told
  out = look_of c store i scratch

  abbrev base : ℕ
  base = base_of c.settings.receive i

  abbrev cap : ℕ
  cap = get_or c.settings.receive i 0

  abbrev start : ℕ
  start = get_or c.receiving.starts i 0

  -- the ways of a call: without a message; with one that goes around and is longer than scratch; that lies in one run; or that is joined
  pub data Way : ℕ → Type 0 where
    stays : (o : Outcome) → Unshown c store i o
        → told (record { shown = shown_by (unjudged o); place = Nowhere; connection = shut c i (outcome_number o) }) scratch ≡ look_of c store i scratch
        → Way (outcome_number o)
    short : (n : ℕ) (m : Message) (next : ℕ) → Found c store i n m next → Wrapped c i n → length scratch < n
        → told (record { shown = bare 18 0; place = Nowhere; connection = c }) scratch ≡ look_of c store i scratch → Way 18
    lies : (n : ℕ) (m : Message) (next : ℕ) → Found c store i n m next → InOneRun c i n
        → told
        (record {
          shown = hearing.done n m;
          place = Store (base_of c.settings.receive i + get_or c.receiving.starts i 0);
          connection = c;
        })
        scratch
        ≡ look_of c store i scratch
        → Way 0
    joins : (n : ℕ) (m : Message) (next : ℕ) → Found c store i n m next → Wrapped c i n → n ≤ length scratch
        → told (record { shown = hearing.done n m; place = Scratch; connection = c }) (sets scratch 0 (first_held c store i n)) ≡ look_of c store i scratch
        → Way 0

  -- ---- where a "when" holds, the call goes that way

  goes : {n : ℕ} → When c store i scratch n → Way n
  goes (refused {o = o} u) =
      stays o u
      (look_by c store i scratch (unjudged o) (sym ((hear_exactly c store i (unjudged o)).1 (refusal u))))
  goes (no_room {n = n} {next = next} {m = m} f w l) =
      short n m next f w l
      (look_at c store i scratch (leading n m next) (sym ((hear_exactly c store i (led n m next)).1 (message f))) Nowhere
      (sym (laws.wraps_out base cap start n (length scratch) w l)))
  goes (in_one_run {n = n} {next = next} {m = m} f w) =
      lies n m next f w
      (look_at c store i scratch (leading n m next) (sym ((hear_exactly c store i (led n m next)).1 (message f))) (Store (base + start))
      (sym (laws.in_one_run base cap start n (length scratch) w)))
  goes (joined {n = n} {next = next} {m = m} f w l) =
      joins n m next f w l
      (look_at c store i scratch (leading n m next) (sym ((hear_exactly c store i (led n m next)).1 (message f))) Scratch
      (sym (laws.wraps_in base cap start n (length scratch) w l)))

  -- ---- and one of them holds

  abbrev Some : Type 0
  Some = (n : ℕ) × When c store i scratch n

  by_told : {j : Judgement} → Tells c store i j → Some
  by_told (refusal {o = o} u) = (outcome_number o, refused u)
  by_told (message {n = n} f) =
      by_test (leb (start + n) cap) (λ t. (0, in_one_run f (leb-true (start + n) cap t)))
      (λ t.
      let w : cap < start + n = leb-false (start + n) cap t in
      by_test (leb n (length scratch)) (λ l. (0, joined f w (leb-true n (length scratch) l))) (λ l. (18, no_room f w (leb-false n (length scratch) l))))

  when : Some
  when = by_told (tells c store i)

  pub way : (n : ℕ) × Way n
  way = let (n, w) = when in (n, goes w)

  -- ---- so each number exactly then

  pub answered : {n : ℕ} → Way n → out.answer.shown.number ≡ n
  answered (stays o u e) = ap (λ (t : Told). t.answer.shown.number) (sym e)
  answered (short n m next f w l e) = ap (λ (t : Told). t.answer.shown.number) (sym e)
  answered (lies n m next f w e) = ap (λ (t : Told). t.answer.shown.number) (sym e)
  answered (joins n m next f w l e) = ap (λ (t : Told). t.answer.shown.number) (sym e)

  -- what a way leaves
  leaves_by : {n : ℕ} → Way n → Leaves c store i scratch out
  leaves_by (stays o u e) =
      let some = unshown_number u in
      rw (← e)
      (record {
        fault = λ t. rw t;
        other = λ q away. rw (away, no_offset o (λ z. true≢false (sym bad_closes ∙ ap heard_fault (sym z) ∙ away)));
        good = λ z. absurd (omega (arith, some));
        unwritten = λ q. refl;
        written = λ z. absurd (nowhere_else z);
      })
  leaves_by (short n m next f w l e) =
      rw (← e)
      (record {
        fault = λ t. absurd (true≢false (sym t ∙ not_fault.2));
        other = λ q away. refl;
        good = λ z. refl;
        unwritten = λ q. refl;
        written = λ z. absurd (nowhere_else z);
      })
  leaves_by (lies n m next f w e) =
      rw (← e)
      (record {
        fault = λ t. absurd (true≢false (sym t ∙ not_fault.0));
        other = λ q away. absurd (q refl);
        good = λ z. refl;
        unwritten = λ q. refl;
        written = λ z. absurd (store_else _ z);
      })
  leaves_by (joins n m next f w l e) =
      rw (← e)
      (record {
        fault = λ t. absurd (true≢false (sym t ∙ not_fault.0));
        other = λ q away. absurd (q refl);
        good = λ z. refl;
        unwritten = λ q. absurd (q refl);
        written = λ z. refl;
      })

  -- with 0, what the first bytes held spell, and where it is shown
  abbrev Given : Type 0
  Given = (n : ℕ) × (m : Message) × (next : ℕ) × Found c store i n m next × ShownWhere c i scratch n m out

  given : {n : ℕ} → Way n → n ≡ 0 → Given
  given (stays o u e) z = absurd (omega (arith, unshown_number u))
  given (short n m next f w l e) z = absurd (omega arith)
  given (lies n m next f w e) z = (n, m, next, f, numbers.store w (ap (λ (t : Told). t.answer) (sym e)))
  given (joins n m next f w l e) z = (n, m, next, f, numbers.scratch w l (ap (λ (t : Told). t.answer) (sym e)))

  -- which byte
  offset_by : {n : ℕ} → Way n → Offset (held_of c store i) out.answer.shown
  offset_by (stays o u e) = rw (← e) (unshown_offset u)
  offset_by (short n m next f w l e) = rw (← e) (record { before = λ z. absurd (omega arith); with_it = λ z. absurd (omega arith); else_none = λ q. refl })
  offset_by (lies n m next f w e) = rw (← e) (record { before = λ z. absurd (omega arith); with_it = λ z. absurd (omega arith); else_none = λ q. refl })
  offset_by (joins n m next f w l e) = rw (← e) (record { before = λ z. absurd (omega arith); with_it = λ z. absurd (omega arith); else_none = λ q. refl })

  -- the range
  keeps_by : Shaped c → Ranged c → {n : ℕ} → Way n → let k = out.answer.connection in (in_range k ≡ true) × Shaped k
  keeps_by s r (stays o u e) = rw (← e) (shut_keeps c store i s r u)
  keeps_by s r (short n m next f w l e) = rw (← e) (is_in_range c r, s)
  keeps_by s r (lies n m next f w e) = rw (← e) (is_in_range c r, s)
  keeps_by s r (joins n m next f w l e) = rw (← e) (is_in_range c r, s)

pub exactly : Exactly
exactly c store i scratch n =
    let (k, w) = when c store i scratch in
    let is : (n : ℕ) → When c store i scratch n → (look_of c store i scratch).answer.shown.number ≡ n =
    λ n v. answered c store i scratch (goes c store i scratch v) in
    exactly_when (When c store i scratch) (is k w) w (is n)

pub leaves : LeavesAll
leaves c store i scratch = let (n, w) = way c store i scratch in leaves_by c store i scratch w

pub looks : Looks
looks c store i scratch z = let (n, w) = way c store i scratch in given c store i scratch w (sym (answered c store i scratch w) ∙ z)

pub which_byte_looked : WhichByte
which_byte_looked c store i scratch = let (n, w) = way c store i scratch in offset_by c store i scratch w

pub keeps : Keeps
keeps c store i scratch s q =
    let (n, w) = way c store i scratch in keeps_by c store i scratch s (ranged c (receives_both c (length store) q).0) w
