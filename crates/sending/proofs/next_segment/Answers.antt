-- `sending::next_segment` meets its contract: each way out is one of the laws of next segment.
use mathlib.Core.Path.{◌≡◌, refl, sym, ap, subst, ◌∙◌}
use mathlib.Core.Bool.{true}
use mathlib.Core.List.{List}
use Prim.Native.Nat.{ℕ, ◌≤◌, ◌<◌}
use native.Mathlib.Omega.{arith}
use lib.ListN.{length, get_or}
use borrow.Author.Tests.{lt-ltb}
use Rattle.wire.specs.Instances.{instances, bundles}
use Rattle.wire.proofs.InstanceLaws.{at_most, at_least, known_some}
use Rattle.connection.specs.declared.Connection.{Connection}
use Rattle.connection.specs.declared.Sending.{Sending}
use Rattle.connection.specs.Closings.{is_open}
use Rattle.connection.specs.Parts.{with_sending}
use Rattle.range.specs.Ranges.{in_range, sends}
use Rattle.range.specs.Besides.Ranges.{InSend}
use Rattle.range.proofs.RangeLaws.{ranged, sends_both}
use Rattle.range.proofs.StoreLaws.{send_area}
use Rattle.std.specs.Prelude.{Option, Some}
use Rattle.ready.specs.Inside.{chosen_in}
use Rattle.sending.specs.NextSegment.{much, by_choice, chosen_of, next_of}
use Rattle.sending.specs.Inside.{Chosen}
use Rattle.sending.proofs.SendingLaws.{sent_is, much_small, serve_short, serve_made, next_unranged, next_closed, next_served, by_word, is_chosen}
use borrow.Author.Rules.{rules}
use Rattle.sending.proofs.next_segment.Goals as goal
use Rattle.sending.proofs.next_segment.Goals.{After-choose, Else-not-sends, Else-not-is_open, In-Some, In-Some-unread}

-- ---- the tests
pub returns-then-not-sends : goal.returns-then-not-sends
returns-then-not-sends c =
    let a = c.args in
    rw c.refused.ensures (next_unranged a.c a.store.now a.time a.buf.now (sym c.sends.ensures ∙ c.if-not-sends.true))

-- behind the first test, and behind the second
fit : (c : Else-not-sends) → sends c.args.c (length c.args.store.now) ≡ true
fit c = sym c.sends.ensures ∙ c.if-not-sends.false

stands_open : (c : Else-not-is_open) → is_open c.args.c.gate ≡ true
stands_open c = sym c.is_open.ensures ∙ c.if-not-is_open.false

pub returns-then-not-is_open : goal.returns-then-not-is_open
returns-then-not-is_open c =
    let a = c.args in
    let o = sym c.is_open.ensures ∙ c.if-not-is_open.true in
    rw c.refused-then-not-is_open.ensures (next_closed a.c a.store.now a.time a.buf.now (fit (goal.at.returns-then-not-is_open c).Else-not-sends) o)

pub choose-requires : goal.choose-requires
choose-requires c =
    let k = c.args.c in
    let t = (ranged k (sends_both k (length c.args.store.now) (fit (goal.at.choose-requires c).Else-not-sends)).0).turn in
    let n = c.count-many.ensures in
    (omega arith, n.1, omega arith)

-- ---- the choice
-- once it is made, of a record in range: whom the definition chooses
is_choice : (c : After-choose) → in_range c.args.c ≡ true → c.choose.result ≡ chosen_of c.args.c
is_choice c ok =
    by_word c.args.c c.count-many.result c.word.result c.choose.result ok c.count-many.ensures.0 c.word.ensures.2
    c.word.ensures.0 c.choose.ensures

goes : (c : After-choose) → let a = c.args in sends a.c (length a.store.now) ≡ true → is_open a.c.gate ≡ true
    → by_choice a.c a.store.now a.time a.buf.now c.choose.result ≡ next_of a.c a.store.now a.time a.buf.now
goes c f o =
    let a = c.args in
    next_served a.c a.store.now a.time a.buf.now f o c.choose.result (is_choice c (sends_both a.c (length a.store.now) f).0)

pub returns-in_default : goal.returns-in_default
returns-in_default c =
    let a = c.args in
    let at = goal.at.returns-in_default c in
    rw c.refused-in_default.ensures
    (sym (ap (by_choice a.c a.store.now a.time a.buf.now) c.in_default.is)
    ∙ goes at.After-choose (fit at.Else-not-sends) (stands_open at.Else-not-is_open))

-- ---- whoever is chosen
-- it is an instance of a record in range with its send store
among : (k : Connection) (store : List ℕ) (n word i : ℕ) (x : Option ℕ) → sends k (length store) ≡ true → n ≡ instances k.settings.party.bundle
    → x ≡ chosen_in n word k.sending.turn → x ≡ Some i → InSend k store i
among k store n word i x f many e is = subst (Chosen k store) is (is_chosen k store n word x f many e)

inside : (c : In-Some) → sends c.args.c (length c.args.store.now) ≡ true → InSend c.args.c c.args.store.now c.in-Some.i
inside c f =
    among c.args.c c.args.store.now c.count-many.result c.word.result c.in-Some.i c.choose.result f
    c.count-many.ensures.0 c.choose.ensures c.in-Some.is

below : (k : Connection) (store : List ℕ) (i : ℕ) → InSend k store i → i < 9
below k store i h = omega (arith, h.1, at_most k.settings.party.bundle)

-- also before its waiting bytes are read
low_unread : (c : In-Some-unread) → sends c.args.c (length c.args.store.now) ≡ true → c.in-Some.i < 9
low_unread c f =
    below c.args.c c.args.store.now c.in-Some.i
    (among c.args.c c.args.store.now c.count-many.result c.word.result c.in-Some.i c.choose.result f
    c.count-many.ensures.0 c.choose.ensures c.in-Some.is)

low : (c : In-Some) → sends c.args.c (length c.args.store.now) ≡ true → c.in-Some.i < 9
low c f = below c.args.c c.args.store.now c.in-Some.i (inside c f)

pub offset_bounds-waiting-i : goal.offset_bounds-waiting-i
offset_bounds-waiting-i c =
    let at = goal.at.offset_bounds-waiting-i c in
    search (rules, low_unread c (fit at.Else-not-sends))

pub bounds-waiting-i : goal.bounds-waiting-i
bounds-waiting-i c =
    let at = goal.at.bounds-waiting-i c in
    low_unread c (fit at.Else-not-sends)

pub offset_bounds-starts-i : goal.offset_bounds-starts-i
offset_bounds-starts-i c =
    let at = goal.at.offset_bounds-starts-i c in
    search (rules, low at.In-Some (fit at.Else-not-sends))

pub bounds-starts-i : goal.bounds-starts-i
bounds-starts-i c =
    let at = goal.at.bounds-starts-i c in
    low at.In-Some (fit at.Else-not-sends)

-- what is sent of it is small
small : (k : Connection) (store : List ℕ) (i n : ℕ) → n ≡ much k i → InSend k store i → (n ≤ 65535) × (n ≤ get_or k.sending.waiting i 0)
small k store i n e inside = rw e (much_small k store i inside)

pub overflow_add-len : goal.overflow_add-len
overflow_add-len c =
    let at = goal.at.overflow_add-len c in
    let h = inside at.In-Some (fit at.Else-not-sends) in
    record { fits = omega (arith, (small c.args.c c.args.store.now c.in-Some.i c.min-n.result c.min-n.ensures h).0) }

-- its area, and what that holds
area : (k : Connection) (store : List ℕ) (i n : ℕ) → n ≡ much k i → InSend k store i
    → (0 < get_or k.settings.send i 0) × (get_or k.settings.send i 0 ≤ 131072) × (get_or k.sending.starts i 0 < get_or k.settings.send i 0)
    × (n ≤ get_or k.settings.send i 0)
area k store i n e inside =
    let r = ranged k (sends_both k (length store) inside.0).0 in
    let cap = r.set.send i inside.1 in
    let q = r.sending i inside.1 in
    (omega arith, cap.1, q.0, omega (arith, small k store i n e inside))

pub returns-then-buf-len : goal.returns-then-buf-len
returns-then-buf-len c =
    let at = goal.at.returns-then-buf-len c in
    let a = c.args in
    rw c.refused-then-buf-len.ensures
    (serve_short a.c a.store.now a.time a.buf.now c.in-Some.i c.min-n.result c.min-n.ensures c.if-buf-len.true
    ∙ sym (ap (by_choice a.c a.store.now a.time a.buf.now) c.in-Some.is)
    ∙ goes at.After-choose (fit at.Else-not-sends) (stands_open at.Else-not-is_open))

pub put_header-requires : goal.put_header-requires
put_header-requires c =
    let at = goal.at.put_header-requires c in
    let h = inside at.In-Some (fit at.Else-not-sends) in
    let s = small c.args.c c.args.store.now c.in-Some.i c.min-n.result c.min-n.ensures h in
    (h.1, s.0, omega arith)

pub read-requires : goal.read-requires
read-requires c =
    let at = goal.at.read-requires c in
    let a = c.args in
    let i = c.in-Some.i in
    let h = inside at.In-Some (fit at.Else-not-sends) in
    (send_area a.c (length a.store.now) i h.0 h.1, (area a.c a.store.now i c.min-n.result c.min-n.ensures h).3, search rules)

pub leave-requires : goal.leave-requires
leave-requires c =
    let at = goal.at.leave-requires c in
    let a = c.args in
    let i = c.in-Some.i in
    let h = inside at.In-Some (fit at.Else-not-sends) in
    let q = area a.c a.store.now i c.min-n.result c.min-n.ensures h in
    let s = small a.c a.store.now i c.min-n.result c.min-n.ensures h in
    (low at.In-Some (fit at.Else-not-sends), q.0, omega (arith, q, s), s.1)

pub turn_after-requires : goal.turn_after-requires
turn_after-requires c =
    let at = goal.at.turn_after-requires c in
    let b = c.args.c.settings.party.bundle in
    let n = c.count-many.ensures in
    let h = (inside at.In-Some (fit at.Else-not-sends)).1 in
    (omega (arith, n.0, at_least b (lt-ltb b (length bundles) (known_some b c.in-Some.i h))), omega (arith, n))

pub returns : goal.returns
returns c =
    let at = goal.at.returns c in
    let a = c.args in
    let i = c.in-Some.i in
    let n = c.min-n.result in
    let leave = c.leave in
    let count = c.count-many in
    let w : Sending = record { starts = leave.new.starts; waiting = leave.new.counts; turn = c.turn_after.result } in
    serve_made a.c a.store.now a.time a.buf.now i n c.min-n.ensures (with_sending a.c w) w _ c.if-buf-len.false
    (sent_is a.c.settings.party.bundle i n count.result a.c.sending a.c.settings.send _ _ _ leave.ensures.0
    leave.ensures.1 c.turn_after.ensures count.ensures.0)
    refl
    (c.read.ensures ∙ rw c.put_header.ensures)
    ∙ sym (ap (by_choice a.c a.store.now a.time a.buf.now) c.in-Some.is)
    ∙ goes at.After-choose (fit at.Else-not-sends) (stands_open at.Else-not-is_open)
