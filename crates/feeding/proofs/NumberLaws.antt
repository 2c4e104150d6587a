-- The theorems of feed: T2 `exactly`, T3 `leaves`, T4' `whole_or_cut`, and that the range is kept, `keeps`. Where the "when" of a number holds, it
-- is answered; one walk through the tests finds a "when" that holds.
-- Assumes nothing.
use Rattle.std.specs.Prelude.{Ok, Err}
use mathlib.Core.Path.{◌≡◌, refl, sym, ap, ◌∙◌, subst}
use mathlib.Core.Bool.{true, false, true≢false, cond}
use mathlib.Core.List.{List, ◌++◌}
use Prim.Native.Nat.{ℕ, suc, ◌+◌, ◌≤◌, ◌<◌}
use native.Mathlib.Omega.{arith}
use native.Mathlib.Nat.{add-zero}
use borrow.Author.Tests.{ne_eqb, lt-leb}
use lib.Dec.{eqb}
use lib.ListN.{length, get_or}
use Rattle.base.proofs.Conds.{by_test, both_true, exactly_when}
use Rattle.wire.specs.declared.instances.Party.{Party}
use Rattle.wire.specs.Instances.{Route}
use Rattle.wire.specs.declared.instances.RouteError.TheVariants.{Unknown, Wrong}
use Rattle.connection.specs.declared.Connection.{Connection}
use Rattle.connection.specs.declared.Closing.{Closing}
use Rattle.connection.specs.declared.Closing.TheVariants.{Bare, Of}
use Rattle.connection.specs.declared.Gate.{Gate}
use Rattle.connection.specs.declared.Gate.TheVariants.{Open, Closed}
use Rattle.connection.specs.Closings.{closing_number, is_open, gate_ok}
use Rattle.connection.specs.Parts.{with_receiving}
use Rattle.range.specs.Ranges.{in_range, receive_store_ok, receives}
use Rattle.range.proofs.RangeLaws.{ranged}
use Rattle.feeding.specs.Feeding.{Reception, admitted, fed, used, left, Told, told, refused, given, answered, feed_open, feed_of}
use Rattle.feeding.specs.Besides.Numbers.{Listens, Comes, When, out_of_range, closed, protocol_unknown, mode_wrong, overflows, done, Exactly, LeavesAll, Keeps, Joins, WholeOrCut}
use Rattle.feeding.proofs.Bytes.{fed_closed, used_closed, fed_append, used_append, feed_range, feed_closed, feed_open_lem}
use Rattle.feeding.proofs.Keeping.{kept_given, kept_fed, range_with, proper_fed}
use Rattle.feeding.proofs.Faults.{Cause, unknown, wrong, overflow, cause_number, Holds, eighth_with, eighth_so, Refuses}
use Rattle.feeding.proofs.Faults.{fault_found, fault_why, fault_leaves, used_all, open_before}

-- ---- what a call leaves

abbrev ends : Connection → List ℕ → List ℕ → Reception
ends c st xs = fed c.settings.party c.settings.receive (given c st) xs

abbrev uses : Connection → List ℕ → List ℕ → ℕ
uses c st xs = used c.settings.party c.settings.receive (given c st) xs

-- a gate is open or has a closing
gate_is : {P : Type 0} (g : Gate) → (is_open g ≡ true → g ≡ Open → P) → ((x : Closing) → is_open g ≡ false → g ≡ Closed x → P) → P
gate_is Open p q = p refl refl
gate_is (Closed x) p q = q x refl refl

module _ (c : Connection) (st xs : List ℕ) (ok : receives c (length st) ≡ true) (o : is_open c.gate ≡ true) where
  answer : feed_of c st xs ≡ answered c (uses c st xs) (ends c st xs)
  unfolding feed_open
  answer = feed_open_lem c st xs ok o

  answer_number : (feed_of c st xs).answer.number ≡ left (ends c st xs).gate
  answer_number = ap (λ (t : Told). t.answer.number) answer

  closing_number_lem : (x : Closing) → (ends c st xs).gate ≡ Closed x → (11 ≤ closing_number x) × (closing_number x ≤ 13)
  closing_number_lem x e =
      cause_number (fault_why c.settings.party c.settings.receive (given c st) xs x o e).says

  -- a call that takes bytes answers 0, or 11 to 13
  number_low : (feed_of c st xs).answer.number ≤ 13
  number_low =
      gate_is (ends c st xs).gate (λ t g. omega (arith, answer_number, ap left g))
      (λ x t g. omega (arith, answer_number, ap left g, (closing_number_lem x g).1))

-- the three ways of a call, by its number
module _ (c : Connection) (st xs : List ℕ) {P : Type 0} where
  ways : (receives c (length st) ≡ false → feed_of c st xs ≡ told (refused c 23) st → P)
      → (receives c (length st) ≡ true → is_open c.gate ≡ false → feed_of c st xs ≡ told (refused c 20) st → P)
      → (receives c (length st) ≡ true → is_open c.gate ≡ true → P) → P
  ways p q r =
      by_test (receives c (length st))
      (λ ok. by_test (is_open c.gate) (λ o. r ok o) (λ o. q ok o (feed_closed c st xs ok o)))
      (λ out. p out (feed_range c st xs out))

-- ---- T2

by_cause : {P : Type 0} {caps held : List ℕ} {n : ℕ} {to : Route} {x : Closing} → Cause caps held n to x → (to ≡ Err Unknown → P)
    → ((i : ℕ) × (to ≡ Err (Wrong i)) → P) → ((i : ℕ) × (to ≡ Ok i) × (get_or caps i 0 < get_or held i 0 + n) → P) → P
by_cause unknown f g h = f refl
by_cause (wrong i) f g h = g (i, refl)
by_cause (overflow i l) f g h = h (i, refl, l)

module _ (c : Connection) (st xs : List ℕ) where
  abbrev number : ℕ
  number = (feed_of c st xs).answer.number

  at_23 : feed_of c st xs ≡ told (refused c 23) st → number ≡ 23
  at_23 e = ap (λ (t : Told). t.answer.number) e

  at_20 : feed_of c st xs ≡ told (refused c 20) st → number ≡ 20
  at_20 e = ap (λ (t : Told). t.answer.number) e

  -- what a header that closes with x says
  abbrev Faults : Closing → List ℕ → ℕ → Route → Type 0
  Faults x = Refuses c.settings.receive x

  -- 0 is answered where the connection stays open
  stays : number ≡ 0 → Listens c st × (is_open (ends c st xs).gate ≡ true)
  stays n =
      ways c st xs (λ out e. absurd (omega (arith, at_23 e))) (λ ok o e. absurd (omega (arith, at_20 e)))
      (λ ok o.
      gate_is (ends c st xs).gate (λ t g. ((ok, o), t))
      (λ x t g. absurd (omega (arith, answer_number c st xs ok o, ap left g, (closing_number_lem c st xs ok o x g).0))))

  -- a header that is a fault closes, and gives its number
  fault_closes : (x : Closing) → Comes c st xs (Faults x) → (ends c st xs).gate ≡ Closed x
  fault_closes x k = ap (λ (s : Reception). s.gate) (fault_leaves c.settings.party c.settings.receive (given c st) xs x k).0

  fault_number : {P : List ℕ → ℕ → Route → Type 0} → Listens c st → (x : Closing) (k : Comes c st xs P) → Holds k (Faults x)
      → number ≡ closing_number x
  fault_number p x k e =
      answer_number c st xs p.0 p.1 ∙ ap left (fault_closes x (eighth_with {Q = Faults x} k e))

  answered_by : {n : ℕ} → When c st xs n → number ≡ n
  answered_by (out_of_range out) = at_23 (feed_range c st xs out)
  answered_by (closed ok o) = at_20 (feed_closed c st xs ok o)
  answered_by (protocol_unknown p k) = fault_number p (Bare 11) k (ap (admitted c.settings.receive _ _) k.says)
  answered_by (mode_wrong p k) = let (i, e) = k.says in fault_number p (Of 12 i) k (ap (admitted c.settings.receive _ _) e)
  answered_by (overflows p k) =
      let (i, e, l) = k.says in fault_number p (Of 13 i) k (ap (admitted c.settings.receive _ _) e ∙ rw (lt-leb _ (get_or c.settings.receive i 0) l))
  answered_by (done (ok, o) none) =
      gate_is (ends c st xs).gate (λ t g. answer_number c st xs ok o ∙ ap left g)
      (λ x t g. absurd (none (eighth_so {P = Faults x} (λ held n to e. (x, e)) (fault_found c.settings.party c.settings.receive (given c st) xs x o g))))

  -- what closes has a cause
  by_fault : Listens c st → (x : Closing) → (ends c st xs).gate ≡ Closed x → (n : ℕ) × When c st xs n
  by_fault (ok, o) x g =
      let k = fault_why c.settings.party c.settings.receive (given c st) xs x o g in
      by_cause k.says (λ e. (11, protocol_unknown (ok, o) (eighth_with k e))) (λ e. (12, mode_wrong (ok, o) (eighth_with k e)))
      (λ e. (13, overflows (ok, o) (eighth_with k e)))

  when : (n : ℕ) × When c st xs n
  when =
      ways c st xs (λ out e. (23, out_of_range out)) (λ ok o e. (20, closed ok o))
      (λ ok o.
      gate_is (ends c st xs).gate
      (λ t g. (
        0,
        done (ok, o) (λ k. let (x, e) = k.says in true≢false (sym t ∙ ap is_open (fault_closes x (eighth_with {Q = Faults x} k e)))),
      ))
      (λ x t g. by_fault (ok, o) x g))

pub exactly : Exactly
exactly c st xs n = let (k, w) = when c st xs in exactly_when (When c st xs) (answered_by c st xs w) w (answered_by c st xs)

-- ---- T3

pub leaves : LeavesAll
leaves c st xs =
    let us = c.settings.party in
    let caps = c.settings.receive in
    record {
      nothing = λ n e h.
          ways c st xs (λ out f. f ∙ ap (λ (m : ℕ). told (refused c m) st) (sym (at_23 c st xs f) ∙ e))
          (λ ok o f. f ∙ ap (λ (m : ℕ). told (refused c m) st) (sym (at_20 c st xs f) ∙ e))
          (λ ok o. absurd (omega (arith, number_low c st xs ok o)));
      all = λ e.
          let p = stays c st xs e in
          ap (λ (r : Told). r.answer.used) (answer c st xs p.0.0 p.0.1) ∙ used_all us caps (given c st) xs p.1;
      fault = λ x ok e.
          let k = fault_leaves us caps (given c st) xs x e in
          answer c st xs ok (open_before us caps (given c st) e.front e.reached)
          ∙ ap (λ (n : ℕ). answered c n (ends c st xs)) k.1
          ∙ ap (λ (s : Reception). answered c (suc (length e.front)) s) k.0;
    }

-- ---- the range

-- record and store after a call that took bytes and left a closing in range
receives_after : (c : Connection) (st xs : List ℕ) → receives c (length st) ≡ true → gate_ok c.settings.party.bundle (ends c st xs).gate ≡ true
    → receives (with_receiving c (ends c st xs).receiving (ends c st xs).gate) (length (ends c st xs).store) ≡ true
receives_after c st xs ok g =
    let p = both_true (in_range c) (receive_store_ok c.settings (length st)) ok in
    let k = kept_fed c.settings.party c.settings.receive c.receiving.starts (length st) (given c st) xs (kept_given c st p.0) in
    rw (range_with c (length st) (ends c st xs) p.0 k g, k.long) p.1

pub keeps : Keeps
keeps c st xs spelt bytes ok =
    ways c st xs (λ out e. absurd (true≢false (sym ok ∙ out))) (λ _ o e. rw e (ok, spelt))
    (λ _ o.
    let p = both_true (in_range c) (receive_store_ok c.settings (length st)) ok in
    let s = proper_fed c.settings.party c.settings.receive (given c st) xs (spelt, (ranged c p.0).closing) bytes in
    rw (answer c st xs ok o) (receives_after c st xs ok s.1, s.0))

-- ---- T4'

abbrev Cut : Connection → List ℕ → List ℕ → List ℕ → Told → Type 0
Cut c st xs ys first = Joins first (feed_of first.answer.connection first.store ys) (feed_of c st (xs ++ ys))

module _ (c : Connection) (st xs ys : List ℕ) where
  -- where no byte is used, none is used
  cut_refused : (n : ℕ) → 0 < n → ((zs : List ℕ) → feed_of c st zs ≡ told (refused c n) st) → Cut c st xs ys (feed_of c st xs)
  cut_refused n h e =
      subst (Cut c st xs ys) (sym (e xs))
      (record {
        connection = ap (λ (t : Told). t.answer.connection) (e (xs ++ ys) ∙ sym (e ys));
        store = ap (λ (t : Told). t.store) (e (xs ++ ys) ∙ sym (e ys));
        number = ap (λ (t : Told). t.answer.number) (e (xs ++ ys)) ∙ rw (ne_eqb n 0 (λ z. omega arith));
        used = omega (arith, ap (λ (t : Told). t.answer.used) (e (xs ++ ys)), ap (λ (t : Told). t.answer.used) (e ys));
      })

  module _ (ok : receives c (length st) ≡ true) (o : is_open c.gate ≡ true) where
    abbrev us : Party
    us = c.settings.party

    abbrev caps : List ℕ
    caps = c.settings.receive

    abbrev s : Reception
    s = ends c st xs

    abbrev next : Connection
    next = with_receiving c s.receiving s.gate

    on : ends c st (xs ++ ys) ≡ fed us caps s ys
    on = fed_append us caps (given c st) xs ys

    count : uses c st (xs ++ ys) ≡ uses c st xs + used us caps s ys
    count = used_append us caps (given c st) xs ys

    whole : feed_of c st (xs ++ ys) ≡ answered c (uses c st xs + used us caps s ys) (fed us caps s ys)
    whole =
        answer c st (xs ++ ys) ok o ∙ ap (λ (n : ℕ). answered c n (ends c st (xs ++ ys))) count
        ∙ ap (λ (t : Reception). answered c (uses c st xs + used us caps s ys) t) on

    -- the first leaves it open: the second goes on
    cut_open : is_open s.gate ≡ true → s.gate ≡ Open → Cut c st xs ys (answered c (uses c st xs) s)
    cut_open t g =
        let ok' : receives next (length s.store) ≡ true = receives_after c st xs ok (ap (gate_ok us.bundle) g) in
        let second : feed_of next s.store ys ≡ answered next (used us caps s ys) (fed us caps s ys) = answer next s.store ys ok' t in
        record {
          connection = ap (λ (r : Told). r.answer.connection) whole ∙ sym (ap (λ (r : Told). r.answer.connection) second);
          store = ap (λ (r : Told). r.store) whole ∙ sym (ap (λ (r : Told). r.store) second);
          number =
              ap (λ (r : Told). r.answer.number) whole ∙ sym (ap (λ (r : Told). r.answer.number) second)
              ∙ ap (λ (z : ℕ). cond (eqb z 0) (feed_of next s.store ys).answer.number z) (sym (ap left g));
          used = ap (λ (r : Told). r.answer.used) whole ∙ ap (λ (r : Told). uses c st xs + r.answer.used) (sym second);
        }

    -- the first closes it: no byte more is used
    cut_closed : (x : Closing) → is_open s.gate ≡ false → s.gate ≡ Closed x → Cut c st xs ys (answered c (uses c st xs) s)
    cut_closed x t g =
        let stays : fed us caps s ys ≡ s = fed_closed us caps s ys t in
        let none : used us caps s ys ≡ 0 = used_closed us caps s ys t in
        let all : feed_of c st (xs ++ ys) ≡ answered c (uses c st xs) s =
        whole ∙ ap (λ (q : Reception). answered c (uses c st xs + used us caps s ys) q) stays
        ∙ ap (λ (n : ℕ). answered c (uses c st xs + n) s) none
        ∙ ap (λ (n : ℕ). answered c n s) (add-zero (uses c st xs)) in
        let second : (m : ℕ) × (feed_of next s.store ys ≡ told (refused next m) s.store) =
        ways next s.store ys (λ out e. (23, e)) (λ _ _ e. (20, e)) (λ _ o'. absurd (true≢false (sym o' ∙ t))) in
        let some = (closing_number_lem c st xs ok o x g).0 in
        let number : left s.gate ≡ closing_number x = ap left g in
        record {
          connection = ap (λ (r : Told). r.answer.connection) all ∙ sym (ap (λ (r : Told). r.answer.connection) second.1);
          store = ap (λ (r : Told). r.store) all ∙ sym (ap (λ (r : Told). r.store) second.1);
          number = ap (λ (r : Told). r.answer.number) all ∙ rw (ne_eqb (left s.gate) 0 (λ z. omega arith));
          used = omega (arith, ap (λ (r : Told). r.answer.used) all, ap (λ (r : Told). r.answer.used) second.1);
        }

pub whole_or_cut : WholeOrCut
whole_or_cut c st xs ys =
    by_test (receives c (length st))
    (λ ok.
    by_test (is_open c.gate)
    (λ o.
    subst (Cut c st xs ys) (sym (answer c st xs ok o))
    (gate_is (ends c st xs).gate (cut_open c st xs ys ok o) (cut_closed c st xs ys ok o)))
    (λ o. cut_refused c st xs ys 20 (omega arith) (λ zs. feed_closed c st zs ok o)))
    (λ out. cut_refused c st xs ys 23 (omega arith) (λ zs. feed_range c st zs out))
