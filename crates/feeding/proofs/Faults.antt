-- Faults: which byte closes a connection, and why.
-- Assumes nothing.
use Rattle.std.specs.Prelude.{Ok, Err}
use mathlib.Core.Path.{◌≡◌, refl, sym, ap, ◌∙◌, subst}
use mathlib.Core.Bool.{true, true≢false}
use mathlib.Core.List.{List, [], ◌∷◌}
use Prim.Native.Nat.{ℕ, suc, ◌+◌, ◌≤◌, ◌<◌}
use native.Mathlib.Omega.{arith}
use borrow.Author.Tests.{le-leb, leb-true, leb-false, eqb-true}
use lib.Dec.{eqb, leb}
use lib.ListN.{length, get_or}
use Rattle.base.proofs.Conds.{by_test}
use Rattle.wire.specs.declared.segment.Header.{Header}
use Rattle.wire.specs.declared.instances.Party.{Party}
use Rattle.wire.specs.Instances.{Route}
use Rattle.wire.specs.declared.instances.RouteError.TheVariants.{Unknown, Wrong}
use Rattle.wire.specs.Segments.{header_length, added, decoded}
use Rattle.wire.specs.Instances.{route_of}
use Rattle.connection.specs.declared.Closing.{Closing}
use Rattle.connection.specs.declared.Closing.TheVariants.{Bare, Of}
use Rattle.connection.specs.declared.Gate.{Gate}
use Rattle.connection.specs.declared.Gate.TheVariants.{Closed}
use Rattle.connection.specs.Closings.{closing_number, is_open}
use Rattle.admitting.specs.Admitting.{Admission, payload}
use Rattle.feeding.specs.Feeding.{Reception, admitted, admission, settled, headed, kept, step, fed, used}
use Rattle.feeding.specs.Besides.Numbers.{Eighth}
use Rattle.feeding.proofs.Bytes.{step_headed, fed_closed, used_closed, fed_append, used_append}

-- an open gate is not closed
never : {P : Type 0} (g : Gate) (x : Closing) → is_open g ≡ true → g ≡ Closed x → P
never g x o e = absurd (true≢false (sym o ∙ ap is_open e))

-- ---- why

-- why a header is a fault
pub data Cause (caps held : List ℕ) (n : ℕ) : Route → Closing → Type 0 where
  unknown : Cause caps held n (Err Unknown) (Bare 11)
  wrong : (i : ℕ) → Cause caps held n (Err (Wrong i)) (Of 12 i)
  overflow : (i : ℕ) → get_or caps i 0 < get_or held i 0 + n → Cause caps held n (Ok i) (Of 13 i)

fault_is : (x y : Closing) → ◌≡◌ {A = Admission} (Err x) (Err y) → x ≡ y
fault_is x y e = cc

payload_not : {P : Type 0} (i n : ℕ) (x : Closing) → ◌≡◌ {A = Admission} (Ok (payload i n)) (Err x) → P
payload_not i n x e = absurd (let z : ◌≡◌ {A = ℕ} 0 1 = cc in omega arith)

pub cause : (caps held : List ℕ) (n : ℕ) (r : Route) (x : Closing) → admitted caps held n r ≡ Err x → Cause caps held n r x
cause caps held n (Err Unknown) x e = subst (Cause caps held n (Err Unknown)) (fault_is (Bare 11) x e) unknown
cause caps held n (Err (Wrong i)) x e = subst (Cause caps held n (Err (Wrong i))) (fault_is (Of 12 i) x e) (wrong i)
cause caps held n (Ok i) x e =
    by_test (leb (get_or held i 0 + n) (get_or caps i 0))
    (λ t. payload_not i n x (rw t at e))
    (λ t.
    subst (Cause caps held n (Ok i)) (fault_is (Of 13 i) x (rw t at e))
    (overflow i (leb-false (get_or held i 0 + n) (get_or caps i 0) t)))

-- its number
pub cause_number : {caps held : List ℕ} {n : ℕ} {r : Route} {x : Closing} → Cause caps held n r x → (11 ≤ closing_number x) × (closing_number x ≤ 13)
cause_number unknown = (omega arith, omega arith)
cause_number (wrong i) = (omega arith, omega arith)
cause_number (overflow i h) = (omega arith, omega arith)

-- ---- which byte

module _ {us : Party} {caps : List ℕ} {s : Reception} {xs : List ℕ} {P : List ℕ → ℕ → Route → Type 0} where
  -- Q holds of the counts, the length and the route of an eighth byte
  abbrev pub Holds : Eighth us caps s xs P → (List ℕ → ℕ → Route → Type 0) → Type 0
  Holds k Q =
      let m = (fed us caps s k.front).receiving in
      let d = decoded (added m.header k.byte).bytes in
      Q m.held d.len (route_of us d.protocol d.mode)

  -- the same byte, of which more is known
  pub eighth_with : {Q : List ℕ → ℕ → Route → Type 0} (k : Eighth us caps s xs P) → Holds k Q → Eighth us caps s xs Q
  eighth_with k q =
      record {
        front = k.front;
        byte = k.byte;
        back = k.back;
        run = k.run;
        reached = k.reached;
        idle = k.idle;
        whole = k.whole;
        says = q;
      }

  -- what follows from what it says
  pub eighth_so : {Q : List ℕ → ℕ → Route → Type 0} → ((held : List ℕ) (n : ℕ) (to : Route) → P held n to → Q held n to)
      → Eighth us caps s xs P → Eighth us caps s xs Q
  eighth_so {Q} f k = eighth_with {Q = Q} k (f _ _ _ k.says)

-- what an eighth byte says
abbrev pub Refuses : List ℕ → Closing → List ℕ → ℕ → Route → Type 0
Refuses caps x held n to = admitted caps held n to ≡ Err x

module _ (us : Party) (caps : List ℕ) where
  settled_closes : (s : Reception) (a : Admission) (x : Closing) → is_open s.gate ≡ true → (settled s a).gate ≡ Closed x → a ≡ Err x
  settled_closes s (Err y) x o e = let q : y ≡ x = cc in ap Err q
  settled_closes s (Ok p) x o e = never s.gate x o e

  -- a byte that closes is the eighth of a header that is a fault
  step_closes : (s : Reception) (y : ℕ) (x : Closing) → is_open s.gate ≡ true → (step us caps s y).gate ≡ Closed x
      → (s.receiving.rest ≡ 0) × (header_length ≤ (added s.receiving.header y).count)
      × (admission us caps s.receiving.held (added s.receiving.header y) ≡ Err x)
  unfolding step headed kept
  step_closes s y x o e =
      let h : Header = added s.receiving.header y in
      by_test (eqb s.receiving.rest 0)
      (λ t.
      by_test (leb header_length h.count)
      (λ q. (
        eqb-true s.receiving.rest 0 t,
        leb-true header_length h.count q,
        settled_closes s (admission us caps s.receiving.held h) x o (rw (o, t, q) at e),
      ))
      (λ q. never s.gate x o (rw (o, t, q) at e)))
      (λ t. never s.gate x o (rw (o, t) at e))

  pub fault_found : (s : Reception) (xs : List ℕ) (x : Closing) → is_open s.gate ≡ true → (fed us caps s xs).gate ≡ Closed x
      → Eighth us caps s xs (Refuses caps x)
  unfolding fed admission
  fault_found s [] x o e = never s.gate x o e
  fault_found s (y ∷ ys) x o e =
      by_test (is_open (step us caps s y).gate)
      (λ t.
      let k = fault_found (step us caps s y) ys x t e in
      record {
        front = y ∷ k.front;
        byte = k.byte;
        back = k.back;
        run = ap (λ (l : List ℕ). y ∷ l) k.run;
        reached = k.reached;
        idle = k.idle;
        whole = k.whole;
        says = k.says;
      })
      (λ t.
      let k = step_closes s y x o (ap (λ (q : Reception). q.gate) (sym (fed_closed us caps (step us caps s y) ys t)) ∙ e) in
      record { front = []; byte = y; back = ys; run = refl; reached = o; idle = k.0; whole = k.1; says = k.2 })

  -- ---- what it leaves

  -- while the connection stays open, all bytes are used
  pub used_all : (s : Reception) (xs : List ℕ) → is_open (fed us caps s xs).gate ≡ true → used us caps s xs ≡ length xs
  unfolding fed used
  used_all s [] o = refl
  used_all s (x ∷ xs) o =
      by_test (is_open s.gate) (λ t. rw t (ap suc (used_all (step us caps s x) xs o)))
      (λ t.
      let stays : fed us caps s (x ∷ xs) ≡ s = fed_closed us caps s (x ∷ xs) t in
      absurd (true≢false (sym o ∙ ap (λ (q : Reception). is_open q.gate) stays ∙ t)))

  pub fault_leaves : (s : Reception) (xs : List ℕ) (x : Closing) (e : Eighth us caps s xs (Refuses caps x))
      → (fed us caps s xs ≡ settled (fed us caps s e.front) (Err x)) × (used us caps s xs ≡ suc (length e.front))
  unfolding fed used headed admission
  fault_leaves s xs x e =
      let m : Reception = fed us caps s e.front in
      let n : Reception = settled m (Err x) in
      let h : Header = added m.receiving.header e.byte in
      let leads : step us caps m e.byte ≡ n =
      step_headed us caps m e.byte e.reached e.idle
      ∙ rw (le-leb header_length h.count e.whole, e.says) in
      let on : fed us caps m (e.byte ∷ e.back) ≡ n =
      ap (λ (q : Reception). fed us caps q e.back) leads ∙ fed_closed us caps n e.back refl in
      let last : used us caps (step us caps m e.byte) e.back ≡ 0 =
      ap (λ (q : Reception). used us caps q e.back) leads ∙ used_closed us caps n e.back refl in
      let some : used us caps m (e.byte ∷ e.back) ≡ 1 = rw e.reached (ap suc last) in (
        ap (λ (l : List ℕ). fed us caps s l) e.run ∙ fed_append us caps s e.front (e.byte ∷ e.back) ∙ on,
        ap (λ (l : List ℕ). used us caps s l) e.run ∙ used_append us caps s e.front (e.byte ∷ e.back)
            ∙ omega (arith, used_all s e.front e.reached, some),
      )

  -- what was open at a byte was open before
  pub open_before : (s : Reception) (xs : List ℕ) → is_open (fed us caps s xs).gate ≡ true → is_open s.gate ≡ true
  open_before s xs o =
      by_test (is_open s.gate) (λ t. t)
      (λ t. absurd (true≢false (sym o ∙ ap (λ (q : Reception). is_open q.gate) (fed_closed us caps s xs t) ∙ t)))

  pub fault_why : (s : Reception) (xs : List ℕ) (x : Closing) → is_open s.gate ≡ true → (fed us caps s xs).gate ≡ Closed x
      → Eighth us caps s xs (λ held n to. Cause caps held n to x)
  fault_why s xs x o e =
      eighth_so {P = Refuses caps x} {Q = λ held n to. Cause caps held n to x} (λ held n to f. cause caps held n to x f) (fault_found s xs x o e)
