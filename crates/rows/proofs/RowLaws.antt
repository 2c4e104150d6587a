-- Laws of the rows: what a row's columns say, the searches along them, and T8.
-- Assumes nothing.
use mathlib.Core.Path.{◌≡◌, refl, ap, subst}
use mathlib.Core.Bool.{Bool, true, not, ◌&&◌, ◌||◌}
use mathlib.Core.List.{List, [], ◌∷◌}
use Prim.Native.Nat.{ℕ, suc, ◌+◌, ◌<◌, ◌≤◌}
use native.Mathlib.Omega.{arith}
use lib.Dec.{T, eqb, leb, ltb, eqb→eq, leb→le, ltb→lt, eqb-suc-suc, eqb-zero-suc}
use lib.ListN.{length, get_or}
use borrow.Author.Tests.{ne_eqb}
use Rattle.base.proofs.Conds.{by_test, and_left, and_right}
use Rattle.base.proofs.Table.{every, at}
use Rattle.rows.specs.declared.Protocol.{Protocol}
use Rattle.rows.specs.declared.Agency.{Agency}
use Rattle.rows.specs.declared.Agency.TheVariants.{Initiator, Responder, Nobody}
use Rattle.std.specs.Prelude.{Option, Some, None}
use Rattle.rows.specs.declared.Row.{Row}
use Rattle.rows.specs.Rows.{State, Done, states, done_of, rows_of, fits, next_in, next_of, agency_in, agency_of, place_in}
use Rattle.rows.specs.Besides.Rows.{row_in, RowsSay, talk, dialogues}
use Rattle.rows.proofs.ByProtocol.{each_protocol}
use Rattle.std.specs.List as list
use Rattle.std.specs.Option.{option_map, unwrap_or}

-- what stands past the table's end
abbrev nothing : Row
nothing = record { state = 0; agency = Nobody; kind = 0; flag = 0; next = 0 }

-- the two searches along the rows, as searches for the first that passes a test: for where a message leads, and for who may send
pub first_next : (s k f : ℕ) (rs : List Row) → option_map (λ r. r.next) (list.find (fits s k f) rs) ≡ next_in s k f rs
unfolding next_in
first_next s k f [] = refl
first_next s k f (r ∷ rs) = by_test (fits s k f r) (λ t. rw t) (λ t. rw t (first_next s k f rs))

pub first_agent : (s : ℕ) (rs : List Row) → unwrap_or (option_map (λ r. r.agency) (list.find (λ r. eqb r.state s) rs)) Nobody ≡ agency_in s rs
unfolding agency_in
first_agent s [] = refl
first_agent s (r ∷ rs) = by_test (eqb r.state s) (λ t. rw t) (λ t. rw t (first_agent s rs))

-- agencies, told apart by numbers
abbrev mark : Agency → ℕ
mark Initiator = 0
mark Responder = 8
mark Nobody = 16

same_agency : Agency → Agency → Bool
same_agency a b = eqb (mark a) (mark b)

same_agency_lem : (a b : Agency) → T (same_agency a b) → a ≡ b
unfolding same_agency
same_agency_lem Initiator Initiator t = refl
same_agency_lem Initiator Responder t = absurd t
same_agency_lem Initiator Nobody t = absurd t
same_agency_lem Responder Initiator t = absurd t
same_agency_lem Responder Responder t = refl
same_agency_lem Responder Nobody t = absurd t
same_agency_lem Nobody Initiator t = absurd t
same_agency_lem Nobody Responder t = absurd t
same_agency_lem Nobody Nobody t = refl

-- ---- T8, by tests that antt computes over each protocol's rows

-- where a message leads, as a number: one more than the state, or 0
reached : Option ℕ → ℕ
reached (Some n) = suc n
reached None = 0

same_next : (r : Option ℕ) (n : ℕ) → T (eqb (reached r) (suc n)) → r ≡ Some n
unfolding reached
same_next (Some m) n t = ap Some (eqb→eq m n (subst T (eqb-suc-suc m n) t))
same_next None n t = absurd (subst T (eqb-zero-suc n) t)

module _ (p : Protocol) where
  -- the row at i is the only one of its state and message
  alone : ℕ → Row → Bool
  alone i r = every nothing (λ j q. not (fits r.state r.kind r.flag q) || eqb i j) 0 (rows_of p)

  sound : ℕ → Row → Bool
  sound i r =
      same_agency (agency_of p r.state) r.agency
      && (eqb (reached (next_of p r.state r.kind r.flag)) (suc r.next) && (ltb r.state (done_of p) && leb r.next (done_of p)))

  -- the states before Done
  agents : ℕ → State → Bool
  agents i s = eqb i (done_of p) || not (same_agency (agency_of p i) Nobody)

all_alone : (p : Protocol) → T (every nothing (alone p) 0 (rows_of p))
unfolding alone place_in
all_alone = each_protocol (λ p. every nothing (alone p) 0 (rows_of p)) tt

all_sound : (p : Protocol) → T (every nothing (sound p) 0 (rows_of p))
unfolding sound place_in agency_in next_in reached same_agency
all_sound = each_protocol (λ p. every nothing (sound p) 0 (rows_of p)) tt

all_agents : (p : Protocol) → T (every Done (agents p) 0 (states p))
unfolding agents place_in agency_in same_agency
all_agents = each_protocol (λ p. every Done (agents p) 0 (states p)) tt

-- the states are those up to Done
all_states : (p : Protocol) → length (states p) ≡ done_of p + 1
unfolding place_in
all_states p = eqb→eq (length (states p)) (done_of p + 1) (each_protocol (λ q. eqb (length (states q)) (done_of q + 1)) tt p)

module _ (p : Protocol) (i : ℕ) (h : i < length (rows_of p)) where
  abbrev r : Row
  r = row_in p i

  abbrev said : Bool
  said = eqb (reached (next_of p r.state r.kind r.flag)) (suc r.next)

  abbrev low : Bool
  low = ltb r.state (done_of p) && leb r.next (done_of p)

  is_sound : T (same_agency (agency_of p r.state) r.agency && (said && low))
  unfolding sound
  is_sound = at nothing (sound p) (rows_of p) (all_sound p) i h

  agreed : agency_of p r.state ≡ r.agency
  agreed = same_agency_lem (agency_of p r.state) r.agency (and_left (same_agency (agency_of p r.state) r.agency) (said && low) is_sound)

  rest : T (said && low)
  rest = and_right (same_agency (agency_of p r.state) r.agency) (said && low) is_sound

  leads_there : next_of p r.state r.kind r.flag ≡ Some r.next
  leads_there = same_next (next_of p r.state r.kind r.flag) r.next (and_left said low rest)

  last : (r.state < done_of p) × (r.next ≤ done_of p)
  last =
      let t : T low = and_right said low rest in (
        ltb→lt r.state (done_of p) (and_left (ltb r.state (done_of p)) (leb r.next (done_of p)) t),
        leb→le r.next (done_of p) (and_right (ltb r.state (done_of p)) (leb r.next (done_of p)) t),
      )

  one : (j : ℕ) → j < length (rows_of p) → fits r.state r.kind r.flag (row_in p j) ≡ true → i ≡ j
  unfolding alone
  one j k e =
      let f : ℕ → Row → Bool = λ j q. not (fits r.state r.kind r.flag q) || eqb i j in
      eqb→eq i j (rw e at (at nothing f (rows_of p) (at nothing (alone p) (rows_of p) (all_alone p) i h) j k))

-- what a search finds is a row
abbrev Leads : List Row → ℕ → ℕ → ℕ → ℕ → Type 0
Leads rs s k f n = (i : ℕ) × (i < length rs) × (fits s k f (get_or rs i nothing) ≡ true) × ((get_or rs i nothing).next ≡ n)

later : (r : Row) (rs : List Row) (s k f n : ℕ) → Leads rs s k f n → Leads (r ∷ rs) s k f n
later r rs s k f n (i, l, t, e) = (suc i, omega arith, t, e)

only : (rs : List Row) (s k f n : ℕ) → next_in s k f rs ≡ Some n → Leads rs s k f n
unfolding next_in
only [] s k f n e = absurd (let z : ◌≡◌ {A = ℕ} 0 1 = cc in omega arith)
only (r ∷ rs) s k f n e =
    by_test (fits s k f r) (λ t. let q : Some r.next ≡ Some n = rw t at e in (0, omega arith, t, cc))
    (λ t. later r rs s k f n (only rs s k f n (rw t at e)))

ended : (p : Protocol) → agency_of p (done_of p) ≡ Nobody
unfolding place_in agency_in same_agency
ended p = same_agency_lem (agency_of p (done_of p)) Nobody (each_protocol (λ q. same_agency (agency_of q (done_of q)) Nobody) tt p)

going : (p : Protocol) (s : ℕ) → s < done_of p → agency_of p s ≡ Nobody → ⊥
unfolding agents same_agency
going p s h e = rw (ne_eqb s (done_of p) (λ q. omega arith), e) at (at Done (agents p) (states p) (all_agents p) s (omega (arith, all_states p)))

all_talked : (p : Protocol) → T (every [] (λ i d. eqb (reached (talk p 0 d)) (suc (done_of p))) 0 (dialogues p))
unfolding place_in next_in reached talk
all_talked = each_protocol (λ p. every [] (λ i d. eqb (reached (talk p 0 d)) (suc (done_of p))) 0 (dialogues p)) tt

talked : (p : Protocol) (i : ℕ) → i < length (dialogues p) → talk p 0 (get_or (dialogues p) i []) ≡ Some (done_of p)
talked p i h =
    same_next (talk p 0 (get_or (dialogues p) i [])) (done_of p)
    (at [] (λ i d. eqb (reached (talk p 0 d)) (suc (done_of p))) (dialogues p) (all_talked p) i h)

pub rows_say : RowsSay
rows_say =
    record {
      thirty = refl;
      fourteen = refl;
      one = λ p i j h k e. one p i h j k e;
      agreed = agreed;
      leads = leads_there;
      only = λ p s k f n e. only (rows_of p) s k f n e;
      last = last;
      ended = ended;
      going = going;
      talked = talked;
    }
