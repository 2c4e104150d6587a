-- Laws of routes in any list of instances: what a search finds in it, and T5 where the list is well formed.
-- Assumes nothing.
use mathlib.Core.Path.{◌≡◌, refl, sym, ap, ap₂, ◌∙◌}
use mathlib.Core.Bool.{Bool, true, false, true≢false, false≢true, not, ◌&&◌, beq}
use mathlib.Core.List.{List, [], ◌∷◌}
use mathlib.Core.Logic.{◌↔◌}
use mathlib.Core.Option
use mathlib.Core.Option.{Option, none, some}
use Prim.Native.Nat.{ℕ, zero, suc, ◌+◌, ◌-◌, ◌<◌}
use native.Mathlib.Omega.{arith}
use lib.Dec.{T, eqb, eqb→eq}
use lib.ListN.{length, get_or}
use borrow.Author.Tests.{eq-eqb, ne_eqb, eqb-true, eqb-false}
use Rattle.base.proofs.Conds.{by_test, so, and_left, and_right, below_at, both_true}
use Rattle.wire.specs.declared.instances.Side.{Side}
use Rattle.wire.specs.declared.instances.Side.TheVariants.{Dialler, Accepter}
use Rattle.wire.specs.declared.instances.RouteError.TheVariants.{Unknown, Wrong}
use Rattle.wire.specs.declared.instances.Role.{Role}
use Rattle.wire.specs.declared.instances.Role.TheVariants.{Initiator, Responder, OfSide}
use Rattle.std.specs.Prelude.{Ok, Err}
use Rattle.wire.specs.Instances.{Instance, Route, sided, instance_in, initiates, mode_from, mode_as, takes, find, or_else, route_in, other}
use Rattle.wire.specs.Besides.Instances.{opposite, talks_with, pair_in}
use Rattle.wire.specs.Besides.Routes.{passing, takes_as, formed_in, well_formed, AnyBundle}

-- what stands past a list's end
abbrev pub nobody : Instance
nobody = record { protocol = 0; role = Initiator }

-- ---- the search

module _ {A : Type 0} (f : A → Bool) (d : A) where
  -- i is the place, counted from k, of an element that passes the test
  abbrev Found : List A → ℕ → ℕ → Type 0
  Found xs k i = (j : ℕ) × (i ≡ k + j) × (j < length xs) × (f (get_or xs j d) ≡ true)

  later : (x : A) (xs : List A) (k i : ℕ) → Found xs (suc k) i → Found (x ∷ xs) k i
  later x xs k i (j, e, l, t) = (suc j, omega arith, omega arith, t)

  -- what is found passes the test
  find_some : (xs : List A) (k i : ℕ) → find f k xs ≡ some i → Found xs k i
  unfolding find
  find_some [] k i e = absurd (let z : ◌≡◌ {A = ℕ} 0 1 = cc in omega arith)
  find_some (x ∷ xs) k i e =
      by_test (f x) (λ t. let h : some k ≡ some i = rw t at e in let q : k ≡ i = cc in (0, omega arith, omega arith, t))
      (λ t. later x xs k i (find_some xs (suc k) i (rw t at e)))

  -- so from the first on
  pub find_at : (xs : List A) (i : ℕ) → find f 0 xs ≡ some i → (i < length xs) × (f (get_or xs i d) ≡ true)
  find_at xs i e = let (j, q, l, t) = find_some xs 0 i e in let same : i ≡ j = omega arith in rw same (l, t)

  -- where nothing is found, nothing passes
  find_none_all : (xs : List A) (k : ℕ) → find f k xs ≡ none → (j : ℕ) → j < length xs → f (get_or xs j d) ≡ false
  unfolding find
  find_none_all [] k e j h = absurd (omega arith)
  find_none_all (x ∷ xs) k e zero h = by_test (f x) (λ t. absurd (let q : some k ≡ none = rw t at e in let z : ◌≡◌ {A = ℕ} 0 1 = cc in omega arith)) (λ t. t)
  find_none_all (x ∷ xs) k e (suc j) h =
      by_test (f x) (λ t. absurd (let q : some k ≡ none = rw t at e in let z : ◌≡◌ {A = ℕ} 0 1 = cc in omega arith))
      (λ t. find_none_all xs (suc k) (rw t at e) j (omega arith))

  -- where nothing passes, nothing is found
  find_none : (xs : List A) (k : ℕ) → ((j : ℕ) → j < length xs → f (get_or xs j d) ≡ false) → find f k xs ≡ none
  unfolding find
  find_none [] k h = refl
  find_none (x ∷ xs) k h = rw (h 0 (omega arith)) (find_none xs (suc k) (λ j l. h (suc j) (omega arith)))

  -- what alone passes is found
  find_only : (xs : List A) (i : ℕ) → i < length xs → f (get_or xs i d) ≡ true → ((j : ℕ) → j < length xs → f (get_or xs j d) ≡ true → j ≡ i)
      → find f 0 xs ≡ some i
  find_only xs i h t alone = go (find f 0 xs) refl
    where
      go : (o : Option ℕ) → find f 0 xs ≡ o → o ≡ some i
      go none e = absurd (true≢false (sym t ∙ find_none_all xs 0 e i h))
      go (some j) e = let q = find_at xs j e in ap some (alone j q.0 q.1)

  -- where one passes, and no more, a search finds that one
  none_pass : (xs : List A) → passing f xs ≡ 0 → (j : ℕ) → j < length xs → f (get_or xs j d) ≡ true → ⊥
  unfolding passing
  none_pass [] e j h t = omega arith
  none_pass (x ∷ xs) e zero h t = let q : suc (passing f xs) ≡ 0 = rw t at e in omega arith
  none_pass (x ∷ xs) e (suc j) h t =
      by_test (f x) (λ y. let q : suc (passing f xs) ≡ 0 = rw y at e in omega arith) (λ n. none_pass xs (rw n at e) j (omega arith) t)

  no_more : (x : A) (xs : List A) → passing f (x ∷ xs) ≡ 1 → f x ≡ true → (j : ℕ) → j < length xs → f (get_or xs j d) ≡ true → ⊥
  unfolding passing
  no_more x xs e t j l u = none_pass xs (let q : suc (passing f xs) ≡ 1 = rw t at e in omega arith) j l u

  one_place : (xs : List A) → passing f xs ≡ 1 → (i j : ℕ) → i < length xs → j < length xs → f (get_or xs i d) ≡ true → f (get_or xs j d) ≡ true → i ≡ j
  unfolding passing
  one_place [] e i j h l t u = absurd (omega arith)
  one_place (x ∷ xs) e zero zero h l t u = refl
  one_place (x ∷ xs) e zero (suc j) h l t u = absurd (no_more x xs e t j (omega arith) u)
  one_place (x ∷ xs) e (suc i) zero h l t u = absurd (no_more x xs e u i (omega arith) t)
  one_place (x ∷ xs) e (suc i) (suc j) h l t u =
      by_test (f x) (λ y. absurd (no_more x xs e y i (omega arith) t))
      (λ n. ap suc (one_place xs (rw n at e) i j (omega arith) (omega arith) t u))

  some_one : (xs : List A) → passing f xs ≡ 1 → (j : ℕ) × (j < length xs) × (f (get_or xs j d) ≡ true)
  unfolding passing
  some_one [] e = absurd (omega arith)
  some_one (x ∷ xs) e = by_test (f x) (λ t. (0, omega arith, t)) (λ n. let (j, l, t) = some_one xs (rw n at e) in (suc j, omega arith, t))

  find_one : (xs : List A) → passing f xs ≡ 1 → (i : ℕ) → i < length xs → f (get_or xs i d) ≡ true → find f 0 xs ≡ some i
  find_one xs e i h t = find_only xs i h t (λ j l u. one_place xs e j i l h u t)

-- ---- what a search, and then another, say of a route

abbrev astray : Option ℕ → Route
astray o = or_else o (λ i. Err (Wrong i)) (Err Unknown)

wrong_or_unknown : (o : Option ℕ) (i : ℕ) → astray o ≡ Ok i → ⊥
wrong_or_unknown (some j) i e = let z : ◌≡◌ {A = ℕ} 0 1 = cc in omega arith
wrong_or_unknown none i e = let z : ◌≡◌ {A = ℕ} 0 1 = cc in omega arith

found : (o q : Option ℕ) (i : ℕ) → or_else o Ok (astray q) ≡ Ok i → o ≡ some i
found (some j) q i e = cc
found none q i e = absurd (wrong_or_unknown q i e)

known_not : (o q : Option ℕ) → or_else o Ok (astray q) ≡ Err Unknown → q ≡ none
known_not (some j) q e = absurd (let z : ◌≡◌ {A = ℕ} 0 1 = cc in omega arith)
known_not none (some j) e = absurd (let z : ◌≡◌ {A = ℕ} 0 1 = cc in omega arith)
known_not none none e = refl

wrong_found : (o q : Option ℕ) (i : ℕ) → or_else o Ok (astray q) ≡ Err (Wrong i) → (o ≡ none) × (q ≡ some i)
wrong_found (some j) q i e = absurd (let z : ◌≡◌ {A = ℕ} 0 1 = cc in omega arith)
wrong_found none (some j) i e = (refl, cc)
wrong_found none none i e = absurd (let z : ◌≡◌ {A = ℕ} 0 1 = cc in omega arith)

-- ---- modes and roles

-- a mode is the one or the other
taken_mode : (m : ℕ) (b : Bool) → eqb m (mode_from (not b)) ≡ true → m ≡ 1 - mode_from b
taken_mode m true e = eqb-true m 1 e
taken_mode m false e = eqb-true m 0 e

takes_mode : (b : Bool) → eqb (1 - mode_from b) (mode_from (not b)) ≡ true
takes_mode true = refl
takes_mode false = refl

other_mode : (m : ℕ) (b : Bool) → m < 2 → eqb m (mode_from (not b)) ≡ false → m ≡ mode_from b
other_mode m true h e = omega (arith, eqb-false m 1 e)
other_mode m false h e = omega (arith, eqb-false m 0 e)

not_own : (b : Bool) → mode_from b ≡ 1 - mode_from b → ⊥
not_own true e = omega arith
not_own false e = omega arith

-- what an instance takes: its own protocol, with the mode that it does not send
takes_so : (side : Side) (p m : ℕ) (y : Instance) → takes side p m y ≡ true → (p ≡ y.protocol) × (m ≡ 1 - mode_as side y)
takes_so side p m y t =
    let q = both_true (eqb y.protocol p) (eqb m (mode_from (not (initiates side y.role)))) t in
    (sym (eqb-true y.protocol p q.0), taken_mode m (initiates side y.role) q.1)

takes_own : (side : Side) (y : Instance) → takes_as side y y ≡ true
takes_own side y = rw (eq-eqb y.protocol y.protocol refl) (takes_mode (initiates side y.role))

-- a role that is not our side's is the same on both
pub fixed_role : (a b : Side) (r : Role) → sided r ≡ false → initiates a r ≡ initiates b r
fixed_role a b Initiator e = refl
fixed_role a b Responder e = refl
fixed_role a b OfSide e = absurd (true≢false e)

-- one that is our side's is, on one side, like any other
like : (r s : Role) → sided r ≡ true → (side : Side) × (initiates side s ≡ initiates side r)
like Initiator s e = absurd (false≢true e)
like Responder s e = absurd (false≢true e)
like OfSide Initiator e = (Dialler, refl)
like OfSide Responder e = (Accepter, refl)
like OfSide OfSide e = (Dialler, refl)

-- of two that talk, each takes the mode that the other sends
meets : (a b : Bool) → beq a (not b) ≡ true → mode_from a ≡ 1 - mode_from b
meets true true e = absurd (false≢true e)
meets true false e = refl
meets false true e = refl
meets false false e = absurd (false≢true e)

turned : (a b : Bool) → beq a (not b) ≡ beq b (not a)
turned true true = refl
turned true false = refl
turned false true = refl
turned false false = refl

module _ (r s : Role) (e : opposite r s ≡ true) where
  abbrev facing : Side → Bool
  facing side = beq (initiates side r) (not (initiates (other side) s))

  abbrev halves : (facing Dialler ≡ true) × (facing Accepter ≡ true)
  halves = both_true (facing Dialler) (facing Accepter) e

  opposite_modes : (side : Side)
      → (mode_from (initiates side r) ≡ 1 - mode_from (initiates (other side) s)) × (mode_from (initiates (other side) r) ≡ 1 - mode_from (initiates side s))
  opposite_modes Dialler = (meets (initiates Dialler r) (initiates Accepter s) halves.0, meets (initiates Accepter r) (initiates Dialler s) halves.1)
  opposite_modes Accepter = (meets (initiates Accepter r) (initiates Dialler s) halves.1, meets (initiates Dialler r) (initiates Accepter s) halves.0)

  opposite_back : opposite s r ≡ true
  opposite_back = rw (turned (initiates Dialler s) (initiates Accepter r), halves.1, turned (initiates Accepter s) (initiates Dialler r), halves.0)

module _ (x y : Instance) (e : talks_with x y ≡ true) where
  abbrev said : (eqb y.protocol x.protocol ≡ true) × (opposite x.role y.role ≡ true)
  said = both_true (eqb y.protocol x.protocol) (opposite x.role y.role) e

  same_protocol : x.protocol ≡ y.protocol
  same_protocol = sym (eqb-true y.protocol x.protocol said.0)

  talks_back : talks_with y x ≡ true
  talks_back = rw (eq-eqb x.protocol y.protocol same_protocol, opposite_back x.role y.role said.1)

-- ---- in any list

module _ (xs : List Instance) (side : Side) (p m : ℕ) where
  abbrev x : ℕ → Instance
  x i = instance_in xs i

  -- an instance that has the number, and one that takes the segment
  abbrev speaks : Instance → Bool
  speaks y = eqb y.protocol p

  abbrev hears : Instance → Bool
  hears = takes side p m

  -- a segment goes to i only where i takes it
  pub only : (i : ℕ) → route_in xs side p m ≡ Ok i → (p ≡ (x i).protocol) × (m ≡ 1 - mode_as side (x i))
  only i e = takes_so side p m (x i) (find_at hears nobody xs i (found (find hears 0 xs) (find speaks 0 xs) i e)).1

  -- a route leads to an instance, if to any
  pub to_low : (i : ℕ) → route_in xs side p m ≡ Ok i → i < length xs
  to_low i e = (find_at hears nobody xs i (found (find hears 0 xs) (find speaks 0 xs) i e)).0

  pub wrong_low : (i : ℕ) → route_in xs side p m ≡ Err (Wrong i) → i < length xs
  wrong_low i e = (find_at speaks nobody xs i (wrong_found (find hears 0 xs) (find speaks 0 xs) i e).1).0

  -- an unknown number is that of no instance
  abbrev Strange : Type 0
  Strange = (i : ℕ) → i < length xs → p ≡ (x i).protocol → ⊥

  strange : route_in xs side p m ≡ Err Unknown → Strange
  strange e i h q =
      let n : find speaks 0 xs ≡ none = known_not (find hears 0 xs) (find speaks 0 xs) e in
      eqb-false (x i).protocol p (find_none_all speaks nobody xs 0 n i h) (sym q)

  nowhere : Strange → route_in xs side p m ≡ Err Unknown
  nowhere h =
      let no : (j : ℕ) → j < length xs → eqb (x j).protocol p ≡ false = λ j l. ne_eqb (x j).protocol p (λ e. h j l (sym e)) in
      rw (find_none hears nobody xs 0 (λ j l. rw (no j l)), find_none speaks nobody xs 0 no)

  pub unknown : (route_in xs side p m ≡ Err Unknown) ↔ Strange
  unknown = (strange, nowhere)

  -- a segment is wrong at i where i has its number, and nobody takes it
  wrong_at : (i : ℕ) → m < 2 → route_in xs side p m ≡ Err (Wrong i) → (i < length xs) × (p ≡ (x i).protocol) × (m ≡ mode_as side (x i))
  wrong_at i two e =
      let (nobody-takes, has) = wrong_found (find hears 0 xs) (find speaks 0 xs) i e in
      let (l, t) = find_at speaks nobody xs i has in
      let mode : eqb m (mode_from (not (initiates side (x i).role))) ≡ false = rw t at (find_none_all hears nobody xs 0 nobody-takes i l) in
      (l, sym (eqb-true (x i).protocol p t), other_mode m (initiates side (x i).role) two mode)

-- ---- in a list that is well formed

all_three : (k l n : ℕ) → T (eqb k 1 && eqb l 1 && eqb n 1) → (k ≡ 1) × (l ≡ 1) × (n ≡ 1)
all_three k l n t =
    let two = eqb k 1 && eqb l 1 in
    let u : T two = and_left two (eqb n 1) t in
    (eqb→eq k 1 (and_left (eqb k 1) (eqb l 1) u), eqb→eq l 1 (and_right (eqb k 1) (eqb l 1) u), eqb→eq n 1 (and_right two (eqb n 1) t))

module _ (xs : List Instance) (ok : well_formed xs ≡ true) where
  abbrev y : ℕ → Instance
  y i = instance_in xs i

  -- each alone takes its segments, and has one that it talks with
  abbrev taking : Side → ℕ → ℕ
  taking side i = passing (takes_as side (y i)) xs

  formed : (i : ℕ) → i < length xs → (taking Dialler i ≡ 1) × (taking Accepter i ≡ 1) × (passing (talks_with (y i)) xs ≡ 1)
  unfolding well_formed
  formed i h =
      all_three (taking Dialler i) (taking Accepter i) (passing (talks_with (y i)) xs)
      (below_at (λ j. formed_in xs (y j)) (length xs) (so (well_formed xs) ok) i h)

  taken_once : (side : Side) (i : ℕ) → i < length xs → taking side i ≡ 1
  taken_once Dialler i h = (formed i h).0
  taken_once Accepter i h = (formed i h).1

  reached : (side : Side) (i : ℕ) → i < length xs → route_in xs side (y i).protocol (1 - mode_as side (y i)) ≡ Ok i
  reached side i h = rw (find_one (takes_as side (y i)) nobody xs (taken_once side i h) i h (takes_own side (y i)))

  -- the one that i talks with
  partner : (i : ℕ) → i < length xs → (pair_in xs i < length xs) × (talks_with (y i) (y (pair_in xs i)) ≡ true)
  partner i h =
      let (j, l, t) = some_one (talks_with (y i)) nobody xs (formed i h).2 in
      let e : pair_in xs i ≡ j = ap (λ (o : Option ℕ). Option.get_or o 0) (find_one (talks_with (y i)) nobody xs (formed i h).2 j l t) in
      rw e (l, t)

  arrives : (side : Side) (i : ℕ) → i < length xs → route_in xs (other side) (y i).protocol (mode_as side (y i)) ≡ Ok (pair_in xs i)
  arrives side i h =
      let j = pair_in xs i in
      let (l, t) = partner i h in
      let modes = opposite_modes (y i).role (y j).role (said (y i) (y j) t).1 side in
      ap₂ (route_in xs (other side)) (same_protocol (y i) (y j) t) modes.0 ∙ reached (other side) j l

  paired : (i : ℕ) → i < length xs → pair_in xs (pair_in xs i) ≡ i
  paired i h =
      let j = pair_in xs i in
      let (l, t) = partner i h in
      ap (λ (o : Option ℕ). Option.get_or o 0) (find_one (talks_with (y j)) nobody xs (formed j l).2 i h (talks_back (y i) (y j) t))

  -- where our role is our side's, no other instance has the number
  alone : (i j : ℕ) → i < length xs → j < length xs → sided (y i).role ≡ true → (y j).protocol ≡ (y i).protocol → j ≡ i
  alone i j h l s e =
      let (side, alike) = like (y i).role (y j).role s in
      let t : takes_as side (y i) (y j) ≡ true = rw (eq-eqb (y j).protocol (y i).protocol e, alike) (takes_mode (initiates side (y i).role)) in
      one_place (takes_as side (y i)) nobody xs (taken_once side i h) j i l h t (takes_own side (y i))

  -- so nobody takes our own mode there, and it is wrong
  none_takes : (side : Side) (i j : ℕ) → i < length xs → j < length xs → sided (y i).role ≡ true → takes side (y i).protocol (mode_as side (y i)) (y j) ≡ false
  none_takes side i j h l s =
      by_test (takes side (y i).protocol (mode_as side (y i)) (y j))
      (λ t.
      let (e, q) = takes_so side (y i).protocol (mode_as side (y i)) (y j) t in
      absurd (not_own (initiates side (y i).role) (q ∙ ap (λ (k : ℕ). 1 - mode_as side (y k)) (alone i j h l s (sym e)))))
      (λ t. t)

  own_wrong : (side : Side) (i : ℕ) → i < length xs → sided (y i).role ≡ true → route_in xs side (y i).protocol (mode_as side (y i)) ≡ Err (Wrong i)
  own_wrong side i h s =
      let p = (y i).protocol in
      let none-hears = find_none (takes side p (mode_as side (y i))) nobody xs 0 (λ j l. none_takes side i j h l s) in
      let has = find_only (λ z. eqb z.protocol p) nobody xs i h (eq-eqb p p refl) (λ j l t. alone i j h l s (eqb-true (y j).protocol p t)) in
      rw (none-hears, has)

  -- and nowhere else: the one that i talks with takes it
  wrong_sided : (side : Side) (i : ℕ) → i < length xs → route_in xs side (y i).protocol (mode_as side (y i)) ≡ Err (Wrong i) → sided (y i).role ≡ true
  wrong_sided side i h e =
      by_test (sided (y i).role) (λ s. s)
      (λ s.
      let j = pair_in xs i in
      let (l, t) = partner i h in
      let modes = opposite_modes (y i).role (y j).role (said (y i) (y j) t).1 side in
      let mode : mode_as side (y i) ≡ 1 - mode_as side (y j) = ap mode_from (fixed_role side (other side) (y i).role s) ∙ modes.1 in
      let both : Err (Wrong i) ≡ Ok j = sym e ∙ ap₂ (route_in xs side) (same_protocol (y i) (y j) t) mode ∙ reached side j l in
      absurd (let z : ◌≡◌ {A = ℕ} 0 1 = cc in omega arith))

  wrong : (side : Side) (p m i : ℕ) → m < 2
      → (route_in xs side p m ≡ Err (Wrong i)) ↔ ((i < length xs) × (sided (y i).role ≡ true) × (p ≡ (y i).protocol) × (m ≡ mode_as side (y i)))
  wrong side p m i two = (
    λ e. let (h, ep, em) = wrong_at xs side p m i two e in (h, wrong_sided side i h (rw (ep, em) at e), ep, em),
    λ (h, s, ep, em). rw (ep, em) (own_wrong side i h s),
  )

-- T5, in any bundle
pub any_bundle : AnyBundle
any_bundle xs ok side =
    record {
      reached = reached xs ok side;
      only = only xs side;
      unknown = unknown xs side;
      wrong = wrong xs ok side;
      arrives = arrives xs ok side;
      paired = paired xs ok;
    }
