-- Laws of bundles: what holds of each by a computed test, what the tables of the code say of them, and their routes.
-- Assumes nothing.
use mathlib.Core.Path.{◌≡◌, refl, sym, ap, ◌∙◌}
use mathlib.Core.Bool.{Bool, true, false, true≢false, ◌&&◌}
use mathlib.Core.List.{List, [], ◌∷◌, map}
use Prim.Native.Nat.{ℕ, zero, suc, ◌+◌, ◌-◌, ◌*◌, ◌/◌, ◌%◌, ◌^◌, ◌<◌, ◌≤◌}
use native.Mathlib.Nat.{add-zero, suc-mul, mul-le-mul_right, mul-add-div_right, mul-add-mod_self_right, div-eq_of_lt, mod-eq_of_lt}
use native.Mathlib.Omega.{arith}
use lib.Dec.{T, eqb, ltb, leb, ltb→lt, leb→le}
use lib.ListN.{length, get_or, get_or-eq_default, length-map}
use borrow.Author.Tests.{eqb-true, eqb-false, ltb-true, ltb-false}
use Rattle.base.specs.Below.{all_below}
use Rattle.base.proofs.Conds.{by_test, cond_cases, is, and_left, and_right}
use Rattle.base.proofs.ListLaws.{get_or-map}
use Rattle.base.proofs.Table.{every, at}
use Rattle.wire.specs.declared.instances.Side.TheVariants.{Dialler}
use Rattle.wire.specs.declared.instances.Party.{Party}
use Rattle.wire.specs.declared.instances.RouteError.TheVariants.{Unknown, Wrong}
use Rattle.wire.specs.declared.instances.Role.{Role}
use Rattle.wire.specs.declared.instances.Role.TheVariants.{Initiator}
use Rattle.std.specs.Prelude.{Option, Some, None, Ok, Err}
use Rattle.wire.specs.Instances.{Instance, Route, sided, bundles, known, bundle_of, instances, most, role_of, protocol_of, mode_of, mode_from, initiates, route_of}
use Rattle.wire.specs.Inside.{Within}
use Rattle.wire.specs.Besides.Instances.{pair_of}
use Rattle.wire.specs.Instances as instances
use Rattle.wire.specs.Besides.Routes.{passing, well_formed, OneWay}
use Rattle.wire.specs.Inside.{numbers, pair, by_mode}
use Rattle.wire.proofs.RouteLaws.{nobody, fixed_role, to_low, wrong_low, any_bundle}

-- ---- the bundles

-- an unknown bundle has no instances
pub unknown_none : (b : ℕ) → length bundles ≤ b → bundle_of b ≡ []
unfolding bundle_of
unknown_none b h = get_or-eq_default bundles [] h

pub none_unknown : (b : ℕ) → length bundles ≤ b → instances b ≡ 0
unfolding instances
none_unknown b h = ap (λ (xs : List Instance). length xs) (unknown_none b h)

-- where there is an instance, the bundle is known
pub known_some : (b i : ℕ) → i < instances b → b < length bundles
unfolding instances
known_some b i h =
    by_test (known b) (λ t. ltb-true b (length bundles) t)
    (λ t. absurd (omega (arith, none_unknown b (ltb-false b (length bundles) t))))

-- a rule of each bundle, and of each instance of each bundle, by one computed test
pub of_bundles : (f : ℕ → List Instance → Bool) → T (every [] f 0 bundles) → (b : ℕ) → b < length bundles → T (f b (bundle_of b))
unfolding bundle_of
of_bundles f t b h = at [] f bundles t b h

abbrev each : (ℕ → ℕ → Instance → Bool) → ℕ → List Instance → Bool
each f b xs = every nobody (f b) 0 xs

pub of_instances : (f : ℕ → ℕ → Instance → Bool) → T (every [] (each f) 0 bundles) → (b i : ℕ) → i < instances b → T (f b i (instances.at b i))
unfolding instances
of_instances f t b i h = at nobody (f b) (bundle_of b) (of_bundles (each f) t b (known_some b i h)) i h

-- no bundle has more instances than `most`, and each has Handshake and one more at the least
few : ℕ → List Instance → Bool
few b xs = leb (length xs) most && leb 2 (length xs)

all_few : T (every [] few 0 bundles)
unfolding few
all_few = tt

pub at_most : (b : ℕ) → instances b ≤ most
unfolding instances few
at_most b =
    by_test (known b)
    (λ t. leb→le (instances b) most (and_left (leb (instances b) most) (leb 2 (instances b)) (of_bundles few all_few b (ltb-true b (length bundles) t))))
    (λ t. omega (arith, none_unknown b (ltb-false b (length bundles) t)))

pub at_least : (b : ℕ) → known b ≡ true → 2 ≤ instances b
unfolding instances few
at_least b t =
    leb→le 2 (instances b) (and_right (leb (instances b) most) (leb 2 (instances b)) (of_bundles few all_few b (ltb-true b (length bundles) t)))

-- ---- T5, the route

-- every bundle is well formed; an unknown one has no instances
all_formed : T (every [] (λ b. well_formed) 0 bundles)
unfolding well_formed all_below passing
all_formed = tt

well_formed_lem : (b : ℕ) → well_formed (bundle_of b) ≡ true
unfolding well_formed all_below
well_formed_lem b =
    by_test (known b) (λ t. is (well_formed (bundle_of b)) (of_bundles (λ b. well_formed) all_formed b (ltb-true b (length bundles) t)))
    (λ t. rw (unknown_none b (ltb-false b (length bundles) t)))

pub one_way : (us : Party) → OneWay us
unfolding route_of pair_of instances
one_way us = any_bundle (bundle_of us.bundle) (well_formed_lem us.bundle) us.side

-- a route leads to an instance, if to any
within_at : (us : Party) (p m : ℕ) (r : Route) → route_of us p m ≡ r → Within us.bundle r
unfolding route_of instances
within_at us p m (Err Unknown) e = tt
within_at us p m (Err (Wrong i)) e = wrong_low (bundle_of us.bundle) us.side p m i e
within_at us p m (Ok i) e = to_low (bundle_of us.bundle) us.side p m i e

pub route_within : (us : Party) (p m : ℕ) → Within us.bundle (route_of us p m)
route_within us p m = within_at us p m (route_of us p m) refl

-- an unknown bundle knows no number
pub no_bundle : (us : Party) (p m : ℕ) → length bundles ≤ us.bundle → Err Unknown ≡ route_of us p m
no_bundle us p m h = sym (((one_way us).unknown p m).1 (λ i l q. omega (arith, none_unknown us.bundle h)))

-- every protocol number of a bundle has a row
numbered : ℕ → ℕ → Instance → Bool
numbered b i x = ltb x.protocol numbers

all_numbered : T (every [] (each numbered) 0 bundles)
unfolding numbered
all_numbered = tt

pub protocol_row : (b i : ℕ) → i < instances b → protocol_of b i < numbers
unfolding numbered
protocol_row b i h = ltb→lt (protocol_of b i) numbers (of_instances numbered all_numbered b i h)

-- a number past the table is unknown
pub past : (us : Party) (p m : ℕ) → numbers ≤ p → Err Unknown ≡ route_of us p m
past us p m h = sym (((one_way us).unknown p m).1 (λ i l q. omega (arith, protocol_row us.bundle i l)))

-- ---- the tables of the code

-- what f says at n places from k on: a table
unfoldable pub table : {A : Type 0} → (ℕ → A) → ℕ → ℕ → List A
table f k zero = []
table f k (suc n) = f k ∷ table f (suc k) n

in_table : {A : Type 0} (f : ℕ → A) (d : A) (k n i : ℕ) → i < n → get_or (table f k n) i d ≡ f (k + i)
unfolding table
in_table f d k zero i h = absurd (omega arith)
in_table f d k (suc n) zero h = ap f (omega arith)
in_table f d k (suc n) (suc i) h = in_table f d (suc k) n i (omega arith) ∙ ap f (omega arith)

-- a table by bundle, w places for each
abbrev pub by_bundle : {A : Type 0} → ℕ → (ℕ → ℕ → A) → List A
by_bundle w f = table (λ k. f (k / w) (k % w)) 0 (length bundles * w)

by_bundle_lem : {A : Type 0} (w : ℕ) (f : ℕ → ℕ → A) (d : A) (b i : ℕ) → b < length bundles → i < w → get_or (by_bundle w f) (b * w + i) d ≡ f b i
by_bundle_lem w f d b i here h =
    let wide : 0 < w = omega arith in
    let k : 0 + (b * w + i) ≡ b * w + i = omega arith in
    let q : (b * w + i) / w ≡ b = mul-add-div_right wide b i ∙ rw (div-eq_of_lt h) (add-zero b) in
    let r : (b * w + i) % w ≡ i = mul-add-mod_self_right b w i ∙ mod-eq_of_lt h in
    let in_all : b * w + i < length bundles * w = omega (arith, mul-le-mul_right w here, suc-mul b w) in
    in_table (λ k. f (k / w) (k % w)) d 0 (length bundles * w) (b * w + i) in_all ∙ rw (k, q, r)

-- a bundle's instances, as a table has them
module _ (b : ℕ) {table : List (ℕ × Role)} (e : table ≡ map pair (bundle_of b)) where
  pub pairs_long : length table ≡ instances b
  unfolding instances
  pairs_long = rw e (simp length-map)

  pub pair_at : (i : ℕ) → i < instances b → get_or table i (0, Initiator) ≡ pair (instances.at b i)
  unfolding instances
  pair_at i h = rw e (get_or-map pair (bundle_of b) i nobody (0, Initiator) h)

-- the instance that a route names, if any
unfoldable pub named : Route → Option ℕ
named (Err Unknown) = None
named (Err (Wrong i)) = Some i
named (Ok i) = Some i

-- our end of a bundle as its dialler, whose routes the table is made of: the accepter's name the same instances
abbrev dialler : ℕ → Party
dialler b = record { bundle = b; side = Dialler }

unfoldable pub entry : ℕ → ℕ → ℕ → Option ℕ
entry b p m = named (route_of (dialler b) p m)

abbrev row : ℕ → ℕ → List (Option ℕ)
row b p = entry b p 0 ∷ entry b p 1 ∷ []

abbrev pub routes : List (List (Option ℕ))
routes = by_bundle numbers row

pub route_right : (b p m : ℕ) → b < length bundles → p < numbers → m < 2 → get_or (get_or routes (b * numbers + p) []) m None ≡ entry b p m
route_right b p zero here low two = ap (λ (r : List (Option ℕ)). get_or r 0 None) (by_bundle_lem numbers row [] b p here low)
route_right b p (suc zero) here low two = ap (λ (r : List (Option ℕ)). get_or r 1 None) (by_bundle_lem numbers row [] b p here low)
route_right b p (suc (suc m)) here low two = absurd (omega arith)

-- ---- the table of routes

pub mode_low : (us : Party) (i : ℕ) → mode_of us i < 2
mode_low us i = cond_cases (λ (m : ℕ). m < 2) (initiates us.side (role_of us.bundle i)) (λ t. omega arith) (λ t. omega arith)

module _ (us : Party) (p m : ℕ) (two : m < 2) where
  abbrev b : ℕ
  b = us.bundle

  -- the mode decides at an instance that has the number, where that takes the segment or our role in it is our side's
  mode_decides : (i : ℕ) → i < instances b → p ≡ protocol_of b i → (sided (role_of b i) ≡ false → m ≡ 1 - mode_of us i) → by_mode us m i ≡ route_of us p m
  unfolding by_mode
  mode_decides i l ep taken =
      let low = mode_low us i in
      cond_cases (λ (r : Route). r ≡ route_of us p m) (eqb m (mode_of us i))
      (λ t.
      let em : m ≡ mode_of us i = eqb-true m (mode_of us i) t in
      let ours = by_test (sided (role_of b i)) (λ s. s) (λ s. absurd (let q = taken s in omega arith)) in
      sym (((one_way us).wrong p m i two).1 (l, ours, ep, em)))
      (λ t. let em : m ≡ 1 - mode_of us i = omega (arith, eqb-false m (mode_of us i) t) in rw (ep, em) (sym ((one_way us).reached i l)))

  -- so the instance that the dialler's route names is that of ours
  abbrev Decided : Option ℕ → Type 0
  Decided e = (e ≡ None → Err Unknown ≡ route_of us p m) × ((i : ℕ) → e ≡ Some i → (i < instances b) × (by_mode us m i ≡ route_of us p m))

  named_decides : (r : Route) → route_of (dialler b) p m ≡ r → Decided (named r)
  unfolding named
  named_decides (Err Unknown) e = (λ q. sym (((one_way us).unknown p m).1 (((one_way (dialler b)).unknown p m).0 e)), λ j n. cc)
  named_decides (Err (Wrong i)) e =
      let (l, s, ep, em) = ((one_way (dialler b)).wrong p m i two).0 e in
      (λ q. cc, λ j n. let same : i ≡ j = cc in rw (← same) (l, mode_decides i l ep (λ f. absurd (true≢false (sym s ∙ f)))))
  named_decides (Ok i) e =
      let l : i < instances b = within_at (dialler b) p m (Ok i) e in
      let (ep, em) = (one_way (dialler b)).only p m i e in
      let taken : sided (role_of b i) ≡ false → m ≡ 1 - mode_of us i =
      λ f. em ∙ ap (λ (t : Bool). 1 - mode_from t) (fixed_role Dialler us.side (role_of b i) f) in
      (λ q. cc, λ j n. let same : i ≡ j = cc in rw (← same) (l, mode_decides i l ep taken))

  -- what the code finds in its table
  pub decided : (here : b < length bundles) (low : p < numbers) → Decided (get_or (get_or routes (b * numbers + p) []) m None)
  unfolding entry
  decided here low = rw (route_right b p m here low two) (named_decides (route_of (dialler b) p m) refl)

-- ---- what a header can hold

pub protocol_low : (b i : ℕ) → i < instances b → protocol_of b i < 2 ^ 15
protocol_low b i h = omega (arith, protocol_row b i h)
