-- T5, the route (document 01, "Segments"; document 02, K1): stated of any list of instances that is well formed, as each bundle is.
use Rattle.std.specs.Prelude.{ℕ, suc, ◌<◌, ◌-◌, ◌≡◌, Bool, true, cond, ◌&&◌, List, [], ◌∷◌, ◌↔◌, eqb, length, Ok, Err}
use Rattle.base.specs.Below.{all_below}
use Rattle.wire.specs.declared.instances.Side.{Side}
use Rattle.wire.specs.declared.instances.Side.TheVariants.{Dialler, Accepter}
use Rattle.wire.specs.declared.instances.Party.{Party}
use Rattle.wire.specs.declared.instances.RouteError.TheVariants.{Unknown, Wrong}
use Rattle.wire.specs.Instances.{Instance, Route, sided, bundle_of, instances, instance_in, mode_as, takes, route_in, route_of, other}
use Rattle.wire.specs.Besides.Instances.{other_of, talks_with, pair_in, pair_of}

-- ---- a list of instances that is well formed

-- how many elements of a list pass the test
unfoldable pub passing : {A : Type 0} → (A → Bool) → List A → ℕ
passing f [] = 0
passing f (x ∷ xs) = let n = passing f xs in cond (f x) (suc n) n

-- y takes the segments that x takes, on this side
abbrev pub takes_as : Side → Instance → Instance → Bool
takes_as side x y = takes side x.protocol (1 - mode_as side x) y

-- Protocol number and role name it once: on either side it alone takes its segments. And it talks with just one.
abbrev pub formed_in : List Instance → Instance → Bool
formed_in xs x = eqb (passing (takes_as Dialler x) xs) 1 && eqb (passing (takes_as Accepter x) xs) 1 && eqb (passing (talks_with x) xs) 1

unfoldable pub well_formed : List Instance → Bool
well_formed xs = all_below (λ i. formed_in xs (instance_in xs i)) (length xs)

-- ---- the route

-- In a list of n instances, seen from our side: `route` is our side's, `there` the other side's, and `pair` says who talks with whom.
-- Every instance is reached by one protocol number and one mode, those that its other end sends with; a number is unknown if and only if no
-- instance has it; only a segment with the mode of our own side is wrong, for a protocol in which our role is our side's (node to node,
-- Handshake alone); and what our side sends as i arrives at the other side's instance that i talks with.
module _ (xs : List Instance) (side : Side) (n : ℕ) (route there : ℕ → ℕ → Route) (pair : ℕ → ℕ) where
  abbrev x : ℕ → Instance
  x i = instance_in xs i

  abbrev mode : ℕ → ℕ
  mode i = mode_as side (x i)

  pub record Chooses : Type 0 where
    pub reached : (i : ℕ) → i < n → route (x i).protocol (1 - mode i) ≡ Ok i
    pub only : (p m i : ℕ) → route p m ≡ Ok i → (p ≡ (x i).protocol) × (m ≡ 1 - mode i)
    pub unknown : (p m : ℕ) → (route p m ≡ Err Unknown) ↔ ((i : ℕ) → i < n → p ≡ (x i).protocol → ⊥)
    pub wrong : (p m i : ℕ) → m < 2
        → (route p m ≡ Err (Wrong i)) ↔ ((i < n) × (sided (x i).role ≡ true) × (p ≡ (x i).protocol) × (m ≡ mode i))
    pub arrives : (i : ℕ) → i < n → there (x i).protocol (mode i) ≡ Ok (pair i)
    pub paired : (i : ℕ) → i < n → pair (pair i) ≡ i

-- so in any list of instances that is well formed
abbrev pub AnyBundle : Type 0
AnyBundle =
    (xs : List Instance) → well_formed xs ≡ true → (side : Side) → Chooses xs side (length xs) (route_in xs side) (route_in xs (other side)) (pair_in xs)

-- and so in the bundle of a party
abbrev pub OneWay : Party → Type 0
OneWay us = let b = us.bundle in Chooses (bundle_of b) us.side (instances b) (route_of us) (route_of (other_of us)) (pair_of b)
