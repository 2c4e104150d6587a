-- Instances (document 01, "What the front holds" and "Segments"; document 02, K1).
use Rattle.std.specs.Prelude.{ℕ, suc, Bool, true, false, cond, not, ◌&&◌, List, [], ◌∷◌, ◌++◌, eqb, ltb, leb, length, get_or, Result, Ok, Err}
use Rattle.std.proofs.Math.Option.{Option, none, some}
use Rattle.wire.specs.declared.instances.Side.{Side}
use Rattle.wire.specs.declared.instances.Side.TheVariants.{Dialler, Accepter}
use Rattle.wire.specs.declared.instances.Party.{Party}
use Rattle.wire.specs.declared.instances.Role.{Role}
use Rattle.wire.specs.declared.instances.Role.TheVariants.{Initiator, Responder, OfSide}
use Rattle.wire.specs.declared.instances.RouteError.{RouteError}
use Rattle.wire.specs.declared.instances.RouteError.TheVariants.{Unknown, Wrong}

pub record Instance : Type 0 where
  pub protocol : ℕ
  pub role : Role

-- whether it is the one that our side has
abbrev pub sided : Role → Bool
sided Initiator = false
sided Responder = false
sided OfSide = true

-- our initiator of a protocol, and then our responder
abbrev pub double : ℕ → List Instance
double p = record { protocol = p; role = Initiator } ∷ record { protocol = p; role = Responder } ∷ []

-- the dialler is initiator of a protocol, the accepter responder
abbrev pub single : ℕ → List Instance
single p = record { protocol = p; role = OfSide } ∷ []

-- Node to node. Nine instances: Handshake 0; then for Chain-Sync 2, Block-Fetch 3, TxSubmission 4 and Keep-alive 8 in turn, our initiator and our responder.
abbrev pub node_to_node : List Instance
node_to_node = single 0 ++ (double 2 ++ (double 3 ++ (double 4 ++ double 8)))

-- Node to client. Handshake 0, Chain-Sync 5, Local TxSubmission 6, Local State Query 7. The dialler has only initiators and the accepter only
-- responders, so there are four instances, 0 to 3.
abbrev pub node_to_client : List Instance
node_to_client = single 0 ++ (single 5 ++ (single 6 ++ single 7))

-- A bundle is chosen at open, by its number. An unknown one has no instances.
abbrev pub bundles : List (List Instance)
bundles = node_to_node ∷ node_to_client ∷ []

abbrev pub known : ℕ → Bool
known b = ltb b (length bundles)

unfoldable pub bundle_of : ℕ → List Instance
bundle_of b = get_or bundles b []

unfoldable pub instances : ℕ → ℕ
instances b = length (bundle_of b)

-- as many as the largest bundle has
abbrev pub longest : List (List Instance) → ℕ
longest [] = 0
longest (xs ∷ xss) = let n = longest xss in cond (leb n (length xs)) (length xs) n

abbrev pub most : ℕ
most = longest bundles

-- Handshake's instance
abbrev pub handshake : ℕ
handshake = 0

-- what instance i of a list is
abbrev pub instance_in : List Instance → ℕ → Instance
instance_in xs i = get_or xs i (record { protocol = 0; role = Initiator })

-- and of a bundle
abbrev pub at : ℕ → ℕ → Instance
at b i = instance_in (bundle_of b) i

abbrev pub protocol_of : ℕ → ℕ → ℕ
protocol_of b i = (at b i).protocol

abbrev pub role_of : ℕ → ℕ → Role
role_of b i = (at b i).role

-- The dialler is initiator of Handshake and, node to client, of every protocol.
abbrev pub initiates : Side → Role → Bool
initiates side Initiator = true
initiates side Responder = false
initiates Dialler OfSide = true
initiates Accepter OfSide = false

-- Mode 0 comes from an initiator, mode 1 from a responder.
abbrev pub mode_from : Bool → ℕ
mode_from initiates = cond initiates 0 1

-- the mode of what our side sends as an instance
abbrev pub mode_as : Side → Instance → ℕ
mode_as side x = mode_from (initiates side x.role)

-- and of what we send as instance i
abbrev pub mode_of : Party → ℕ → ℕ
mode_of us i = mode_as us.side (at us.bundle i)

-- Mode 0 is for our responder, mode 1 for our initiator.
abbrev pub takes : Side → ℕ → ℕ → Instance → Bool
takes side p m x = eqb x.protocol p && eqb m (mode_from (not (initiates side x.role)))

-- the place, counted from k, of the first element that passes the test
unfoldable pub find : {A : Type 0} → (A → Bool) → ℕ → List A → Option ℕ
find f k [] = none
find f k (x ∷ xs) = cond (f x) (some k) (find f (suc k) xs)

-- where a segment goes: to an instance, or why to none
abbrev pub Route : Type 0
Route = Result ℕ RouteError

abbrev pub or_else : Option ℕ → (ℕ → Route) → Route → Route
or_else (some i) found other = found i
or_else none found other = other

-- Protocol number and mode together choose the instance. A number that only an instance for the other mode has is wrong there.
abbrev pub route_in : List Instance → Side → ℕ → ℕ → Route
route_in xs side p m = or_else (find (takes side p m) 0 xs) Ok (or_else (find (λ x. eqb x.protocol p) 0 xs) (λ i. Err (Wrong i)) (Err Unknown))

unfoldable pub route_of : Party → ℕ → ℕ → Route
route_of us p m = route_in (bundle_of us.bundle) us.side p m

-- the other side
abbrev pub other : Side → Side
other Dialler = Accepter
other Accepter = Dialler
