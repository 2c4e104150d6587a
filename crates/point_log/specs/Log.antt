-- The point log (document 02, K10): "a lent run of point records with strictly rising slots, searched for the last at or below a slot", "with the origin
-- always understood before the first record". `run` is the run, of which the first n records are in use. "Refusals, in this order: 23 for a count above
-- the run or slots not rising; 29 not a point or tip; 30 the origin added, or a slot not above the last; 31 rolled back to a point that isn't logged;
-- 32 log full."
use Rattle.std.specs.Prelude.{ℕ, zero, suc, ◌+◌, Bool, true, cond, ◌&&◌, List, map, eqb, ltb, leb, length, get_or, set, Result, Ok, Err}
use Rattle.points.specs.declared.Hash.{Hash}
use Rattle.points.specs.declared.Point.{Point}
use Rattle.points.specs.declared.Place.{Place}
use Rattle.points.specs.declared.Place.TheVariants.{Origin, Block}
use Rattle.points.specs.declared.NotAPoint as points
use Rattle.points.specs.Points.{point_of}
use Rattle.point_log.specs.declared.Refusal.{Refusal}
use Rattle.point_log.specs.declared.Refusal.TheVariants.{OutOfRange, NotAPoint, NotAbove, NotLogged, Full}
use Rattle.point_log.specs.declared.Found.{Found}

-- ---- refusals

-- the number of a refusal
abbrev pub number_of : Refusal → ℕ
number_of OutOfRange = 23
number_of NotAPoint = 29
number_of NotAbove = 30
number_of NotLogged = 31
number_of Full = 32

-- ---- records

-- what stands where there is no record
abbrev pub empty : Point
empty = record { slot = 0; hash = record { a = 0; b = 0; c = 0; d = 0 } }

abbrev pub slots_of : List Point → List ℕ
slots_of run = map (λ p. p.slot) run

-- the same point: slot and hash
abbrev pub same_hash : Hash → Hash → Bool
same_hash g h = eqb g.a h.a && (eqb g.b h.b && (eqb g.c h.c && eqb g.d h.d))

abbrev pub same : Point → Point → Bool
same p q = eqb p.slot q.slot && same_hash p.hash q.hash

-- ---- in range: the count is not above the run, and the slots in use rise strictly

unfoldable pub rises_to : List ℕ → ℕ → Bool
rises_to slots zero = true
rises_to slots (suc zero) = true
rises_to slots (suc (suc k)) = rises_to slots (suc k) && ltb (get_or slots k 0) (get_or slots (suc k) 0)

abbrev pub in_range : List Point → ℕ → Bool
in_range run n = leb n (length run) && rises_to (slots_of run) n

-- ---- find

-- how many records there are up to the last at or below a slot: 0 where there is none
unfoldable pub upto_of : List ℕ → ℕ → ℕ → ℕ
upto_of slots zero slot = 0
upto_of slots (suc n) slot = cond (leb (get_or slots n 0) slot) (suc n) (upto_of slots n slot)

-- the last of k records: the origin before the first
abbrev pub place_at : List Point → ℕ → Place
place_at run zero = Origin
place_at run (suc i) = Block (get_or run i empty)

abbrev pub at : List Point → ℕ → Found
at run k = record { upto = k; place = place_at run k }

unfoldable pub find_of : List Point → ℕ → ℕ → Result Found Refusal
find_of run n slot = cond (in_range run n) (Ok (at run (upto_of (slots_of run) n slot))) (Err OutOfRange)

-- ---- back

-- how many records there are up to a point: 0 where it isn't logged
unfoldable pub count_to : List Point → ℕ → Point → ℕ
count_to run zero p = 0
count_to run (suc n) p = cond (same (get_or run n empty) p) (suc n) (count_to run n p)

-- cut back to the origin nothing is left; to a point, what there is up to it
abbrev pub back_to : List Point → ℕ → Place → Result ℕ Refusal
back_to run n Origin = Ok 0
back_to run n (Block p) = cond (eqb (count_to run n p) 0) (Err NotLogged) (Ok (count_to run n p))

abbrev pub back_by : List Point → ℕ → Result Place points.NotAPoint → Result ℕ Refusal
back_by run n (Ok place) = back_to run n place
back_by run n (Err e) = Err NotAPoint

unfoldable pub back_of : List Point → ℕ → List ℕ → Result ℕ Refusal
back_of run n item = cond (in_range run n) (back_by run n (point_of item)) (Err OutOfRange)

-- ---- add

-- whether a slot is above the last
unfoldable pub above : List ℕ → ℕ → ℕ → Bool
above slots zero slot = true
above slots (suc k) slot = ltb (get_or slots k 0) slot

-- a point that can be put behind the last
abbrev pub fit_to : List Point → ℕ → Place → Result Point Refusal
fit_to run n Origin = Err NotAbove
fit_to run n (Block p) = cond (above (slots_of run) n p.slot) (cond (ltb n (length run)) (Ok p) (Err Full)) (Err NotAbove)

abbrev pub fit_by : List Point → ℕ → Result Place points.NotAPoint → Result Point Refusal
fit_by run n (Ok place) = fit_to run n place
fit_by run n (Err e) = Err NotAPoint

unfoldable pub fit_of : List Point → ℕ → List ℕ → Result Point Refusal
fit_of run n item = cond (in_range run n) (fit_by run n (point_of item)) (Err OutOfRange)

-- an answer, and what the run then holds
pub record Told : Type 0 where
  pub answer : Result ℕ Refusal
  pub run : List Point

abbrev pub told : Result ℕ Refusal → List Point → Told
told d run = record { answer = d; run = run }

-- it is put there
abbrev pub put_of : List Point → ℕ → Result Point Refusal → Told
put_of run n (Ok p) = told (Ok (n + 1)) (set run n p)
put_of run n (Err e) = told (Err e) run

unfoldable pub add_of : List Point → ℕ → List ℕ → Told
add_of run n item = put_of run n (fit_of run n item)
