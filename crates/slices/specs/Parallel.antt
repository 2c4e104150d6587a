-- The log's records in parallel slices: a slot for each, and four words of hash. What each call does is what it does to the records; slices whose lengths
-- do not match are out of range.
use Rattle.std.specs.Prelude.{ℕ, ◌*◌, Bool, cond, List, [], ◌∷◌, ◌++◌, eqb, length, get_or, drop, Result, Err}
use Rattle.points.specs.declared.Hash.{Hash}
use Rattle.points.specs.declared.Point.{Point}
use Rattle.point_log.specs.declared.Refusal.{Refusal}
use Rattle.point_log.specs.declared.Refusal.TheVariants.{OutOfRange}
use Rattle.point_log.specs.declared.Found.{Found}
use Rattle.point_log.specs.Log.{slots_of, find_of, back_of, Told, add_of}

abbrev pub match : List ℕ → List ℕ → Bool
match slots hashes = eqb (length hashes) (length slots * 4)

-- a hash's words, and the hash of which the first four are
abbrev pub words : Hash → List ℕ
words h = h.a ∷ h.b ∷ h.c ∷ h.d ∷ []

abbrev pub hash_in : List ℕ → Hash
hash_in hashes = record { a = get_or hashes 0 0; b = get_or hashes 1 0; c = get_or hashes 2 0; d = get_or hashes 3 0 }

-- the records
unfoldable pub records : List ℕ → List ℕ → List Point
records [] hashes = []
records (s ∷ slots) hashes = record { slot = s; hash = hash_in hashes } ∷ records slots (drop 4 hashes)

-- their words of hash; `slots_of` has their slots
unfoldable pub hashes_of : List Point → List ℕ
hashes_of [] = []
hashes_of (p ∷ run) = words p.hash ++ hashes_of run

unfoldable pub find_in : List ℕ → List ℕ → ℕ → ℕ → Result Found Refusal
find_in slots hashes n slot = cond (match slots hashes) (find_of (records slots hashes) n slot) (Err OutOfRange)

unfoldable pub back_in : List ℕ → List ℕ → ℕ → List ℕ → Result ℕ Refusal
back_in slots hashes n item = cond (match slots hashes) (back_of (records slots hashes) n item) (Err OutOfRange)

-- an answer, and what the slices then hold
pub record ToldIn : Type 0 where
  pub answer : Result ℕ Refusal
  pub slots : List ℕ
  pub hashes : List ℕ

abbrev pub told_in : Result ℕ Refusal → List ℕ → List ℕ → ToldIn
told_in d slots hashes = record { answer = d; slots = slots; hashes = hashes }

abbrev pub apart : Told → ToldIn
apart t = told_in t.answer (slots_of t.run) (hashes_of t.run)

unfoldable pub add_in : List ℕ → List ℕ → ℕ → List ℕ → ToldIn
add_in slots hashes n item = cond (match slots hashes) (apart (add_of (records slots hashes) n item)) (told_in (Err OutOfRange) slots hashes)
