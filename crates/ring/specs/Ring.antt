-- A store and its areas. Each area is a ring: "Byte n of an instance's stream, counted from 0 at open, is kept in
-- its area at place n mod capacity."
use Rattle.std.specs.Prelude.{ℕ, zero, suc, ◌+◌, ◌%◌, List, [], ◌∷◌, get_or, set, take, drop}

-- areas lie in their order, one behind the other: where area i begins; a store of n areas is as long as they are together, up to where the next would begin
unfoldable pub base_of : List ℕ → ℕ → ℕ
base_of caps zero = 0
base_of [] (suc i) = 0
base_of (cap ∷ caps) (suc i) = cap + base_of caps i

-- where byte n of the stream is kept, in a store whose area of cap bytes begins at base
abbrev pub place : ℕ → ℕ → ℕ → ℕ
place base cap n = base + n % cap

-- the k bytes of the stream from byte n on
unfoldable pub stream : List ℕ → ℕ → ℕ → ℕ → ℕ → List ℕ
stream store base cap n zero = []
stream store base cap n (suc k) = get_or store (place base cap n) 0 ∷ stream store base cap (suc n) k

-- the store after the bytes xs were written, one after the other, as byte n of the stream and those that follow it
unfoldable pub laid : List ℕ → ℕ → ℕ → ℕ → List ℕ → List ℕ
laid store base cap n [] = store
laid store base cap n (x ∷ xs) = laid (set store (place base cap n) x) base cap (suc n) xs

-- k bytes of xs from place i on
abbrev pub run : List ℕ → ℕ → ℕ → List ℕ
run xs i k = take k (drop i xs)
