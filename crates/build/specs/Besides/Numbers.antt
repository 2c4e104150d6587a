-- Which number build answers, exactly when (document 01, "Numbers and their order"; document 02, K1), what a refusal leaves, and what is built, as
-- statements.
use Rattle.std.specs.Prelude.{ℕ, ◌^◌, ◌<◌, ◌≤◌, ◌≡◌, Bool, true, false, List, ◌++◌, ◌↔◌, length, take, drop, Some, None}
use Rattle.base.specs.Numbers.{Bytes}
use Rattle.wire.specs.Instances.{known, instances}
use Rattle.rows.specs.declared.Protocol.{Protocol}
use Rattle.rows.specs.Spoken.{speaks}
use Rattle.elements.specs.Besides.Matching.{Value}
use Rattle.messages.specs.Besides.Matching.{Matches}
use Rattle.build.specs.declared.Built.{Built}
use Rattle.build.specs.Building.{told, given, bytes_of, build_of}
use Rattle.build.specs.Besides.Theorem.{numbers_of, runs_of, OwnLeast, Has, NoLongMap}

-- T2: when each number is answered, in document 01's order, an unknown bundle first (K1). A bundle that has an instance is known.
pub data When (bundle i kind : ℕ) (asked : Bool) (ns : List ℕ) (runs : ℕ) (first second buf : List ℕ) : ℕ → Type 0 where
  unknown_bundle : known bundle ≡ false → When bundle i kind asked ns runs first second buf 23
  no_instance : known bundle ≡ true → instances bundle ≤ i → When bundle i kind asked ns runs first second buf 10
  -- kind or parts make no message
  makes_none : i < instances bundle → bytes_of (speaks bundle i) kind asked ns runs first second ≡ None → When bundle i kind asked ns runs first second buf 15
  no_room : {bs : List ℕ} → i < instances bundle → bytes_of (speaks bundle i) kind asked ns runs first second ≡ Some bs → length buf < length bs
      → When bundle i kind asked ns runs first second buf 18
  done : {bs : List ℕ} → i < instances bundle → bytes_of (speaks bundle i) kind asked ns runs first second ≡ Some bs → length bs ≤ length buf
      → When bundle i kind asked ns runs first second buf 0

abbrev pub Exactly : Type 0
Exactly = (bundle i kind : ℕ) (asked : Bool) (ns : List ℕ) (runs : ℕ) (first second buf : List ℕ) (n : ℕ)
    → ((build_of bundle i kind asked ns runs first second buf).answer.number ≡ n) ↔ When bundle i kind asked ns runs first second buf n

-- T3: with any number but 0, the buffer is as it was
abbrev pub Untouched : Type 0
Untouched =
    (bundle i kind : ℕ) (asked : Bool) (ns : List ℕ) (runs : ℕ) (first second buf : List ℕ) (b : Built) (after : List ℕ)
    → told b after ≡ build_of bundle i kind asked ns runs first second buf → (b.number ≡ 0 → ⊥) → (b.len ≡ 0) × (after ≡ buf)

-- with 0, the message stands at the buffer's front, and the rest of the buffer is as it was
abbrev pub Stands : Type 0
Stands =
    (bundle i kind : ℕ) (asked : Bool) (ns : List ℕ) (runs : ℕ) (first second buf : List ℕ) (b : Built) (after : List ℕ)
    → told b after ≡ build_of bundle i kind asked ns runs first second buf → b.number ≡ 0
    → (bs : List ℕ) × (bytes_of (speaks bundle i) kind asked ns runs first second ≡ Some bs) × (b.len ≡ length bs) × (after ≡ bs ++ drop (length bs) buf)

-- T9 of the operation: what is then at the front is a message of this kind that says these numbers and has these runs at its
-- places, with own heads as build writes them. Lengths of slices are numbers of 64 bits.
abbrev pub ReadsBack : Type 0
ReadsBack =
    (bundle i kind : ℕ) (asked : Bool) (ns : List ℕ) (runs : ℕ) (first second buf : List ℕ) (b : Built) (after : List ℕ)
    → length first < 2 ^ 64 → length second < 2 ^ 64
    → told b after ≡ build_of bundle i kind asked ns runs first second buf → b.number ≡ 0
    → (xs : List Value) × (m : Matches (speaks bundle i) (take b.len after) kind xs) × (numbers_of xs ≡ ns)
    × (given runs first second ≡ Some (runs_of (take b.len after) xs)) × OwnLeast asked m

-- The other way: the bytes at a message's places can be given as runs, since no form has more than two of them,
abbrev pub Givable : Type 0
Givable =
    (p : Protocol) (bs : List ℕ) (kind : ℕ) (xs : List Value) → Matches p bs kind xs
    → (runs : ℕ) × (first : List ℕ) × (second : List ℕ) × (given runs first second ≡ Some (runs_of bs xs))

-- and build of these and of the message's own kind and numbers, asked for what its list has, answers 0 in any buffer of at least its length,
-- but for a long map of indefinite length. What it makes is no longer than the message, and equal to it exactly if the message's own heads are
-- as build writes them. (Of such a map, and of another wish, `Theorem.Rebuilds` says what is made.)
abbrev pub Rebuilds : Type 0
Rebuilds =
    (bundle i kind : ℕ) (asked : Bool) (bs : List ℕ) (xs : List Value) (runs : ℕ) (first second buf : List ℕ) (b : Built) (after : List ℕ)
    → i < instances bundle → Bytes bs → length bs < 2 ^ 64 → (m : Matches (speaks bundle i) bs kind xs) → Has asked m → NoLongMap m → given runs first second ≡ Some (runs_of bs xs)
    → length bs ≤ length buf → told b after ≡ build_of bundle i kind asked (numbers_of xs) runs first second buf
    → (b.number ≡ 0) × (b.len ≤ length bs) × ((take b.len after ≡ bs) ↔ OwnLeast asked m)

-- T2 of 15, told without what build makes: the runs are slices of bytes, and no bytes are a message of this kind that says
-- these numbers and has these runs at its places
abbrev pub NoMessage : Type 0
NoMessage =
    (bundle i kind : ℕ) (asked : Bool) (ns : List ℕ) (runs : ℕ) (first second buf : List ℕ)
    → Bytes first → Bytes second → length first < 2 ^ 64 → length second < 2 ^ 64
    → ((build_of bundle i kind asked ns runs first second buf).answer.number ≡ 15)
    ↔ ((i < instances bundle)
    × ((bs : List ℕ) (xs : List Value) → Bytes bs → Matches (speaks bundle i) bs kind xs → numbers_of xs ≡ ns
    → given runs first second ≡ Some (runs_of bs xs) → ⊥))
