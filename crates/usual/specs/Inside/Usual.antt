-- What a usual head does to a walk, whatever bytes come after those that are there.
use Rattle.std.specs.Prelude.{Option, Some, None, ℕ, ◌+◌, ◌-◌, ◌^◌, ◌≤◌, ◌<◌, ◌%◌, List, cond, ◌≡◌, ltb, eqb, length, get_or}
use Rattle.head.specs.Initial.{initial}
use Rattle.head.specs.declared.Initial.TheVariants.{Break}
use Rattle.item.specs.Grammar.{Frame, nesting}
use Rattle.item.specs.Verdict.{push}
use Rattle.moves.specs.Inside.Levels.{frame_of}
use Rattle.moves.specs.Inside.Frames.{kept, Wants}
use Rattle.moves.specs.Inside.Moves.{Goes}
use Rattle.usual.specs.declared.Quick.{Quick}
use Rattle.usual.specs.declared.Quick.TheVariants.{Past, Asks, Opens, Ends}

-- How many bytes follow an initial byte, by its additional information.
abbrev pub following : ℕ → ℕ
following i = cond (eqb i 24) 1 (cond (eqb i 25) 2 (cond (eqb i 26) 4 (cond (eqb i 27) 8 0)))

-- An argument in the additional information or in one byte.
abbrev pub small_of : ℕ → ℕ → ℕ
small_of i x = cond (ltb i 24) i x

-- A usual head, at any frame of items within d levels, is passed.
pub record Passes (xs : List ℕ) (at d p : ℕ) : Type 0 where
  pub on : at < p
  pub inside : p ≤ length xs
  pub same : (f : Frame) → Wants f → Goes xs at p (push (nesting - d) f) (push (nesting - d) (kept f))

-- It opens a level.
pub record Enters (xs : List ℕ) (at d p k c : ℕ) : Type 0 where
  pub on : at < p
  pub inside : p ≤ length xs
  pub room : d < nesting
  pub items : k < 4
  pub same : (f : Frame) → Wants f
      → Goes xs at p (push (nesting - d) f) (λ fs. push (nesting - (d + 1)) (frame_of k c) (push (nesting - d) (kept f) fs))

-- It is a break.
pub record Breaks (xs : List ℕ) (at p : ℕ) : Type 0 where
  pub next : p ≡ at + 1
  pub inside : p ≤ length xs
  pub is : initial (get_or xs at 0) ≡ Break

-- What is right to do at a usual head.
abbrev pub Quickly : List ℕ → ℕ → ℕ → Option Quick → Type 0
Quickly xs at d (Some (Past p)) = Passes xs at d p
Quickly xs at d (Some (Asks p c)) = Enters xs at d p 0 c
Quickly xs at d (Some (Opens p k)) = Enters xs at d p k (2 ^ 63)
Quickly xs at d (Some (Ends p)) = Breaks xs at p
Quickly xs at d None = Unit {0}

-- It is right to do r where b is the byte at the place `at`, and eight more follow.
abbrev pub Usually : ℕ → ℕ → ℕ → Option Quick → Type 0
Usually at d b r = (xs : List ℕ) → at + 8 < length xs → b ≡ get_or xs at 0 → Quickly xs at d r

-- It is right to do r where a string begins at the place `at` of n bytes, i is its additional information and x the
-- next byte.
abbrev pub UsualString : ℕ → ℕ → ℕ → ℕ → Option Quick → Type 0
UsualString n at i x r =
    (xs : List ℕ) (d b : ℕ) → length xs ≡ n → b ≡ get_or xs at 0 → x ≡ get_or xs (at + 1) 0 → i ≡ b % 32 → 64 ≤ b → b < 128 → Quickly xs at d r
