-- What a head does to a walk, whatever bytes come after those that are there.
use Rattle.std.specs.Prelude.{ℕ, ◌+◌, ◌*◌, ◌-◌, ◌≤◌, ◌<◌, List, ◌++◌, true, ◌≡◌, length, get_or, Err}
use Rattle.head.specs.Initial.{initial}
use Rattle.head.specs.declared.Major.{Major}
use Rattle.head.specs.declared.Initial.{Initial}
use Rattle.head.specs.declared.Initial.TheVariants.{Indefinite, Break}
use Rattle.item.specs.declared.NotWhole.TheVariants.{Bad, Incomplete}
use Rattle.item.specs.Grammar.{Frame, Items, Content, content, nesting}
use Rattle.item.specs.Verdict.{Stack, push, Verdict}
use Rattle.moves.specs.declared.Level.{Level}
use Rattle.moves.specs.declared.Move.{Move}
use Rattle.moves.specs.declared.Move.TheVariants.{Stay, Down, Skip, Fault, Lack}
use Rattle.moves.specs.Inside.Levels.{frame_of, tell, Good}
use Rattle.moves.specs.Inside.Frames.{kept, room_for, may_begin}

-- A head at the place `at` takes us to the place p, from a stack to a stack.
abbrev pub Goes : List ℕ → ℕ → ℕ → (Stack → Stack) → (Stack → Stack) → Type 0
Goes xs at p f g = (ys : List ℕ) (fs : Stack) (h : ℕ) → tell (xs ++ ys) at h (f fs) ≡ tell (xs ++ ys) p (h + 1) (g fs)

-- The level becomes another.
pub record Stays (xs : List ℕ) (at k c d p : ℕ) (l : Level) : Type 0 where
  pub on : at < p
  pub inside : p ≤ length xs
  pub good : Good l.kind l.count d
  pub same : Goes xs at p (push (nesting - d) (frame_of k c)) (push (nesting - d) (frame_of l.kind l.count))

-- A level i is opened within it.
pub record Downs (xs : List ℕ) (at k c d p : ℕ) (l i : Level) : Type 0 where
  pub on : at < p
  pub inside : p ≤ length xs
  pub items : l.kind < 4
  pub room : d < nesting + 1
  pub good : Good i.kind i.count (d + 1)
  pub same : Goes xs at p (push (nesting - d) (frame_of k c))
      (λ fs. push (nesting - (d + 1)) (frame_of i.kind i.count) (push (nesting - d) (frame_of l.kind l.count) fs))

-- A string goes on past the end, for v bytes.
pub record Skips (xs : List ℕ) (at k c d v : ℕ) (l : Level) : Type 0 where
  pub on : at < length xs
  pub some : 0 < v
  pub good : Good l.kind l.count d
  pub same : Goes xs at (length xs) (push (nesting - d) (frame_of k c))
      (λ fs. push 0 (Content v) (push (nesting - d) (frame_of l.kind l.count) fs))

-- All ends here.
abbrev pub Stops : List ℕ → ℕ → ℕ → ℕ → ℕ → Verdict → Type 0
Stops xs at k c d v = (fs : Stack) (h : ℕ) → tell xs at h (push (nesting - d) (frame_of k c) fs) ≡ (v, h)

-- What is right to do at the place `at`, at a level of the kind k and the count c within d others.
abbrev pub Moves : List ℕ → ℕ → ℕ → ℕ → ℕ → Move → Type 0
Moves xs at k c d (Stay p l) = Stays xs at k c d p l
Moves xs at k c d (Down p l i) = Downs xs at k c d p l i
Moves xs at k c d (Skip v l) = Skips xs at k c d v l
Moves xs at k c d (Fault p) = Stops xs at k c d (Err (Bad p))
Moves xs at k c d Lack = Stops xs at k c d (Err Incomplete)

-- What is left of a level once an item of it has begun.
pub record Leaves (k c : ℕ) (l : Level) : Type 0 where
  pub frame : frame_of l.kind l.count ≡ kept (frame_of k c)
  pub low : l.kind < 4 → (k < 4) × (0 < k + c)
  pub high : k < 4 → l.kind < 4
  pub none : 4 ≤ l.kind → l.count ≡ 0

-- A head at a level is read up to p, and asks for g.
abbrev pub Asked : List ℕ → ℕ → ℕ → ℕ → ℕ → Frame → ℕ → Type 0
Asked xs at k c d g p =
    Goes xs at p (push (nesting - d) (frame_of k c)) (λ fs. push (nesting - d - 1) g (push (nesting - d) (kept (frame_of k c)) fs))

-- It is right to do r wherever a head that ends at p of n bytes asks for v bytes of a string.
abbrev pub Strings : ℕ → ℕ → ℕ → Level → Move → Type 0
Strings n p v l r =
    (xs : List ℕ) (at k c d : ℕ) → length xs ≡ n → at < p → p ≤ n → 0 < k + c → Good k c d → Leaves k c l → Asked xs at k c d (Content v) p
    → Moves xs at k c d r

-- It is right to do r wherever an item of the major type m may begin, and its head ends at p of n bytes and says v.
abbrev pub Follows : ℕ → ℕ → Major → ℕ → Level → Move → Type 0
Follows n p m v l r =
    (xs : List ℕ) (at k c d : ℕ) → length xs ≡ n → at < p → p ≤ n → 0 < k + c → Good k c d → Leaves k c l → may_begin k d m ≡ true
    → Asked xs at k c d (content m v) p → Moves xs at k c d r

-- The level of v pairs.
pub record Doubles (v : ℕ) (l : Level) : Type 0 where
  pub frame : frame_of l.kind l.count ≡ Items (v * 2)
  pub items : l.kind < 4

-- It is right to do r where the initial byte at the place `at` of n says i.
abbrev pub Answers : ℕ → ℕ → ℕ → ℕ → ℕ → Initial → Move → Type 0
Answers n at k c d i r = (xs : List ℕ) → length xs ≡ n → initial (get_or xs at 0) ≡ i → Moves xs at k c d r

-- It is right to do r where a break is at the place `at`.
abbrev pub Broken : ℕ → ℕ → ℕ → Move → Type 0
Broken at k c r =
    (xs : List ℕ) (d : ℕ) → at < length xs → Good k c d → 0 < k + c → initial (get_or xs at 0) ≡ Break → Moves xs at k c d r

-- It is right to do r where an item of indefinite length begins there.
abbrev pub Endless : ℕ → ℕ → ℕ → ℕ → Major → Move → Type 0
Endless at k c d m r = (xs : List ℕ) → at < length xs → initial (get_or xs at 0) ≡ Indefinite m → Moves xs at k c d r

-- So it is at a level of items, where the type m has room and l is what is left of the level.
abbrev pub Opened : ℕ → Level → Major → Move → Type 0
Opened at l m r =
    (xs : List ℕ) (k c d : ℕ) → at < length xs → Good k c d → 0 < k + c → k < 4 → room_for m d ≡ true → Leaves k c l
    → initial (get_or xs at 0) ≡ Indefinite m → Moves xs at k c d r
