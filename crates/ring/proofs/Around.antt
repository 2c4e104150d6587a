-- Laws of a ring that is a list of its own, and how the stream in an area is read off it.
-- Assumes nothing.
use mathlib.Core.Path.{◌≡◌, sym, ap, ◌∙◌}
use mathlib.Core.List.{List, ◌++◌}
use Prim.Native.Nat.{ℕ, ◌+◌, ◌-◌, ◌%◌, ◌<◌, ◌≤◌}
use native.Mathlib.Omega.{arith}
use native.Mathlib.Decide.{dec_lt}
use native.Mathlib.Nat.{mod-lt, mod-eq_of_lt, mod-eq-sub-mod, mod-add-mod}
use lib.ListN.{length, get_or, take, drop, length-append, length-take, length-drop, get_or-append}
use lib.Seq.{take-take, get_or-take, get_or-drop, get_or-append-add, ext_get_or, take-append_seam}
use Rattle.ring.specs.Ring.{stream, run}
use Rattle.ring.specs.Inside.{around}
use Rattle.ring.proofs.Runs.{run_length}
use Rattle.ring.proofs.Stores.{stream_length, stream_at}

pub around_length : (xs : List ℕ) (i k : ℕ) → k ≤ length xs → length (around xs i k) ≡ k
unfolding around
around_length xs i k h = simp (length-take, length-append, length-drop) (omega arith)

-- before the end, and behind it
pub around_near : (xs : List ℕ) (i k j : ℕ) → j < k → j < length xs - i → get_or (around xs i k) j 0 ≡ get_or xs (i + j) 0
unfolding around
around_near xs i k j h l = rw get_or-take (get_or-append (drop i xs) xs 0 j (simp length-drop l) ∙ get_or-drop i xs j 0)

pub around_far : (xs : List ℕ) (i k j : ℕ) → j < k → length xs - i ≤ j
    → get_or (around xs i k) j 0 ≡ get_or xs (j - (length xs - i)) 0
unfolding around
around_far xs i k j h l =
    let e : j ≡ length (drop i xs) + (j - (length xs - i)) = omega (arith, length-drop i xs) in
    get_or-take k (drop i xs ++ xs) j 0 h
    ∙ ap (λ (m : ℕ). get_or (drop i xs ++ xs) m 0) e
    ∙ get_or-append-add (drop i xs) xs (j - (length xs - i)) 0

-- fewer bytes are the first of them
pub around_take : (xs : List ℕ) (i j k : ℕ) → j ≤ k → take j (around xs i k) ≡ around xs i j
unfolding around
around_take xs i j k h = take-take j k (drop i xs ++ xs) h

-- a list read from its front to its end does not go around
pub around_all : (xs : List ℕ) → around xs 0 (length xs) ≡ xs
unfolding around
around_all xs = take-append_seam xs xs

-- j places further on: before the area's end, and behind it
place_near : (c n j : ℕ) → n % c + j < c → (n + j) % c ≡ n % c + j
place_near c n j h = sym (mod-add-mod n c j) ∙ mod-eq_of_lt h

place_far : (c n j : ℕ) → n % c < c → j ≤ c → c ≤ n % c + j → (n + j) % c ≡ j - (c - n % c)
place_far c n j low l h =
    let e : n % c + j - c ≡ j - (c - n % c) = omega arith in
    sym (mod-add-mod n c j) ∙ mod-eq-sub-mod h ∙ mod-eq_of_lt (omega arith) ∙ e

-- the bytes of a stream are those of its area from place n mod c on, around
pub stream_around : (s : List ℕ) (b c n k : ℕ) → 0 < c → k ≤ c → b + c ≤ length s
    → stream s b c n k ≡ around (run s b c) (n % c) k
stream_around s b c n k h l fits =
    let r : ℕ = n % c in
    let low : r < c = mod-lt n h in
    let area : List ℕ = run s b c in
    let long : length area ≡ c = run_length s b c fits in
    let in_area : (j : ℕ) → j < c → get_or area j 0 ≡ get_or s (b + j) 0 = λ j q. get_or-take c (drop b s) j 0 q ∙ get_or-drop b s j 0 in
    ext_get_or 0 (stream s b c n k) (around area r k) (stream_length s b c n k ∙ sym (around_length area r k (omega arith)))
    (λ j q.
    let in-k : j < k = rw stream_length at q in
    stream_at s b c n k j in-k
    ∙ elim (dec_lt j (c - r)) [
      | yes y ↦
          rw (around_near area r k j in-k (omega arith), in_area (r + j) (omega arith), place_near c n j (omega arith))
      | no x ↦
          let there : (n + j) % c ≡ j - (c - r) = place_far c n j low (omega arith) (omega arith) in
          rw (around_far area r k j in-k (omega arith), long, in_area (j - (c - r)) (omega arith), there)
    ])
