-- Laws of streams in the areas of a store: what is read, what is written, and what was written read again.
-- Assumes nothing.
use mathlib.Core.Path.{◌≡◌, refl, sym, ap, ◌∙◌}
use mathlib.Core.Logic.{◌≢◌}
use mathlib.Core.List.{List, [], ◌∷◌, ◌++◌}
use Prim.Native.Nat.{ℕ, zero, suc, ◌+◌, ◌-◌, ◌/◌, ◌%◌, ◌<◌, ◌≤◌}
use native.Mathlib.Omega.{arith}
use native.Mathlib.Decide.{dec_lt}
use native.Mathlib.Nat.{add-zero, zero-add, add-suc, suc-add, mul-le-mul_left, div-add-mod}
use native.Mathlib.Nat.{suc-mod, mod-lt, mod-eq_of_lt, mod-mod, mod_self, zero-mod, mod-add-mod}
use lib.ListN.{length, get_or, set, take, drop, length-set}
use lib.Seq.{sets, take_at, drop_at, drop-cons, get_or-set_same, get_or-set_other, ext_get_or}
use Rattle.ring.specs.Ring.{stream, laid, run}
use Rattle.ring.specs.Besides.Ring.{Elsewhere}

-- positions with the same remainder are followed by positions with the same remainder
same_next : (c n m : ℕ) → n % c ≡ m % c → suc n % c ≡ suc m % c
same_next c n m e = suc-mod n c ∙ ap (λ (r : ℕ). suc r % c) e ∙ sym (suc-mod m c)

-- the position at which an area's end is reached
round : (c n j : ℕ) → n % c + j ≡ c → (n + j) % c ≡ 0 % c
round c n j e = sym (mod-add-mod n c j) ∙ ap (λ (m : ℕ). m % c) e ∙ mod_self c ∙ sym (zero-mod c)

-- two positions less than a round apart have different places
pub apart : (c n d : ℕ) → 0 < d → d < c → (n + d) % c ≢ n % c
apart c n d p l e = elim (dec_lt (n / c) ((n + d) / c)) [
  | yes y ↦ omega (arith, e, div-add-mod n c, div-add-mod (n + d) c, mul-le-mul_left c y)
  | no x ↦
      let le : (n + d) / c ≤ n / c = omega arith in
      omega (arith, e, div-add-mod n c, div-add-mod (n + d) c, mul-le-mul_left c le)
]

-- ---- reading

pub stream_length : (s : List ℕ) (b c n k : ℕ) → length (stream s b c n k) ≡ k
unfolding stream
stream_length s b c n zero = refl
stream_length s b c n (suc k) = ap suc (stream_length s b c (suc n) k)

-- byte j of what is read
pub stream_at : (s : List ℕ) (b c n k j : ℕ) → j < k → get_or (stream s b c n k) j 0 ≡ get_or s (b + (n + j) % c) 0
unfolding stream
stream_at s b c n zero j l = absurd (omega arith)
stream_at s b c n (suc k) zero l = rw add-zero
stream_at s b c n (suc k) (suc j) l = stream_at s b c (suc n) k j (omega arith) ∙ rw (suc-add, ← add-suc)

-- only n mod c counts
pub stream_same : (s : List ℕ) (b c n m k : ℕ) → n % c ≡ m % c → stream s b c n k ≡ stream s b c m k
unfolding stream
stream_same s b c n m zero e = refl
stream_same s b c n m (suc k) e = rw (e, stream_same s b c (suc n) (suc m) k (same_next c n m e))

pub stream_append : (s : List ℕ) (b c n j k : ℕ) → stream s b c n (j + k) ≡ stream s b c n j ++ stream s b c (n + j) k
unfolding stream
stream_append s b c n zero k = rw (add-zero, zero-add)
stream_append s b c n (suc j) k =
    rw suc-add (ap (λ (r : List ℕ). get_or s (b + n % c) 0 ∷ r) (stream_append s b c (suc n) j k ∙ rw (suc-add, ← add-suc)))

-- the first j bytes of what is read, and the others: what is left when j bytes are freed
pub stream_take : (s : List ℕ) (b c n j k : ℕ) → j ≤ k → take j (stream s b c n k) ≡ stream s b c n j
stream_take s b c n j k h =
    let e : k ≡ j + (k - j) = omega arith in
    ap (λ (m : ℕ). take j (stream s b c n m)) e
    ∙ ap (take j) (stream_append s b c n j (k - j))
    ∙ take_at (stream s b c n j) (stream s b c (n + j) (k - j)) j (stream_length s b c n j)

pub stream_drop : (s : List ℕ) (b c n j k : ℕ) → j ≤ k → drop j (stream s b c n k) ≡ stream s b c (n + j) (k - j)
stream_drop s b c n j k h =
    let e : k ≡ j + (k - j) = omega arith in
    ap (λ (m : ℕ). drop j (stream s b c n m)) e
    ∙ ap (drop j) (stream_append s b c n j (k - j))
    ∙ drop_at (stream s b c n j) (stream s b c (n + j) (k - j)) j (stream_length s b c n j)

stream_low : (s : List ℕ) (b c n k : ℕ) → n + k ≤ c → b + c ≤ length s → stream s b c n k ≡ run s (b + n) k
unfolding stream
stream_low s b c n zero h l = refl
stream_low s b c n (suc k) h l =
    let here : n % c ≡ n = mod-eq_of_lt (omega arith) in
    rw (here, stream_low s b c (suc n) k (omega arith) l, add-suc, drop-cons s (b + n) 0 (omega arith))

-- bytes that do not come to the area's end lie straight
pub stream_straight : (s : List ℕ) (b c n k : ℕ) → n % c + k ≤ c → b + c ≤ length s → stream s b c n k ≡ run s (b + n % c) k
stream_straight s b c n k h l = stream_same s b c n (n % c) k (sym (mod-mod n c)) ∙ stream_low s b c (n % c) k h l

-- bytes that come to the area's end go on at its front
pub stream_wraps : (s : List ℕ) (b c n j k : ℕ) → n % c + j ≡ c → k ≤ c → b + c ≤ length s
    → stream s b c n (j + k) ≡ run s (b + n % c) j ++ run s b k
stream_wraps s b c n j k e h l =
    let on : stream s b c (n + j) k ≡ run s (b + 0) k = stream_same s b c (n + j) 0 k (round c n j e) ∙ stream_low s b c 0 k (omega arith) l in
    rw (stream_append, stream_straight s b c n j (omega arith) l, on, add-zero)

-- ---- writing

pub laid_length : (s : List ℕ) (b c n : ℕ) (xs : List ℕ) → length (laid s b c n xs) ≡ length s
unfolding laid
laid_length s b c n [] = refl
laid_length s b c n (x ∷ xs) = laid_length (set s (b + n % c) x) b c (suc n) xs ∙ length-set s (b + n % c) x

-- only n mod c counts
pub laid_same : (s : List ℕ) (b c n m : ℕ) (xs : List ℕ) → n % c ≡ m % c → laid s b c n xs ≡ laid s b c m xs
unfolding laid
laid_same s b c n m [] e = refl
laid_same s b c n m (x ∷ xs) e =
    rw e (laid_same (set s (b + m % c) x) b c (suc n) (suc m) xs (same_next c n m e))

pub laid_append : (s : List ℕ) (b c n : ℕ) (xs ys : List ℕ) → laid s b c n (xs ++ ys) ≡ laid (laid s b c n xs) b c (n + length xs) ys
unfolding laid
laid_append s b c n [] ys = rw add-zero
laid_append s b c n (x ∷ xs) ys = laid_append (set s (b + n % c) x) b c (suc n) xs ys ∙ rw (suc-add, ← add-suc)

laid_low : (s : List ℕ) (b c n : ℕ) (xs : List ℕ) → n + length xs ≤ c → laid s b c n xs ≡ sets s (b + n) xs
unfolding laid
laid_low s b c n [] h = refl
laid_low s b c n (x ∷ xs) h =
    let here : n % c ≡ n = mod-eq_of_lt (omega arith) in
    rw here (laid_low (set s (b + n) x) b c (suc n) xs (omega arith) ∙ rw add-suc)

-- bytes that do not come to the area's end are stored straight
pub laid_straight : (s : List ℕ) (b c n : ℕ) (xs : List ℕ) → n % c + length xs ≤ c → laid s b c n xs ≡ sets s (b + n % c) xs
laid_straight s b c n xs h = laid_same s b c n (n % c) xs (sym (mod-mod n c)) ∙ laid_low s b c (n % c) xs h

-- bytes that come to the area's end go on at its front
pub laid_wraps : (s : List ℕ) (b c n : ℕ) (xs ys : List ℕ) → n % c + length xs ≡ c → length ys ≤ c
    → laid s b c n (xs ++ ys) ≡ sets (sets s (b + n % c) xs) b ys
laid_wraps s b c n xs ys e h =
    let t : List ℕ = sets s (b + n % c) xs in
    let on : laid t b c (n + length xs) ys ≡ sets t (b + 0) ys =
    laid_same t b c (n + length xs) 0 ys (round c n (length xs) e) ∙ laid_low t b c 0 ys (omega arith) in
    rw (laid_append, laid_straight s b c n xs (omega arith), on, add-zero)

-- a place that none of the bytes is written to stays
pub elsewhere : Elsewhere
unfolding laid
elsewhere s b c n [] p h = refl
elsewhere s b c n (x ∷ xs) p h =
    elsewhere (set s (b + n % c) x) b c (suc n) xs p (λ j l. rw (suc-add, ← add-suc) (h (suc j) (omega arith)))
    ∙ get_or-set_other s (b + n % c) p x 0 (rw add-zero at (h 0 (omega arith)))

-- so each place outside the area stays
pub laid_outside : (s : List ℕ) (b c n : ℕ) (xs : List ℕ) (p : ℕ) → 0 < c → (b ≤ p → p < b + c → ⊥)
    → get_or (laid s b c n xs) p 0 ≡ get_or s p 0
laid_outside s b c n xs p h out =
    elsewhere s b c n xs p (λ j l e. out (omega arith) (omega (arith, mod-lt (n + j) h)))

-- the place of byte j of the run holds it
pub laid_hits : (s : List ℕ) (b c n : ℕ) (xs : List ℕ) (j : ℕ) → j < length xs → length xs ≤ c → b + c ≤ length s
    → get_or (laid s b c n xs) (b + (n + j) % c) 0 ≡ get_or xs j 0
unfolding laid
laid_hits s b c n [] j h l r = absurd (omega arith)
laid_hits s b c n (x ∷ xs) zero h l r =
    rw add-zero
    (elsewhere (set s (b + n % c) x) b c (suc n) xs (b + n % c)
    (λ i lt e. apart c n (suc i) (omega arith) (omega arith) (rw (add-suc, ← suc-add) (omega arith)))
    ∙ get_or-set_same s (b + n % c) x 0 (omega (arith, mod-lt n {m = c} (omega arith))))
laid_hits s b c n (x ∷ xs) (suc j) h l r =
    rw (add-suc, ← suc-add) (laid_hits (set s (b + n % c) x) b c (suc n) xs j (omega arith) (omega arith) (rw length-set r))

-- ---- reading what was written

-- two streams of the same length are the same if they are so byte by byte
stream_ext : (s t : List ℕ) (b c n k : ℕ) → ((j : ℕ) → j < k → get_or s (b + (n + j) % c) 0 ≡ get_or t (b + (n + j) % c) 0)
    → stream s b c n k ≡ stream t b c n k
unfolding stream
stream_ext s t b c n zero h = refl
stream_ext s t b c n (suc k) h =
    rw (rw add-zero at (h 0 (omega arith)), stream_ext s t b c (suc n) k (λ j l. rw (suc-add, ← add-suc) (h (suc j) (omega arith))))

-- what was written is read back
pub stream_laid : (s : List ℕ) (b c n : ℕ) (xs : List ℕ) → length xs ≤ c → b + c ≤ length s
    → stream (laid s b c n xs) b c n (length xs) ≡ xs
stream_laid s b c n xs h l =
    ext_get_or 0 (stream (laid s b c n xs) b c n (length xs)) xs (stream_length (laid s b c n xs) b c n (length xs))
    (λ j q.
    let j-in : j < length xs = rw stream_length at q in
    stream_at (laid s b c n xs) b c n (length xs) j j-in ∙ laid_hits s b c n xs j j-in h l)

-- k bytes are not touched by what is written behind them, within the capacity
pub stream_kept : (s : List ℕ) (b c n k : ℕ) (xs : List ℕ) → k + length xs ≤ c
    → stream (laid s b c (n + k) xs) b c n k ≡ stream s b c n k
stream_kept s b c n k xs h =
    stream_ext (laid s b c (n + k) xs) s b c n k
    (λ j l.
    elsewhere s b c (n + k) xs (b + (n + j) % c)
    (λ i q e.
    let far : n + j + (k + i - j) ≡ n + k + i = omega arith in
    apart c (n + j) (k + i - j) (omega arith) (omega arith) (rw far (omega arith))))

-- so they are read with what was written behind them
pub stream_behind : (s : List ℕ) (b c n k : ℕ) (xs : List ℕ) → k + length xs ≤ c → b + c ≤ length s
    → stream (laid s b c (n + k) xs) b c n (k + length xs) ≡ stream s b c n k ++ xs
stream_behind s b c n k xs h l =
    rw (stream_append, stream_kept s b c n k xs h, stream_laid s b c (n + k) xs (omega arith) l)

-- a stream is not touched by what is written to another area
pub stream_elsewhere : (s : List ℕ) (b c n k b' c' n' : ℕ) (xs : List ℕ) → 0 < c → 0 < c' → (b' < b + c → b < b' + c' → ⊥)
    → stream (laid s b' c' n' xs) b c n k ≡ stream s b c n k
stream_elsewhere s b c n k b' c' n' xs h h' other =
    stream_ext (laid s b' c' n' xs) s b c n k
    (λ j l.
    laid_outside s b' c' n' xs (b + (n + j) % c) h'
    (λ p q. other (omega (arith, mod-lt (n + j) h)) (omega (arith, mod-lt (n + j) h))))
