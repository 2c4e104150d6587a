-- Laws of numbers in bytes: what the bytes of a number spell, and the bytes of the number that bytes spell.
-- Assumes nothing.
use mathlib.Core.Path.{◌≡◌, refl, sym, ap, ◌∙◌}
use mathlib.Core.List.{List, [], ◌∷◌, ◌++◌, append_assoc, append-nil}
use Prim.Native.Nat.{ℕ, zero, suc, ◌+◌, ◌-◌, ◌*◌, ◌/◌, ◌%◌, ◌^◌, ◌≤◌, ◌<◌}
use native.Mathlib.Omega.{arith}
use native.Mathlib.Numerals.{add-one, sub-one}
use native.Mathlib.Nat.{add-zero, zero-add, mod-lt, div-add-mod', pow-succ', pow-le-pow_right}
use lib.ListN.{length, get_or, take, drop, set, replicate, length-append, length-drop}
use lib.Seq.{sets, take-suc, get_or-drop}
use Rattle.base.specs.Numbers.{Bytes, spelled, number, octets}
use Rattle.base.proofs.ListLaws.{sets_snoc, sets_set}

pub spelled_append : (v : ℕ) (xs ys : List ℕ) → spelled v (xs ++ ys) ≡ spelled (spelled v xs) ys
unfolding spelled
spelled_append v [] ys = refl
spelled_append v (x ∷ xs) ys = spelled_append (v * 256 + x) xs ys

pub spelled_last : (v : ℕ) (xs : List ℕ) (x : ℕ) → spelled v (xs ++ (x ∷ [])) ≡ spelled v xs * 256 + x
unfolding spelled
spelled_last v xs x = spelled_append v xs (x ∷ [])

-- one byte more of a run
pub number_more : (s : List ℕ) (at j : ℕ) → at + j < length s
    → number (take (j + 1) (drop at s)) ≡ number (take j (drop at s)) * 256 + get_or s (at + j) 0
number_more s at j h =
    rw (add-one, take-suc (drop at s) j 0 (omega (arith, length-drop at s)), get_or-drop)
    (spelled_last 0 (take j (drop at s)) (get_or s (at + j) 0))

-- the number of at most eight bytes fits
pub room : (j v : ℕ) → v < 256 ^ j → j ≤ 7 → v * 256 + 255 < 2 ^ 64
room j v h k = omega (arith, pow-le-pow_right {n = 256} (omega arith) {i = j} {j = 7} k)

pub grows : (j v x : ℕ) → v < 256 ^ j → x < 256 → v * 256 + x < 256 ^ (j + 1)
grows j v x h k = rw (add-one j, pow-succ' 256 j) (omega arith)

pub length_octets : (k n : ℕ) → length (octets k n) ≡ k
unfolding octets
length_octets zero n = refl
length_octets (suc k) n = rw (length-append, length_octets k (n / 256)) (add-one k)

-- bytes joined are bytes, and those of a number are
pub bytes_append : (xs ys : List ℕ) → Bytes xs → Bytes ys → Bytes (xs ++ ys)
unfolding Bytes
bytes_append [] ys b c = c
bytes_append (x ∷ xs) ys (h, b) c = (h, bytes_append xs ys b c)

pub octets_bytes : (k n : ℕ) → Bytes (octets k n)
unfolding octets Bytes
octets_bytes zero n = tt
octets_bytes (suc k) n = bytes_append (octets k (n / 256)) (n % 256 ∷ []) (octets_bytes k (n / 256)) (mod-lt n {m = 256} (omega arith), tt)

-- storing the bytes of a number, the last first
pub store_last : (s : List ℕ) (at j rest : ℕ) → 0 < j
    → sets (set s (at + (j - 1)) (rest % 256)) at (octets (j - 1) (rest / 256)) ≡ sets s at (octets j rest)
unfolding octets
store_last s at zero rest h = absurd (omega arith)
store_last s at (suc j) rest h =
    rw sub-one
    (let e : length (octets j (rest / 256)) ≡ j = length_octets j (rest / 256) in
    sets_set s at (at + j) (rest % 256) (octets j (rest / 256)) (omega arith)
    ∙ ap (λ (p : ℕ). set (sets s at (octets j (rest / 256))) (at + p) (rest % 256)) (sym e)
    ∙ sym (sets_snoc s at (octets j (rest / 256)) (rest % 256)))

-- ROUND TRIP: the bytes of a number spell it
pub number_octets : (k n : ℕ) → n < 256 ^ k → number (octets k n) ≡ n
unfolding octets spelled
number_octets zero n h = omega arith
number_octets (suc k) n h =
    let q : n / 256 < 256 ^ k = omega (arith, pow-succ' 256 k, div-add-mod' n 256, h) in
    spelled_last 0 (octets k (n / 256)) (n % 256) ∙ rw (number_octets k (n / 256) q) (div-add-mod' n 256)

-- the bytes of what is spelled after v: those of v, and then these
octets_after : (j v : ℕ) (xs : List ℕ) → Bytes xs → octets (j + length xs) (spelled v xs) ≡ octets j v ++ xs
unfolding octets spelled Bytes
octets_after j v [] b = rw (add-zero, append-nil)
octets_after j v (x ∷ xs) (h, b) =
    let q : (v * 256 + x) / 256 ≡ v = omega (arith, div-add-mod' (v * 256 + x) 256, mod-lt (v * 256 + x) {m = 256} (omega arith)) in
    let r : (v * 256 + x) % 256 ≡ x = omega (arith, div-add-mod' (v * 256 + x) 256) in
    let e : j + suc (length xs) ≡ suc j + length xs = omega arith in
    ap (λ (k : ℕ). octets k (spelled (v * 256 + x) xs)) e ∙ octets_after (suc j) (v * 256 + x) xs b ∙ rw (q, r, append_assoc)

-- ROUND TRIP: the number that bytes spell has these bytes
pub octets_number : (xs : List ℕ) → Bytes xs → octets (length xs) (number xs) ≡ xs
unfolding octets
octets_number xs b = rw zero-add at (octets_after 0 0 xs b)

-- ---- bytes

pub bytes_take : (k : ℕ) (xs : List ℕ) → Bytes xs → Bytes (take k xs)
unfolding Bytes
bytes_take zero xs b = tt
bytes_take (suc k) [] b = tt
bytes_take (suc k) (x ∷ xs) (h, b) = (h, bytes_take k xs b)

pub bytes_drop : (k : ℕ) (xs : List ℕ) → Bytes xs → Bytes (drop k xs)
unfolding Bytes
bytes_drop zero xs b = b
bytes_drop (suc k) [] b = tt
bytes_drop (suc k) (x ∷ xs) (h, b) = bytes_drop k xs b

pub bytes_set : (l : List ℕ) (i x : ℕ) → Bytes l → x < 256 → Bytes (set l i x)
unfolding Bytes
bytes_set [] i x b h = b
bytes_set (y ∷ l) zero x (_, b) h = (h, b)
bytes_set (y ∷ l) (suc i) x (g, b) h = (g, bytes_set l i x b h)

pub bytes_zeros : (k : ℕ) → Bytes (replicate k 0)
unfolding Bytes
bytes_zeros zero = tt
bytes_zeros (suc k) = (omega arith, bytes_zeros k)

spelled_below : (j v : ℕ) (xs : List ℕ) → Bytes xs → v < 256 ^ j → spelled v xs < 256 ^ (j + length xs)
unfolding Bytes spelled
spelled_below j v [] b h = rw add-zero h
spelled_below j v (x ∷ xs) (l, b) h =
    let e : j + 1 + length xs ≡ j + suc (length xs) = omega arith in
    rw (← e) (spelled_below (j + 1) (v * 256 + x) xs b (grows j v x h l))

-- k bytes spell a number below 256 ^ k
pub number_below : (xs : List ℕ) → Bytes xs → number xs < 256 ^ length xs
number_below xs b = rw zero-add at (spelled_below 0 0 xs b (omega arith))
