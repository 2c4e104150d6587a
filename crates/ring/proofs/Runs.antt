-- Laws of a run of a list, and of a run stored in a list.
-- Assumes nothing.
use mathlib.Core.Path.{◌≡◌, sym, ap, ◌∙◌}
use mathlib.Core.List.{List, [], ◌∷◌, ◌++◌, append_assoc}
use Prim.Native.Nat.{ℕ, ◌+◌, ◌-◌, ◌<◌, ◌≤◌}
use native.Mathlib.Omega.{arith}
use native.Mathlib.Numerals.{add-one}
use lib.ListN.{length, get_or, take, drop, length-drop}
use lib.Seq.{sets, sets-eq, take-append-le, drop-append-le, drop_at, take-append_seam, take-suc, take-add, drop-drop, get_or-drop, length-take-le, take-take}
use borrow.Rule.Slice.PartMut.{put_mid}
use Rattle.std.proofs.lemmas.Slice.{put_mid-paste}
use Rattle.base.proofs.ListLaws.{sets_append}
use Rattle.ring.specs.Ring.{run}

pub run_length : (xs : List ℕ) (i k : ℕ) → i + k ≤ length xs → length (run xs i k) ≡ k
run_length xs i k h = length-take-le k (drop i xs) (omega (arith, length-drop i xs))

-- one byte more
pub run_more : (xs : List ℕ) (i k : ℕ) → i + k < length xs → run xs i (k + 1) ≡ run xs i k ++ (get_or xs (i + k) 0 ∷ [])
run_more xs i k h = rw (add-one, ← get_or-drop i xs k 0) (take-suc (drop i xs) k 0 (omega (arith, length-drop i xs)))

pub run-append : (xs : List ℕ) (i j k : ℕ) → run xs i (j + k) ≡ run xs i j ++ run xs (i + j) k
run-append xs i j k = rw (take-add j k (drop i xs), drop-drop j i xs)

-- a run in the front part, and in the part behind
pub run_front : (xs ys : List ℕ) (i k : ℕ) → i + k ≤ length xs → run (xs ++ ys) i k ≡ run xs i k
run_front xs ys i k h =
    ap (take k) (drop-append-le i xs ys (omega arith)) ∙ take-append-le k (drop i xs) ys (omega (arith, length-drop i xs))

pub run_drop : (xs : List ℕ) (n i k : ℕ) → run (drop n xs) i k ≡ run xs (n + i) k
run_drop xs n i k = ap (take k) (drop-drop i n xs)

-- a run that follows a stored run, stored behind it
pub sets_on : (l xs : List ℕ) (to i j k : ℕ) {t u : List ℕ} → i + j ≤ length xs
    → t ≡ sets l to (run xs i j) → u ≡ sets t (to + j) (run xs (i + j) k) → u ≡ sets l to (run xs i (j + k))
sets_on l xs to i j k h e e' = e' ∙ rw (e, run-append, sets_append, run_length xs i j h)

-- a run that was stored is there
pub run_sets : (l : List ℕ) (i : ℕ) (xs : List ℕ) → i + length xs ≤ length l → run (sets l i xs) i (length xs) ≡ xs
run_sets l i xs h =
    let rest : List ℕ = drop (i + length xs) l in
    ap (λ (r : List ℕ). run r i (length xs)) (sets-eq xs l i h)
    ∙ ap (λ (r : List ℕ). run r i (length xs)) (append_assoc (take i l) xs rest)
    ∙ ap (take (length xs)) (drop_at (take i l) (xs ++ rest) i (length-take-le i l (omega arith)))
    ∙ take-append_seam xs rest

-- a run copied to the front of one list, and from there to another
pub sets_through : (l d xs : List ℕ) (to i k : ℕ) {t u : List ℕ} → i + k ≤ length xs → k ≤ length l
    → t ≡ sets l 0 (run xs i k) → u ≡ sets d to (run t 0 k) → u ≡ sets d to (run xs i k)
sets_through l d xs to i k h h' e e' =
    let long : length (run xs i k) ≡ k = run_length xs i k h in
    let there : run (sets l 0 (run xs i k)) 0 (length (run xs i k)) ≡ run xs i k = run_sets l 0 (run xs i k) (omega arith) in
    e' ∙ ap (λ (r : List ℕ). sets d to (run r 0 k)) e ∙ ap (sets d to) (rw long at there)

-- a run written into a part of another list
pub part_written : (l xs ys : List ℕ) (to i k : ℕ) → to + k ≤ length l → i + k ≤ length xs → ys ≡ run xs i (i + k - i)
    → put_mid to (to + k - to) l ys ≡ sets l to (run xs i k)
part_written l xs ys to i k fits in_xs e =
    let long : length (run xs i k) ≡ k = run_length xs i k in_xs in
    let same : i + k - i ≡ k = omega arith in
    let whole : take k (run xs i k) ≡ run xs i k = take-take k k (drop i xs) (omega arith) in
    let there : sets l to (run xs i k) ≡ take to l ++ run xs i k ++ drop (to + k) l = rw long at (sets-eq {A = ℕ} (run xs i k) l to (omega arith)) in
    put_mid-paste to (to + k - to) l ys (run xs i k) k (rw same at e) (omega arith) (sym long)
    ∙ ap (λ (zs : List ℕ). take to l ++ zs ++ drop (to + k) l) whole
    ∙ sym there
