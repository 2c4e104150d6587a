-- Laws of records that lie in parallel slices.
-- Assumes nothing.
use mathlib.Core.Path.{◌≡◌, refl, sym, ap, ◌∙◌}
use mathlib.Core.List.{List, [], ◌∷◌, ◌++◌, append_assoc}
use Prim.Native.Nat.{ℕ, zero, suc, ◌+◌, ◌*◌, ◌<◌, ◌≤◌}
use native.Mathlib.Omega.{arith}
use lib.ListN.{length, get_or, set, take, drop}
use lib.Seq.{sets, sets-eq, get_or-drop, drop-drop}
use Rattle.points.specs.declared.Hash.{Hash}
use Rattle.points.specs.declared.Point.{Point}
use Rattle.point_log.specs.Log.{empty, slots_of}
use Rattle.slices.specs.Parallel.{words, records, hashes_of}

-- ---- apart and together

pub slots_records : (s h : List ℕ) → slots_of (records s h) ≡ s
unfolding records
slots_records [] h = refl
slots_records (x ∷ s) h = ap (λ (l : List ℕ). x ∷ l) (slots_records s (drop 4 h))

pub length_records : (s h : List ℕ) → length (records s h) ≡ length s
unfolding records
length_records [] h = refl
length_records (x ∷ s) h = ap suc (length_records s (drop 4 h))

pub hashes_records : (s h : List ℕ) → length h ≡ length s * 4 → hashes_of (records s h) ≡ h
unfolding records hashes_of
hashes_records [] [] e = refl
hashes_records [] (a ∷ h) e = absurd (omega arith)
hashes_records (x ∷ s) [] e = absurd (omega arith)
hashes_records (x ∷ s) (a ∷ []) e = absurd (omega arith)
hashes_records (x ∷ s) (a ∷ b ∷ []) e = absurd (omega arith)
hashes_records (x ∷ s) (a ∷ b ∷ c ∷ []) e = absurd (omega arith)
hashes_records (x ∷ s) (a ∷ b ∷ c ∷ d ∷ h) e = ap (λ (l : List ℕ). a ∷ b ∷ c ∷ d ∷ l) (hashes_records s h (omega arith))

pub together : (run : List Point) → records (slots_of run) (hashes_of run) ≡ run
unfolding records hashes_of
together [] = refl
together (p ∷ run) = ap (λ (l : List Point). p ∷ l) (together run)

pub hashes_length : (run : List Point) → length (hashes_of run) ≡ length (slots_of run) * 4
unfolding hashes_of
hashes_length [] = refl
hashes_length (p ∷ run) = let e = hashes_length run in omega arith

-- ---- a record read

-- the hash at place i of the words
abbrev pub hash_at : List ℕ → ℕ → Hash
hash_at h i = record { a = get_or h (i * 4) 0; b = get_or h (i * 4 + 1) 0; c = get_or h (i * 4 + 2) 0; d = get_or h (i * 4 + 3) 0 }

hash_later : (h : List ℕ) (i : ℕ) → hash_at (drop 4 h) i ≡ hash_at h (suc i)
hash_later h i =
    let e : 4 + i * 4 ≡ suc i * 4 = omega arith in
    let f : (j : ℕ) → 4 + (i * 4 + j) ≡ suc i * 4 + j = λ j. omega arith in
    rw (get_or-drop 4 h (i * 4) 0, get_or-drop 4 h (i * 4 + 1) 0, get_or-drop 4 h (i * 4 + 2) 0, get_or-drop 4 h (i * 4 + 3) 0, e, f 1, f 2, f 3)

pub record_at : (s h : List ℕ) (i : ℕ) → i < length s → get_or (records s h) i empty ≡ record { slot = get_or s i 0; hash = hash_at h i }
unfolding records
record_at [] h i l = absurd (omega arith)
record_at (x ∷ s) h zero l = refl
record_at (x ∷ s) h (suc i) l =
    record_at s (drop 4 h) i (omega arith) ∙ ap (λ (g : Hash). record { slot = get_or s i 0; hash = g }) (hash_later h i)

-- ---- a record stored

-- words stored behind one another
pub stored : (h : List ℕ) (at : ℕ) (vs : List ℕ) → at + length vs ≤ length h → take at h ++ (vs ++ drop (length vs) (drop at h)) ≡ sets h at vs
stored h at vs l =
    ap (λ (r : List ℕ). take at h ++ (vs ++ r)) (drop-drop (length vs) at h) ∙ sym (append_assoc (take at h) vs (drop (at + length vs) h))
    ∙ sym (sets-eq vs h at l)

sets_cons : (x : ℕ) (l : List ℕ) (i : ℕ) (vs : List ℕ) → sets (x ∷ l) (suc i) vs ≡ x ∷ sets l i vs
sets_cons x l i [] = refl
sets_cons x l i (v ∷ vs) = sets_cons x (set l i v) (suc i) vs

sets_behind : (a b c d : ℕ) (l : List ℕ) (i : ℕ) (vs : List ℕ) → sets (a ∷ b ∷ c ∷ d ∷ l) (suc i * 4) vs ≡ a ∷ b ∷ c ∷ d ∷ sets l (i * 4) vs
sets_behind a b c d l i vs =
    let e : suc i * 4 ≡ suc (suc (suc (suc (i * 4)))) = omega arith in
    ap (λ (k : ℕ). sets (a ∷ b ∷ c ∷ d ∷ l) k vs) e
    ∙ sets_cons a (b ∷ c ∷ d ∷ l) (suc (suc (suc (i * 4)))) vs
    ∙ ap (λ (m : List ℕ). a ∷ m) (sets_cons b (c ∷ d ∷ l) (suc (suc (i * 4))) vs)
    ∙ ap (λ (m : List ℕ). a ∷ b ∷ m) (sets_cons c (d ∷ l) (suc (i * 4)) vs)
    ∙ ap (λ (m : List ℕ). a ∷ b ∷ c ∷ m) (sets_cons d l (i * 4) vs)

pub hashes_set : (s h : List ℕ) (i : ℕ) (p : Point) → length h ≡ length s * 4 → i < length s
    → hashes_of (set (records s h) i p) ≡ sets h (i * 4) (words p.hash)
unfolding records hashes_of
hashes_set [] h i p e l = absurd (omega arith)
hashes_set (x ∷ s) [] i p e l = absurd (omega arith)
hashes_set (x ∷ s) (a ∷ []) i p e l = absurd (omega arith)
hashes_set (x ∷ s) (a ∷ b ∷ []) i p e l = absurd (omega arith)
hashes_set (x ∷ s) (a ∷ b ∷ c ∷ []) i p e l = absurd (omega arith)
hashes_set (x ∷ s) (a ∷ b ∷ c ∷ d ∷ h) zero p e l = ap (λ (m : List ℕ). words p.hash ++ m) (hashes_records s h (omega arith))
hashes_set (x ∷ s) (a ∷ b ∷ c ∷ d ∷ h) (suc i) p e l =
    ap (λ (m : List ℕ). a ∷ b ∷ c ∷ d ∷ m) (hashes_set s h i p (omega arith) (omega arith)) ∙ sym (sets_behind a b c d h i (words p.hash))
