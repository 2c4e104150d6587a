-- Laws of the shortest head: it is read back, and no other head of the same meaning is shorter.
-- Assumes nothing.
use mathlib.Core.Path.{◌≡◌, refl, sym, ap, subst, ◌∙◌}
use mathlib.Core.List.{List, [], ◌∷◌, ◌++◌, append_assoc}
use Prim.Native.Nat.{ℕ, zero, suc, ◌+◌, ◌-◌, ◌*◌, ◌/◌, ◌%◌, ◌^◌, ◌<◌, ◌≤◌}
use native.Mathlib.Omega.{arith}
use native.Mathlib.Numerals.{add-one}
use native.Mathlib.Decide.{dec_lt}
use native.Mathlib.Nat.{pow-le-pow_right}
use lib.Arith.{digits_div, digits_mod}
use lib.Pow.{pow_pos, pow_mono}
use lib.Dec.{ltb, leb}
use lib.ListN.{length, get_or, set, take, drop, length-append}
use lib.Seq.{sets, sets-eq, length-take-le, append_snoc, drop_at, take_at, get_or-append_seam}
use borrow.Author.Tests.{lt-ltb, leb-true, ltb-true, ltb-false, ne_eqb}
use Rattle.base.specs.Numbers.{Bytes, number, octets}
use Rattle.base.proofs.Conds.{by_test, cond_cases}
use Rattle.base.proofs.NumberLaws.{length_octets, octets_bytes, number_octets, number_below, bytes_take, bytes_drop}
use Rattle.ring.specs.Ring.{run}
use Rattle.ring.proofs.Runs.{run_length}
use Rattle.head.specs.Initial.{major_of, initial_of, initial}
use Rattle.head.specs.Read.{long_at, simple_at, head_by, head_at}
use Rattle.head.specs.Write.{width_of, shortest}
use Rattle.head.specs.Inside.{length_of}
use Rattle.head.specs.Besides.Write.{ReadsBack, NoneShorter}
use Rattle.head.specs.declared.Initial.{Initial}
use Rattle.head.specs.declared.Initial.TheVariants as says
use Rattle.head.specs.declared.read.Head.{Head}
use Rattle.head.specs.declared.read.Head.TheVariants.{Definite, Indefinite, Break, Short, Bad}
use Rattle.head.specs.declared.write.Width.{Width}
use Rattle.head.proofs.ReadLaws.{long_here, head_by_lem, Sound, sound}

-- it is 1, 2, 3, 5 or 9 bytes long
pub shortest_length : (m v : ℕ) → length (shortest m v) ≡ length_of v
unfolding shortest
shortest_length m v = rw length_octets (sym (add-one (width_of v).bytes))

-- its first byte stored, and then the bytes of the argument
pub shortest_stored : (l : List ℕ) (at m v : ℕ) {w : Width} {t : List ℕ} → w ≡ width_of v
    → t ≡ sets (set l at (m * 32 + w.info)) (at + 1) (octets w.bytes v) → t ≡ sets l at (shortest m v)
unfolding shortest
shortest_stored l at m v e g =
    g ∙ ap (λ (w : Width). sets (set l at (m * 32 + w.info)) (at + 1) (octets w.bytes v)) e ∙ rw add-one

-- ---- where the argument is

widths : (d e : ℕ) → d ≤ e → 256 ^ (2 ^ d) ≤ 256 ^ (2 ^ e)
widths d e h = pow-le-pow_right {n = 256} (omega arith) (pow_mono h)

-- the additional information i and the k bytes that follow, of the argument v: it is in the initial byte itself, or in
-- 2 ^ e bytes, which are needed
data Tier (v : ℕ) : ℕ → ℕ → Type 0 where
  inside : v < 24 → Tier v v 0
  behind : (e : ℕ) → e ≤ 3 → v < 256 ^ (2 ^ e) → ((d : ℕ) → d < e → 256 ^ (2 ^ d) ≤ v) → Tier v (24 + e) (2 ^ e)

tier : (v : ℕ) → v < 2 ^ 64 → Tier v (width_of v).info (width_of v).bytes
tier v h =
    by_test (ltb v 24) (λ t. rw t (inside (ltb-true v 24 t)))
    (λ t.
    by_test (ltb v 256) (λ u. rw (t, u) (behind 0 (omega arith) (omega (arith, ltb-true v 256 u)) (λ d l. absurd (omega arith))))
    (λ u.
    by_test (ltb v 65536)
    (λ w. rw (t, u, w) (behind 1 (omega arith) (omega (arith, ltb-true v 65536 w)) (least 0 (ltb-false v 256 u))))
    (λ w.
    by_test (ltb v 4294967296)
    (λ x. rw (t, u, w, x) (behind 2 (omega arith) (omega (arith, ltb-true v 4294967296 x)) (least 1 (ltb-false v 65536 w))))
    (λ x. rw (t, u, w, x) (behind 3 (omega arith) (omega arith) (least 2 (ltb-false v 4294967296 x)))))))
  where
    least : (e : ℕ) → 256 ^ (2 ^ e) ≤ v → (d : ℕ) → d < e + 1 → 256 ^ (2 ^ d) ≤ v
    least e l d less = omega (arith, widths d e (omega arith))

-- ---- what is written is read back

initial_inside : (m v : ℕ) → v < 24 → initial (m * 32 + v) ≡ says.Short (major_of m) v
unfolding initial
initial_inside m v h =
    ap (λ (q : ℕ). initial_of q ((m * 32 + v) % 32)) (digits_div m {m = 32} {r = v} (omega arith))
    ∙ ap (initial_of m) (digits_mod m {m = 32} {r = v} (omega arith))
    ∙ rw (lt-ltb v 24 h)

-- additional information 24 to 27
announced : (m e : ℕ) → m < 7 → e ≤ 3 → initial_of m (24 + e) ≡ says.Long (major_of m) (2 ^ e - 1)
announced m zero l h = rw (ne_eqb m 7 (λ q. omega arith))
announced m (suc zero) l h = refl
announced m (suc (suc zero)) l h = refl
announced m (suc (suc (suc zero))) l h = refl
announced m (suc (suc (suc (suc e)))) l h = absurd (omega arith)

initial_behind : (m e : ℕ) → m < 7 → e ≤ 3 → initial (m * 32 + (24 + e)) ≡ says.Long (major_of m) (2 ^ e - 1)
unfolding initial
initial_behind m e l h =
    ap (λ (q : ℕ). initial_of q ((m * 32 + (24 + e)) % 32)) (digits_div m {m = 32} {r = 24 + e} (omega arith))
    ∙ ap (initial_of m) (digits_mod m {m = 32} {r = 24 + e} (omega arith))
    ∙ announced m e l h

-- the run that stands behind a byte
run_behind : (xs : List ℕ) (b : ℕ) (ys zs : List ℕ) → run (xs ++ (b ∷ (ys ++ zs))) (length xs + 1) (length ys) ≡ ys
run_behind xs b ys zs =
    ap (λ (l : List ℕ). run l (length xs + 1) (length ys)) (sym (append_snoc xs b (ys ++ zs)))
    ∙ ap (take (length ys)) (drop_at (xs ++ (b ∷ [])) (ys ++ zs) (length xs + 1) (length-append xs (b ∷ [])))
    ∙ take_at ys zs (length ys) refl

read_back : (m v i k : ℕ) (before after : List ℕ) → m < 7 → Tier v i k
    → head_at (before ++ ((m * 32 + i) ∷ (octets k v ++ after))) (length before) ≡ Definite m v (length before + 1 + k)
unfolding head_by octets
read_back m v i k before after l (inside h) =
    let b : ℕ = m * 32 + v in
    let bs : List ℕ = before ++ (b ∷ after) in
    let long : length bs ≡ length before + suc (length after) = length-append before (b ∷ after) in
    let next : length before + 1 ≡ length before + 1 + 0 = omega arith in
    head_by_lem bs {at = length before} (omega arith) (sym (get_or-append_seam before b after 0)) refl (initial_inside m v h)
    ∙ ap (λ (q : ℕ). Definite q v (length before + 1)) (digits_div m {m = 32} {r = v} (omega arith))
    ∙ ap (Definite m v) next
read_back m v i k before after l (behind e h fits _) =
    let b : ℕ = m * 32 + (24 + e) in
    let w : ℕ = 2 ^ e in
    let rest : List ℕ = octets w v ++ after in
    let bs : List ℕ = before ++ (b ∷ rest) in
    let at : ℕ = length before + 1 in
    let size : length (octets w v) ≡ w = length_octets w v in
    let more : length rest ≡ length (octets w v) + length after = length-append (octets w v) after in
    let long : length bs ≡ length before + suc (length rest) = length-append before (b ∷ rest) in
    let whole : w - 1 + 1 ≡ w = omega (arith, pow_pos e) in
    let there : run bs at w ≡ octets w v = rw size at (run_behind before b (octets w v) after) in
    head_by_lem bs {at = length before} (omega arith) (sym (get_or-append_seam before b rest 0)) refl (initial_behind m e l h)
    ∙ ap (λ (n : ℕ). long_at bs (b / 32) n at) whole
    ∙ ap (λ (q : ℕ). long_at bs q w at) (digits_div m {m = 32} {r = 24 + e} (omega arith))
    ∙ long_here bs m w at (omega arith)
    ∙ ap (λ (n : ℕ). Definite m n (at + w)) (ap number there ∙ number_octets w v fits)

pub reads_back : ReadsBack
unfolding shortest
reads_back m v before after l h =
    let next : length before + 1 + (width_of v).bytes ≡ length before + length (shortest m v) = omega (arith, shortest_length m v) in
    read_back m v (width_of v).info (width_of v).bytes before after l (tier v h) ∙ ap (Definite m v) next

-- so it is read where it was stored
pub reads_stored : (l : List ℕ) (at m v : ℕ) → m < 7 → v < 2 ^ 64 → at + length_of v ≤ length l
    → head_at (sets l at (shortest m v)) at ≡ Definite m v (at + length_of v)
reads_stored l at m v h fits room =
    let xs : List ℕ = shortest m v in
    let long : length xs ≡ length_of v = shortest_length m v in
    let front : length (take at l) ≡ at = length-take-le at l (omega arith) in
    let rest : List ℕ = drop (at + length xs) l in
    ap (λ (bs : List ℕ). head_at bs at) (sets-eq xs l at (omega arith) ∙ append_assoc (take at l) xs rest)
    ∙ rw front at (reads_back m v (take at l) rest h fits)
    ∙ ap (λ (n : ℕ). Definite m v (at + n)) long

-- ---- no other head is shorter

-- an argument that 2 ^ e bytes can hold is written in no more
width_least : (v e : ℕ) → e ≤ 3 → v < 256 ^ (2 ^ e) → (width_of v).bytes ≤ 2 ^ e
width_least v e h fits = least (tier v (omega (arith, widths e 3 h)))
  where
    least : {i k : ℕ} → Tier v i k → k ≤ 2 ^ e
    least (inside _) = omega arith
    least (behind d _ _ needed) = elim (dec_lt e d) [
      | yes y ↦ absurd (omega (arith, needed e y))
      | no x ↦ let le : d ≤ e = omega arith in pow_mono le
    ]

width_inside : (v : ℕ) → v < 24 → (width_of v).bytes ≡ 0
width_inside v h = rw (lt-ltb v 24 h)

-- one byte of a list of bytes
byte_below : (xs : List ℕ) (i : ℕ) → Bytes xs → get_or xs i 0 < 256
unfolding Bytes
byte_below [] i b = omega arith
byte_below (x ∷ xs) zero (h, b) = h
byte_below (x ∷ xs) (suc i) (h, b) = byte_below xs i b

-- a head whose initial byte is in front of a place leaves room for the bytes that must follow
Least : ℕ → Head → Type 0
Least at (Definite _ v next) = at + (width_of v).bytes ≤ next
Least at (Indefinite _ _) = Unit {0}
Least at (Break _) = Unit {0}
Least at Short = Unit {0}
Least at Bad = Unit {0}

module _ (bs : List ℕ) (b : Bytes bs) where
  long_least : (m e at : ℕ) → e ≤ 3 → Least at (long_at bs m (2 ^ e) at)
  unfolding long_at Least
  long_least m e at h =
      cond_cases (Least at) (leb (at + 2 ^ e) (length bs))
      (λ t.
      let part : List ℕ = run bs at (2 ^ e) in
      let size : length part ≡ 2 ^ e = run_length bs at (2 ^ e) (leb-true _ _ t) in
      let low : number part < 256 ^ length part = number_below part (bytes_take (2 ^ e) (drop at bs) (bytes_drop at bs b)) in
      omega (arith, width_least (number part) e h (rw size at low)))
      (λ _. tt)

  simple_least : (at : ℕ) → Least at (simple_at bs at)
  unfolding simple_at Least
  simple_least at =
      cond_cases (Least at) (ltb at (length bs))
      (λ _.
      cond_cases (Least at) (ltb (get_or bs at 0) 32) (λ _. tt)
      (λ _. omega (arith, width_least (get_or bs at 0) 0 (omega arith) (byte_below bs at b))))
      (λ _. tt)

  head_least : (m at : ℕ) (i : Initial) → Sound m i → Least at (head_by i bs m at)
  unfolding head_by Least Sound
  head_least m at (says.Short _ v) s = omega (arith, width_inside v s.1)
  head_least m at (says.Long _ k) (_, (e, h, w)) = rw w (long_least m e at h)
  head_least m at (says.Indefinite _) s = tt
  head_least m at says.Simple s = simple_least at
  head_least m at says.Break s = tt
  head_least m at says.Reserved s = tt

  least : (at : ℕ) → Least (at + 1) (head_at bs at)
  unfolding head_at Least
  least at =
      cond_cases (Least (at + 1)) (ltb at (length bs))
      (λ _. head_least (get_or bs at 0 / 32) (at + 1) (initial (get_or bs at 0)) (sound (get_or bs at 0)))
      (λ _. tt)

pub none_shorter : NoneShorter
unfolding Least
none_shorter bs at m v next b e =
    let room : at + 1 + (width_of v).bytes ≤ next = subst (Least (at + 1)) e (least bs b at) in
    omega (arith, shortest_length m v)

-- what an initial byte says is below 32
info_low : (v : ℕ) → (width_of v).info < 32
info_low v =
    let Low : Width → Type 0 = λ w. w.info < 32 in
    cond_cases Low (ltb v 24) (λ t. omega (arith, ltb-true v 24 t))
    (λ _.
    cond_cases Low (ltb v (2 ^ 8)) (λ _. omega arith)
    (λ _. cond_cases Low (ltb v (2 ^ 16)) (λ _. omega arith) (λ _. cond_cases Low (ltb v (2 ^ 32)) (λ _. omega arith) (λ _. omega arith))))

-- and it is bytes
pub shortest_bytes : (m v : ℕ) → m < 8 → Bytes (shortest m v)
unfolding shortest Bytes
shortest_bytes m v h = (omega (arith, info_low v), octets_bytes (width_of v).bytes v)
