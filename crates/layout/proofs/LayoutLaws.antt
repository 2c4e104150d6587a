-- Laws of the bytes of a message: room for them, and one field after the other.
-- Assumes nothing.
use Prim.Native.Nat.{ℕ, ◌+◌, ◌<◌}
use mathlib.Core.Path.{◌≡◌, refl, sym, ap, ◌∙◌}
use mathlib.Core.Bool.{Bool, true, false, false≢true}
use mathlib.Core.List.{List, [], ◌++◌}
use native.Mathlib.Omega.{arith}
use lib.ListN.{length, get_or, drop, length-append}
use lib.Seq.{sets, take-length}
use Rattle.base.proofs.Conds.{by_test}
use Rattle.base.proofs.ListLaws.{sets_append}
use Rattle.ring.specs.Ring.{run}
use Rattle.head.specs.Inside.{length_of}
use Rattle.head.specs.Write.{shortest}
use Rattle.head.proofs.WriteLaws.{shortest_length}
use Rattle.elements.specs.declared.Field.{Field}
use Rattle.elements.specs.declared.Field.TheVariants as field
use Rattle.elements.specs.Matching.{array}
use Rattle.parts.specs.Inside.{run_at, run_after}
use Rattle.parts.proofs.PartLaws.{field_next, field-none}
use Rattle.layout.specs.Inside.{headless, major_of, open_in, head_of, tail_of, break_of, own_length, Put, piece_of, body_of, heads_of, whole_of}

-- ---- a head, and a break, if the field has one

-- an item has no head, and none of indefinite length
headless_not_open : (asked : Bool) (f : Field) → headless f ≡ true → open_in asked f ≡ false
headless_not_open asked field.Item t = refl
headless_not_open asked (field.List e) t = absurd (false≢true t)
headless_not_open asked (field.Below limit) t = refl
headless_not_open asked field.Bool t = refl

module _ (asked : Bool) (f : Field) (a : ℕ) where
  pub own_long : length (head_of asked f a) + length (break_of asked f) ≡ own_length asked f a
  own_long =
      by_test (headless f) (λ t. rw (t, headless_not_open asked f t))
      (λ t. by_test (open_in asked f) (λ u. rw (t, u)) (λ u. rw (t, u) (omega (arith, shortest_length (major_of f) a))))

  -- the shortest head
  pub short_head : headless f ≡ false → open_in asked f ≡ false → head_of asked f a ≡ shortest (major_of f) a
  short_head t u = rw (t, u)

-- the shortest head, by its length
pub head_there : (buf : List ℕ) (at v : ℕ) {m k q : ℕ} {after : List ℕ} → m ≡ k → q ≡ at + length_of v → after ≡ sets buf at (shortest m v)
    → Put buf at (shortest k v) q after
head_there buf at v {m} {k} em eq ea =
    (eq ∙ ap (λ (n : ℕ). at + n) (sym (shortest_length k v)), ea ∙ ap (λ (m : ℕ). sets buf at (shortest m v)) em)

-- ---- a run, if the field has one

pub run_all : (xs : List ℕ) → run xs 0 (length xs) ≡ xs
run_all xs = take-length xs

pub tail_there : (buf : List ℕ) (at : ℕ) (xs : List ℕ) {ys after : List ℕ} {q : ℕ} → ys ≡ xs → Put buf at xs q after → Put buf at ys q after
tail_there buf at xs e (eq, ea) = (eq ∙ ap (λ (l : List ℕ). at + length l) (sym e), ea ∙ ap (sets buf at) (sym e))

-- one run behind the other
pub both_there : (buf : List ℕ) (at : ℕ) (xs ys : List ℕ) {b q : ℕ} {half after : List ℕ} → Put buf at xs b half → Put half b ys q after
    → Put buf at (xs ++ ys) q after
both_there buf at xs ys {b} {q} {half} {after} (eb, eh) (eq, ea) = (
  omega (arith, eb, eq, length-append xs ys),
  ea
      ∙ ap (λ (l : List ℕ). sets l b ys) eh
      ∙ ap (λ (k : ℕ). sets (sets buf at xs) k ys) eb
      ∙ sym (sets_append buf at xs ys),
)

-- ---- a field

module _ (asked : Bool) (f : Field) (a : ℕ) (xs : List ℕ) where
  pub piece_parts : length (piece_of asked f a xs) ≡ length (head_of asked f a) + (length (tail_of f xs) + length (break_of asked f))
  unfolding piece_of
  piece_parts =
      length-append (head_of asked f a) (tail_of f xs ++ break_of asked f)
      ∙ ap (λ (n : ℕ). length (head_of asked f a) + n) (length-append (tail_of f xs) (break_of asked f))

  pub piece_long : length (piece_of asked f a xs) ≡ own_length asked f a + length (tail_of f xs)
  piece_long = omega (arith, piece_parts, own_long asked f a)

  pub piece_there : (buf : List ℕ) (at : ℕ) {b e q : ℕ} {half most after : List ℕ} → Put buf at (head_of asked f a) b half
      → Put half b (tail_of f xs) e most → Put most e (break_of asked f) q after → Put buf at (piece_of asked f a xs) q after
  unfolding piece_of
  piece_there buf at {b} {half = half} h t k =
      both_there buf at (head_of asked f a) (tail_of f xs ++ break_of asked f) h (both_there half b (tail_of f xs) (break_of asked f) t k)

-- ---- one field after the other

module _ (asked : Bool) (fs : List Field) (args : List ℕ) (i : ℕ) where
  pub heads_on : {f : Field} → i < length fs → f ≡ get_or fs i field.Item
      → heads_of asked (drop i fs) args i ≡ own_length asked f (get_or args i 0) + heads_of asked (drop (i + 1) fs) args (i + 1)
  unfolding heads_of
  heads_on h e = ap (λ (l : List Field). heads_of asked l args i) (field_next fs i h e)

  pub heads_end : i ≡ length fs → heads_of asked (drop i fs) args i ≡ 0
  unfolding heads_of
  heads_end e = ap (λ (l : List Field). heads_of asked l args i) (field-none fs i e)

  module _ (first second : List ℕ) (r : ℕ) where
    pub body_on : {f : Field} → i < length fs → f ≡ get_or fs i field.Item
        → body_of asked first second (drop i fs) args i r
        ≡ piece_of asked f (get_or args i 0) (run_at first second r) ++ body_of asked first second (drop (i + 1) fs) args (i + 1) (run_after f r)
    unfolding body_of
    body_on h e = ap (λ (l : List Field). body_of asked first second l args i r) (field_next fs i h e)

    pub body_end : i ≡ length fs → body_of asked first second (drop i fs) args i r ≡ []
    unfolding body_of
    body_end e = ap (λ (l : List Field). body_of asked first second l args i r) (field-none fs i e)

-- what is left to be put, behind what was put
module _ (buf : List ℕ) (at : ℕ) (piece rest : List ℕ) {all : List ℕ} (e : all ≡ piece ++ rest) where
  pub put_on : {q : ℕ} {after : List ℕ} → q ≡ at + length piece → after ≡ sets buf at piece → sets after q rest ≡ sets buf at all
  put_on {q} {after} eq ea =
      ap (λ (l : List ℕ). sets l q rest) ea
      ∙ ap (λ (k : ℕ). sets (sets buf at piece) k rest) eq
      ∙ sym (ap (sets buf at) e ∙ sets_append buf at piece rest)

-- ---- the message

pub whole_long : (asked : Bool) (first second : List ℕ) (fs : List Field) (kind : ℕ) (args : List ℕ)
    → length (whole_of asked first second fs kind args) ≡ length_of (length fs + 1) + length_of kind + length (body_of asked first second fs args 0 0)
whole_long asked first second fs kind args =
    let body : List ℕ = body_of asked first second fs args 0 0 in
    omega (
      arith,
      length-append (shortest array (length fs + 1)) (shortest 0 kind ++ body),
      length-append (shortest 0 kind) body,
      shortest_length array (length fs + 1),
      shortest_length 0 kind,
    )

-- array, kind and fields put one behind the other
pub whole_there : (buf body : List ℕ) (k kind : ℕ) {a b : ℕ} {one two three : List ℕ} → (a ≡ 0 + length_of k) × (one ≡ sets buf 0 (shortest array k))
    → (b ≡ a + length_of kind) × (two ≡ sets one a (shortest 0 kind)) → three ≡ sets two b body
    → three ≡ sets buf 0 (shortest array k ++ (shortest 0 kind ++ body))
whole_there buf body k kind {a} {b} {one} {two} (ea, e1) (eb, e2) e3 =
    let la : a ≡ 0 + length (shortest array k) = omega (arith, shortest_length array k) in
    let lb : b ≡ a + length (shortest 0 kind) = omega (arith, shortest_length 0 kind) in
    e3 ∙ put_on one a (shortest 0 kind) body refl lb e2 ∙ put_on buf 0 (shortest array k) (shortest 0 kind ++ body) refl la e1
