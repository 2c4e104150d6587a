-- Laws of tables by protocol: each protocol's entries lie together, as many as it has from its first on, and a search along them is one of that
-- protocol's entries. What a new protocol or entry changes is the tables; of the laws only `placed` names the protocols.
-- Assumes nothing.
use mathlib.Core.Path.{◌≡◌, refl, sym, ap, subst, ◌∙◌}
use mathlib.Core.Bool.{Bool, true, false, cond}
use mathlib.Core.List.{List, [], ◌∷◌, ◌++◌, map, append_assoc}
use Prim.Native.Nat.{ℕ, suc, ◌+◌, ◌-◌, ◌<◌, ◌≤◌}
use native.Mathlib.Omega.{arith}
use native.Mathlib.Numerals.{add-one}
use lib.Dec.{T, eqb, eqb→eq}
use lib.ListN.{length, get_or, take, drop, length-append}
use lib.Seq.{drop-cons, split_at, take-append_seam, drop-append_seam}
use Rattle.base.proofs.ListLaws.{get_or-map}
use Rattle.base.proofs.Table.{every, at}
use Rattle.rows.specs.declared.Protocol.{Protocol}
use Rattle.rows.specs.declared.Protocol.TheVariants.{Handshake, ChainSync, BlockFetch, TxSubmission, KeepAlive, LocalTxSubmission, LocalStateQuery}
use Rattle.rows.specs.Inside.{place_of, protocols, entries, table, first_in, count_in}

-- each protocol stands at its place
placed : (p : Protocol) → (place_of p < length protocols) × (get_or protocols (place_of p) Handshake ≡ p)
placed Handshake = (omega arith, refl)
placed ChainSync = (omega arith, refl)
placed BlockFetch = (omega arith, refl)
placed TxSubmission = (omega arith, refl)
placed KeepAlive = (omega arith, refl)
placed LocalTxSubmission = (omega arith, refl)
placed LocalStateQuery = (omega arith, refl)

-- what a test says of all protocols it says of each
pub each_protocol : (test : Protocol → Bool) → T (every Handshake (λ i. test) 0 protocols) → (p : Protocol) → T (test p)
each_protocol test t p = subst (λ (q : Protocol). T (test q)) (placed p).1 (at Handshake (λ i. test) protocols t (place_of p) (placed p).0)

-- a number for each protocol
pub number_of : (f : Protocol → ℕ) (p : Protocol) → get_or (map f protocols) (place_of p) 0 ≡ f p
number_of f p = get_or-map f protocols (place_of p) Handshake 0 (placed p).0 ∙ ap f (placed p).1

-- a table whose entries are each one number: what a test says of all entries and their numbers it says of each
module _ {A : Type 0} (xs : List A) (past : A) (in_one : A → ℕ) where
  pub entry : (test : ℕ → A → Bool) → T (every past (λ i x. test (in_one x) x) 0 xs)
      → (i : ℕ) → i < length xs → T (test (get_or (map in_one xs) i 0) (get_or xs i past))
  entry test t i h = rw (get_or-map in_one xs i past 0 h) (at past (λ i x. test (in_one x) x) xs t i h)

  -- a column of it
  pub column : (f : ℕ → ℕ) (g : A → ℕ) → T (every past (λ i x. eqb (f (in_one x)) (g x)) 0 xs)
      → (i : ℕ) → i < length xs → f (get_or (map in_one xs) i 0) ≡ g (get_or xs i past)
  column f g t i h = eqb→eq (f (get_or (map in_one xs) i 0)) (g (get_or xs i past)) (entry (λ n x. eqb (f n) (g x)) t i h)

-- a search: of the first entry that passes the test it says something; what stands past the table's end is no entry
pub record Search (A B : Type 0) : Type 0 where
  pub past : A
  pub test : A → Bool
  pub said : A → B
  pub along : List A → B
  pub each : (x : A) (xs : List A) → along (x ∷ xs) ≡ cond (test x) (said x) (along xs)

module _ {A : Type 0} (of : Protocol → List A) where
  joined : (ps qs : List Protocol) → entries of (ps ++ qs) ≡ entries of ps ++ entries of qs
  unfolding entries
  joined [] qs = refl
  joined (p ∷ ps) qs = ap (λ (l : List A). of p ++ l) (joined ps qs) ∙ sym (append_assoc (of p) (entries of ps) (entries of qs))

  abbrev front : Protocol → List A
  front p = entries of (take (place_of p) protocols)

  abbrev behind : Protocol → List A
  behind p = entries of (drop (suc (place_of p)) protocols)

  parts : (p : Protocol) → table of ≡ front p ++ (of p ++ behind p)
  unfolding entries
  parts p =
      ap (entries of) (split_at protocols (place_of p) Handshake (placed p).0)
      ∙ joined (take (place_of p) protocols) (get_or protocols (place_of p) Handshake ∷ drop (suc (place_of p)) protocols)
      ∙ ap (λ (q : Protocol). front p ++ (of q ++ behind p)) (placed p).1

  pub ends : (p : Protocol) → first_in of p + count_in of p ≤ length (table of)
  ends p = omega (arith, ap length (parts p) ∙ length-append (front p) (of p ++ behind p), length-append (of p) (behind p))

  lie : (p : Protocol) → take (count_in of p) (drop (first_in of p) (table of)) ≡ of p
  lie p =
      ap (λ (l : List A). take (count_in of p) (drop (first_in of p) l)) (parts p)
      ∙ ap (take (count_in of p)) (drop-append_seam (front p) (of p ++ behind p))
      ∙ take-append_seam (of p) (behind p)

  -- the entries from i up to the end e
  abbrev between : ℕ → ℕ → List A
  between i e = take (e - i) (drop i (table of))

  between_all : (p : Protocol) (a n : ℕ) → a ≡ first_in of p → n ≡ count_in of p → between a (a + n) ≡ of p
  between_all p a n e f =
      let k : a + n - a ≡ n = omega arith in
      rw (k, e, f) (lie p)

  between_none : (i : ℕ) → between i i ≡ []
  between_none i = let z : i - i ≡ 0 = omega arith in rw z

  between_more : (d : A) (i e : ℕ) → i < e → e ≤ length (table of) → between i e ≡ get_or (table of) i d ∷ between (i + 1) e
  between_more d i e h l =
      let n : e - i ≡ suc (e - (i + 1)) = omega arith in
      rw (n, add-one i, drop-cons (table of) i d (omega arith))

  module _ {B : Type 0} (s : Search A B) where
    -- a search that has come to i: the entries from there on say what all from a up to e do
    pub record Come (a e i : ℕ) : Type 0 where
      pub up_to : i ≤ e
      pub inside : e ≤ length (table of)
      pub same : s.along (between i e) ≡ s.along (between a e)

    -- it begins at a protocol's first entry
    pub begun : (p : Protocol) {a n : ℕ} → a ≡ first_in of p → n ≡ count_in of p → Come a (a + n) a
    begun p from size = record { up_to = omega arith; inside = omega (arith, ends p); same = refl }

    abbrev here : ℕ → A
    here i = get_or (table of) i s.past

    tests : (i e : ℕ) → i < e → e ≤ length (table of) → s.along (between i e) ≡ cond (s.test (here i)) (s.said (here i)) (s.along (between (i + 1) e))
    tests i e h l = ap s.along (between_more s.past i e h l) ∙ s.each (here i) (between (i + 1) e)

    pub onward : {a e i : ℕ} → Come a e i → i < e → s.test (here i) ≡ false → Come a e (i + 1)
    onward {a} {e} {i} k m t = record { up_to = omega arith; inside = k.inside; same = sym (rw t at (tests i e m k.inside)) ∙ k.same }

    module _ (p : Protocol) {a n i : ℕ} (from : a ≡ first_in of p) (size : n ≡ count_in of p) (come : Come a (a + n) i) where
      pub found : i < a + n → s.test (here i) ≡ true → s.said (here i) ≡ s.along (of p)
      found m t = sym (rw t at (tests i (a + n) m come.inside)) ∙ come.same ∙ ap s.along (between_all p a n from size)

      pub none_found : (i < a + n → ⊥) → s.along [] ≡ s.along (of p)
      none_found m =
          let e : i ≡ a + n = omega arith in
          sym (ap s.along (ap (λ (k : ℕ). between k (a + n)) e ∙ between_none (a + n))) ∙ come.same ∙ ap s.along (between_all p a n from size)
