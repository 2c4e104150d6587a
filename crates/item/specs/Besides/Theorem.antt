-- What the verdict means (document 01, "CBOR"), as statements; the proofs are in proofs/Theorem.antt.
use Rattle.std.specs.Prelude.{ℕ, suc, ◌+◌, ◌≤◌, ◌<◌, List, ◌∷◌, ◌++◌, ◌≡◌, ◌↔◌, length, take, Ok, Err}
use Rattle.base.specs.Numbers.{Bytes}
use Rattle.item.specs.declared.NotWhole.TheVariants.{Bad, Incomplete}
use Rattle.item.specs.Grammar.{Frame, Reads, one, no_more, item, end_array, element, end_map, key, value, end_string, chunk, no_byte, byte}
use Rattle.item.specs.Grammar.{simple, last, digit, Item}
use Rattle.item.specs.Verdict.{judge, start, Verdict}
use Rattle.item.specs.Besides.Verdict.{heads}

-- Incomplete: a proper prefix of a well-formed item within the nesting.
abbrev pub Begun : ℕ → List ℕ → Type 0
Begun d bs = (b : ℕ) × (cs : List ℕ) × Item d (bs ++ (b ∷ cs)) × Bytes (b ∷ cs)

-- The first n bytes are a well-formed item within the nesting.
abbrev pub Begins : ℕ → List ℕ → ℕ → Type 0
Begins d bs n = (n ≤ length bs) × Item d (take n bs)

-- What each verdict says. Bad at n: an item is still possible after n bytes, and after one byte more none is.
abbrev pub Says : ℕ → List ℕ → Verdict → Type 0
Says d bs (Ok n) = Begins d bs n
Says d bs (Err (Bad n)) = (n < length bs) × Begun d (take n bs) × ((cs : List ℕ) → Item d (take (suc n) bs ++ cs) → ⊥)
Says d bs (Err Incomplete) = Begun d bs

-- The verdict is v if and only if what v says holds: one of the three, one only, and the first bad byte.
abbrev pub Exactly : Type 0
Exactly = (d : ℕ) (bs : List ℕ) (v : Verdict) → (judge bs 0 (start d) ≡ v) ↔ Says d bs v

-- Bad, in document 01's words: no such prefix, and not beginning with such an item.
abbrev pub BadIsNeither : Type 0
BadIsNeither =
    (d : ℕ) (bs : List ℕ)
    → ((n : ℕ) × (judge bs 0 (start d) ≡ Err (Bad n))) ↔ ((Begun d bs → ⊥) × ((n : ℕ) → Begins d bs n → ⊥))

-- Which byte (document 02, K3): where the verdict is bad at n, the first n bytes are incomplete, and with one more they are bad. That holds of no
-- other n, so n is one number, whatever comes behind.
pub record FirstBad (d : ℕ) (bs : List ℕ) (n : ℕ) : Type 0 where
  pub so : judge bs 0 (start d) ≡ Err (Bad n) → (judge (take n bs) 0 (start d) ≡ Err Incomplete) × (judge (take (suc n) bs) 0 (start d) ≡ Err (Bad n))
  pub only : (m : ℕ) → judge (take n bs) 0 (start d) ≡ Err Incomplete → judge (take (suc n) bs) 0 (start d) ≡ Err (Bad m) → judge bs 0 (start d) ≡ Err (Bad n)

abbrev pub WhichByte : Type 0
WhichByte = (d : ℕ) (bs : List ℕ) (n : ℕ) → FirstBad d bs n

-- An item within a nesting is one within a greater nesting.
abbrev pub NestingMonotone : Type 0
NestingMonotone = (d : ℕ) (bs : List ℕ) → Item d bs → Item (suc d) bs

-- An item has one end: no item is a proper prefix of another.
abbrev pub OneEnd : Type 0
OneEnd = (d : ℕ) (f : Frame) (bs cs ds : List ℕ) → Reads d f bs cs → Reads d f bs ds → cs ≡ ds

-- The heads of what the grammar reads: each item and each chunk has one, and each break is one.
abbrev pub heads_in : {d : ℕ} {f : Frame} {bs cs : List ℕ} → Reads d f bs cs → ℕ
heads_in (one p g) = 1 + heads_in g
heads_in no_more = 0
heads_in (item g h) = heads_in g + heads_in h
heads_in (end_array p) = 1
heads_in (element g h) = heads_in g + heads_in h
heads_in (end_map p) = 1
heads_in (key g h) = heads_in g + heads_in h
heads_in (value g h) = heads_in g + heads_in h
heads_in (end_string p) = 1
heads_in (chunk p g h) = 1 + heads_in g + heads_in h
heads_in no_byte = 0
heads_in (byte g) = heads_in g
heads_in (simple p) = 0
heads_in (last g) = heads_in g
heads_in (digit g) = heads_in g

-- The heads counted in the bytes of an item are those that the grammar reads.
abbrev pub HeadsRead : Type 0
HeadsRead = (d : ℕ) (bs : List ℕ) (g : Item d bs) → heads bs (start d) ≡ heads_in g
