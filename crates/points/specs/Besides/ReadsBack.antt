-- "Arrays of either length form, the hash definite": a point or a tip written with heads of any width reads back as itself.
use Rattle.std.specs.Prelude.{ℕ, ◌≡◌, List, [], ◌∷◌, ◌++◌, length, Ok}
use Rattle.head.specs.Read.{head_at}
use Rattle.head.specs.declared.read.Head.TheVariants.{Definite}
use Rattle.points.specs.declared.Place.{Place}
use Rattle.points.specs.declared.Place.TheVariants.{Origin, Block}
use Rattle.points.specs.Points.{unsigned, bytes, array, hash_at, point, tip_with, point_of, tip_of}

-- Bytes that are one head of major type m with argument v, of definite length: in the initial byte, or in as many bytes behind it as there are widths,
-- whether the argument needs them or not.
abbrev pub HeadOf : ℕ → ℕ → List ℕ → Type 0
HeadOf m v h = head_at h 0 ≡ Definite m v (length h)

-- An array of k elements, whose bytes are xs: behind its head, or between 9f and the break ff.
pub data ArrayOf (k : ℕ) (xs : List ℕ) : List ℕ → Type 0 where
  definite : (h : List ℕ) → HeadOf array k h → ArrayOf k xs (h ++ xs)
  indefinite : ArrayOf k xs (0x9f ∷ (xs ++ (0xff ∷ [])))

pub data PointOf : Place → List ℕ → Type 0 where
  origin : {bs : List ℕ} → ArrayOf 0 [] bs → PointOf Origin bs
  block : (slot : ℕ) (g h hash : List ℕ) {bs : List ℕ} → HeadOf unsigned slot g → HeadOf bytes 32 h → length hash ≡ 32 → ArrayOf 2 (g ++ (h ++ hash)) bs
      → PointOf (Block (point slot (hash_at hash 0))) bs

pub data TipOf : Place → ℕ → List ℕ → Type 0 where
  tip : {place : Place} {n : ℕ} (p h : List ℕ) {bs : List ℕ} → PointOf place p → HeadOf unsigned n h → ArrayOf 2 (p ++ h) bs → TipOf place n bs

abbrev pub PointBack : Type 0
PointBack = (place : Place) (bs : List ℕ) → PointOf place bs → point_of bs ≡ Ok place

abbrev pub TipBack : Type 0
TipBack = (place : Place) (n : ℕ) (bs : List ℕ) → TipOf place n bs → tip_of bs ≡ Ok (tip_with place n)
