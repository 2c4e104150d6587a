-- Items that are points or tips, and some that are not, and what reading them answers.
use Rattle.std.specs.Prelude.{ℕ, ◌≡◌, List, [], ◌∷◌, ◌++◌, replicate, Result, Ok, Err}
use Rattle.points.specs.declared.Hash.{Hash}
use Rattle.points.specs.declared.Point.{Point}
use Rattle.points.specs.declared.Place.TheVariants.{Origin, Block}
use Rattle.points.specs.declared.NotAPoint.{NotAPoint}
use Rattle.points.specs.Points.{point, tip_with, refused, point_of, tip_of}

-- the hash whose words are all the same
abbrev pub all : ℕ → Hash
all w = record { a = w; b = w; c = w; d = w }

-- slot 5, and a hash of 32 bytes that are each b: 0xab, or 0x00
abbrev pub item : ℕ → List ℕ
item b = 0x82 ∷ 0x05 ∷ 0x58 ∷ 0x20 ∷ replicate 32 b

abbrev pub five : Point
five = point 5 (all 12370169555311111083)

-- 29
abbrev pub none : {A : Type 0} → Result A NotAPoint
none = Err refused

pub record Edges : Type 0 where
  pub block : point_of (item 0xab) ≡ Ok (Block five)
  pub zeros : point_of (item 0x00) ≡ Ok (Block (point 5 (all 0)))
  -- the origin, of either form, and with a head of two bytes
  pub origin : point_of (0x80 ∷ []) ≡ Ok Origin
  pub endless_origin : point_of (0x9f ∷ 0xff ∷ []) ≡ Ok Origin
  pub wide_origin : point_of (0x98 ∷ 0x00 ∷ []) ≡ Ok Origin
  -- up to a break, the slot in nine bytes and the length of the hash in three
  pub wide : point_of (0x9f ∷ 0x1b ∷ 0x00 ∷ 0x00 ∷ 0x00 ∷ 0x00 ∷ 0x00 ∷ 0x00 ∷ 0x00 ∷ 0x05 ∷ 0x59 ∷ 0x00 ∷ 0x20 ∷ (replicate 32 0xab ++ (0xff ∷ []))) ≡ Ok (Block five)
  -- the slot 2^64 - 1
  pub highest : point_of (0x82 ∷ 0x1b ∷ 0xff ∷ 0xff ∷ 0xff ∷ 0xff ∷ 0xff ∷ 0xff ∷ 0xff ∷ 0xff ∷ 0x58 ∷ 0x20 ∷ replicate 32 0xab) ≡ Ok (Block (point 18446744073709551615 (all 12370169555311111083)))
  -- nothing; a byte behind; a byte too few; 31 bytes of hash; a text; a hash in chunks; one element; three; a number; no break
  pub nothing : point_of [] ≡ none
  pub behind : point_of (0x80 ∷ 0x00 ∷ []) ≡ none
  pub short : point_of (0x82 ∷ 0x05 ∷ 0x58 ∷ 0x20 ∷ replicate 31 0xab) ≡ none
  pub small : point_of (0x82 ∷ 0x05 ∷ 0x58 ∷ 0x1f ∷ replicate 31 0xab) ≡ none
  pub text : point_of (0x82 ∷ 0x05 ∷ 0x78 ∷ 0x20 ∷ replicate 32 0x61) ≡ none
  pub chunks : point_of (0x82 ∷ 0x05 ∷ 0x5f ∷ 0x58 ∷ 0x20 ∷ (replicate 32 0xab ++ (0xff ∷ []))) ≡ none
  pub one : point_of (0x81 ∷ 0x05 ∷ []) ≡ none
  pub three : point_of (0x83 ∷ 0x05 ∷ 0x58 ∷ 0x20 ∷ (replicate 32 0xab ++ (0x00 ∷ []))) ≡ none
  pub number : point_of (0x05 ∷ []) ≡ none
  pub open_end : point_of (0x9f ∷ 0x05 ∷ 0x58 ∷ 0x20 ∷ replicate 32 0xab) ≡ none
  -- tips: of the origin, and of a block up to a break; and some that are none
  pub tip : tip_of (0x82 ∷ 0x80 ∷ 0x18 ∷ 0xff ∷ []) ≡ Ok (tip_with Origin 255)
  pub endless_tip : tip_of (0x9f ∷ (item 0xab ++ (0x07 ∷ 0xff ∷ []))) ≡ Ok (tip_with (Block five) 7)
  pub point_for_tip : tip_of (0x80 ∷ []) ≡ none
  pub negative : tip_of (0x82 ∷ 0x80 ∷ 0x20 ∷ []) ≡ none
  pub tip_behind : tip_of (0x82 ∷ 0x80 ∷ 0x00 ∷ 0x00 ∷ []) ≡ none
