-- A short log, call by call: the lines that the replay script's section on K10 shows. Two records, none
-- in use, whose slots are 0 and whose hashes are 32 bytes 0xee; `item b` is slot 5 with a hash of 32 bytes b.
use Rattle.std.specs.Prelude.{◌≡◌, [], ◌∷◌, Ok, Err}
use Rattle.points.specs.declared.Point.{Point}
use Rattle.points.specs.declared.Place.TheVariants.{Origin, Block}
use Rattle.point_log.specs.declared.Refusal.TheVariants.{OutOfRange, NotAPoint, NotAbove, NotLogged, Full}
use Rattle.points.specs.Points.{point}
use Rattle.points.specs.Besides.Examples.{all, item, five}
use Rattle.point_log.specs.Log.{find_of, back_of, told, add_of}

abbrev pub blank : Point
blank = point 0 (all 17216961135462248174)

pub record Replayed : Type 0 where
  pub add : add_of (blank ∷ blank ∷ []) 0 (item 0xab) ≡ told (Ok 1) (five ∷ blank ∷ [])
  pub before : find_of (five ∷ blank ∷ []) 1 4 ≡ Ok (record { upto = 0; place = Origin })
  pub at : find_of (five ∷ blank ∷ []) 1 5 ≡ Ok (record { upto = 1; place = Block five })
  pub another_hash : back_of (five ∷ blank ∷ []) 1 (item 0x00) ≡ Err NotLogged
  pub the_origin : add_of (five ∷ blank ∷ []) 1 (0x80 ∷ []) ≡ told (Err NotAbove) (five ∷ blank ∷ [])
  -- and: the same slot again; cut back to it, and to the origin; a count above the run; slots that do not rise; an item that is no point
  pub again : add_of (five ∷ blank ∷ []) 1 (item 0xab) ≡ told (Err NotAbove) (five ∷ blank ∷ [])
  pub back : back_of (five ∷ blank ∷ []) 1 (item 0xab) ≡ Ok 1
  pub emptied : back_of (five ∷ blank ∷ []) 1 (0x9f ∷ 0xff ∷ []) ≡ Ok 0
  pub full : add_of (blank ∷ []) 1 (item 0xab) ≡ told (Err Full) (blank ∷ [])
  pub past : add_of (blank ∷ []) 2 (item 0xab) ≡ told (Err OutOfRange) (blank ∷ [])
  pub level : find_of (blank ∷ blank ∷ []) 2 0 ≡ Err OutOfRange
  pub nothing : back_of (five ∷ blank ∷ []) 1 [] ≡ Err NotAPoint
