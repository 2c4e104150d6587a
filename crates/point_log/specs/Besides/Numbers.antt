-- Which number each call answers, exactly when (document 02, K10: 23, 29, 30, 31, 32, in this order), and what it leaves, as statements. `PointAt item 0 place (length item)` says that the item is exactly one point.
use Rattle.std.specs.Prelude.{ℕ, ◌+◌, ◌-◌, ◌≤◌, ◌<◌, ◌≡◌, List, ◌≢◌, ◌↔◌, length, get_or, set, Result, Ok, Err}
use Rattle.points.specs.declared.Point.{Point}
use Rattle.points.specs.declared.Place.{Place}
use Rattle.points.specs.declared.Place.TheVariants.{Origin, Block}
use Rattle.points.specs.Besides.Standing.{PointAt}
use Rattle.point_log.specs.declared.Refusal.{Refusal}
use Rattle.point_log.specs.declared.Refusal.TheVariants.{OutOfRange}
use Rattle.point_log.specs.declared.Found.{Found}
use Rattle.point_log.specs.Log.{empty, slots_of, place_at, number_of, find_of, back_of, Told, told, add_of}

-- ---- an answer in numbers

-- 0 where it is none of the refusals
abbrev pub number : {A : Type 0} → Result A Refusal → ℕ
number (Ok a) = 0
number (Err e) = number_of e

-- how many of n records are in use after back or add: a refusal leaves them
abbrev pub left : ℕ → Result ℕ Refusal → ℕ
left n (Ok k) = k
left n (Err e) = n

-- what find found: a refusal finds nothing, and that is the origin
abbrev pub sought : Result Found Refusal → Found
sought (Ok f) = f
sought (Err e) = record { upto = 0; place = Origin }

-- ---- what an item has, and a log

-- the item is exactly this point, or no point
abbrev pub Spells : List ℕ → Place → Type 0
Spells item place = PointAt item 0 place (length item)

abbrev pub NoPoint : List ℕ → Type 0
NoPoint item = (place : Place) → Spells item place → ⊥

-- the slot of record i
abbrev pub slot_at : List Point → ℕ → ℕ
slot_at run i = get_or (slots_of run) i 0

-- the count is not above the run, and the slots rise strictly
pub record InRange (run : List Point) (n : ℕ) : Type 0 where
  pub within : n ≤ length run
  pub rising : (i j : ℕ) → i < j → j < n → slot_at run i < slot_at run j

-- a point is the record i of those in use
pub record Logged (run : List Point) (n : ℕ) (p : Point) : Type 0 where
  pub i : ℕ
  pub inside : i < n
  pub is : get_or run i empty ≡ p

-- ---- T2: when each number is answered

pub data WhenFind (run : List Point) (n : ℕ) : ℕ → Type 0 where
  find_outside : (InRange run n → ⊥) → WhenFind run n 23
  find_inside : InRange run n → WhenFind run n 0

pub data WhenBack (run : List Point) (n : ℕ) (item : List ℕ) : ℕ → Type 0 where
  back_out : (InRange run n → ⊥) → WhenBack run n item 23
  back_none : InRange run n → NoPoint item → WhenBack run n item 29
  not_logged : {p : Point} → InRange run n → Spells item (Block p) → (Logged run n p → ⊥) → WhenBack run n item 31
  to_origin : InRange run n → Spells item Origin → WhenBack run n item 0
  to_block : {p : Point} → InRange run n → Spells item (Block p) → Logged run n p → WhenBack run n item 0

pub data WhenAdd (run : List Point) (n : ℕ) (item : List ℕ) : ℕ → Type 0 where
  add_out : (InRange run n → ⊥) → WhenAdd run n item 23
  add_none : InRange run n → NoPoint item → WhenAdd run n item 29
  the_origin : InRange run n → Spells item Origin → WhenAdd run n item 30
  not_above : {p : Point} → InRange run n → Spells item (Block p) → 0 < n → p.slot ≤ slot_at run (n - 1) → WhenAdd run n item 30
  full : {p : Point} → InRange run n → Spells item (Block p) → (0 < n → slot_at run (n - 1) < p.slot) → n ≡ length run → WhenAdd run n item 32
  added : {p : Point} → InRange run n → Spells item (Block p) → (0 < n → slot_at run (n - 1) < p.slot) → n < length run → WhenAdd run n item 0

-- ---- T3: what is left; and what 0 says

-- Of a find answered 0: it is in the log, or the origin; its slot is at most the given one, and the next one's is above.
pub record Finds (run : List Point) (n slot : ℕ) (f : Found) : Type 0 where
  pub inside : f.upto ≤ n
  pub place : f.place ≡ place_at run f.upto
  pub below : 0 < f.upto → slot_at run (f.upto - 1) ≤ slot
  pub above : f.upto < n → slot < slot_at run f.upto

-- A refused back leaves the count; to the origin nothing is left, and to a point what there is up to it.
pub record LeavesBack (run : List Point) (n : ℕ) (item : List ℕ) (d : Result ℕ Refusal) : Type 0 where
  pub kept : number d ≢ 0 → left n d ≡ n
  pub emptied : number d ≡ 0 → Spells item Origin → left n d ≡ 0
  pub cut : number d ≡ 0 → (p : Point) → Spells item (Block p) → (0 < left n d) × (left n d ≤ n) × (get_or run (left n d - 1) empty ≡ p)

-- A refused add leaves run and count; any other puts the point behind the last, so that no other record is written.
pub record LeavesAdd (run : List Point) (n : ℕ) (item : List ℕ) (t : Told) : Type 0 where
  pub kept : number t.answer ≢ 0 → (t.run ≡ run) × (left n t.answer ≡ n)
  pub put : number t.answer ≡ 0 → (p : Point) → Spells item (Block p) → t ≡ told (Ok (n + 1)) (set run n p)
  pub others : (j : ℕ) → j ≢ n → get_or t.run j empty ≡ get_or run j empty

pub record Calls (run : List Point) (n : ℕ) : Type 0 where
  pub find_exactly : (slot k : ℕ) → (number (find_of run n slot) ≡ k) ↔ WhenFind run n k
  pub find_lost : (slot : ℕ) → number (find_of run n slot) ≡ 23 → (find_of run n slot ≡ Err OutOfRange) × (sought (find_of run n slot) ≡ record { upto = 0; place = Origin })
  pub find_finds : (slot : ℕ) → number (find_of run n slot) ≡ 0 → Finds run n slot (sought (find_of run n slot))
  pub back_exactly : (item : List ℕ) (k : ℕ) → (number (back_of run n item) ≡ k) ↔ WhenBack run n item k
  pub back_leaves : (item : List ℕ) → LeavesBack run n item (back_of run n item)
  pub add_exactly : (item : List ℕ) (k : ℕ) → (number (add_of run n item).answer ≡ k) ↔ WhenAdd run n item k
  pub add_leaves : (item : List ℕ) → LeavesAdd run n item (add_of run n item)

abbrev pub AllCalls : Type 0
AllCalls = (run : List Point) (n : ℕ) → Calls run n
