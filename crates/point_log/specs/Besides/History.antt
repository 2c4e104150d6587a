-- What the log holds after any calls: "After any sequence its content is what the history says" (document 02, K10).
use Rattle.std.specs.Prelude.{ℕ, ◌≤◌, ◌≡◌, cond, List, [], ◌∷◌, ◌++◌, eqb, length, take}
use Rattle.points.specs.declared.Point.{Point}
use Rattle.points.specs.declared.Place.{Place}
use Rattle.points.specs.declared.Place.TheVariants.{Origin, Block}
use Rattle.points.specs.Points.{point_of}
use Rattle.points.specs.Besides.Standing.{point_told}
use Rattle.point_log.specs.Log.{slots_of, same, back_of, add_of}
use Rattle.point_log.specs.Inside.{Rising}
use Rattle.point_log.specs.Besides.Numbers.{number, left}

-- a call, with the item that it is given
pub data Call : Type 0 where
  adds : List ℕ → Call
  backs : List ℕ → Call

-- ---- what the history says

-- a point appended; the points cut back to one of them, or to the origin
abbrev pub appended : Place → List Point → List Point
appended Origin ps = ps
appended (Block p) ps = ps ++ (p ∷ [])

unfoldable pub up_to_point : Point → List Point → List Point
up_to_point p [] = []
up_to_point p (q ∷ ps) = cond (same q p) (q ∷ []) (q ∷ up_to_point p ps)

abbrev pub cut_back : Place → List Point → List Point
cut_back Origin ps = []
cut_back (Block p) ps = up_to_point p ps

abbrev pub says : Call → List Point → List Point
says (adds item) ps = appended (point_told (point_of item)).place ps
says (backs item) ps = cut_back (point_told (point_of item)).place ps

-- ---- a run of records

-- a log: the run, and how many records are in use
pub record Log : Type 0 where
  pub run : List Point
  pub count : ℕ

abbrev pub answer : Log → Call → ℕ
answer l (adds item) = number (add_of l.run l.count item).answer
answer l (backs item) = number (back_of l.run l.count item)

abbrev pub after : Log → Call → Log
after l (adds item) = record { run = (add_of l.run l.count item).run; count = left l.count (add_of l.run l.count item).answer }
after l (backs item) = record { run = l.run; count = left l.count (back_of l.run l.count item) }

unfoldable pub after_all : Log → List Call → Log
after_all l [] = l
after_all l (c ∷ cs) = after_all (after l c) cs

-- the history: the points of the calls answered 0, one by one
unfoldable pub history : Log → List Call → List Point → List Point
history l [] ps = ps
history l (c ∷ cs) ps = history (after l c) cs (cond (eqb (answer l c) 0) (says c ps) ps)

-- what the log holds
abbrev pub content : Log → List Point
content l = take l.count l.run

-- an empty log, however long its run is and whatever stands in it
abbrev pub fresh : List Point → Log
fresh run = record { run = run; count = 0 }

-- what is said of the log that the calls leave of it
pub record Kept (run : List Point) (cs : List Call) (l : Log) : Type 0 where
  pub same : content l ≡ history (fresh run) cs []
  pub within : l.count ≤ length l.run
  pub size : length l.run ≡ length run
  pub rising : Rising (slots_of l.run) l.count

abbrev pub History : Type 0
History = (run : List Point) (cs : List Call) → Kept run cs (after_all (fresh run) cs)
