-- Laws of records and their slots.
-- Assumes nothing.
use mathlib.Core.Path.{◌≡◌, refl, ap}
use mathlib.Core.List.{List, [], ◌∷◌}
use Prim.Native.Nat.{ℕ, zero, suc}
use lib.ListN.{get_or, set, get_or-map}
use Rattle.points.specs.declared.Point.{Point}
use Rattle.point_log.specs.Log.{empty, slots_of}

pub slots_at : (run : List Point) (i : ℕ) → get_or (slots_of run) i 0 ≡ (get_or run i empty).slot
slots_at run i = get_or-map (λ (p : Point). p.slot) run i empty

pub slots_set : (run : List Point) (i : ℕ) (p : Point) → slots_of (set run i p) ≡ set (slots_of run) i p.slot
slots_set [] i p = refl
slots_set (q ∷ run) zero p = refl
slots_set (q ∷ run) (suc i) p = ap (λ (l : List ℕ). q.slot ∷ l) (slots_set run i p)
