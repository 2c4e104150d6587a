-- Laws of the gate: only its first closing is kept, and that is what it tells.
-- Assumes nothing.
use mathlib.Core.Path.{◌≡◌, refl, sym}
use mathlib.Core.Bool.{true, false, true≢false}
use mathlib.Core.Option.{Option, some, or_else}
use Prim.Native.Nat.{ℕ}
use native.Mathlib.Omega.{arith}
use Rattle.connection.specs.declared.Closing.{Closing}
use Rattle.connection.specs.declared.Gate.{Gate}
use Rattle.connection.specs.declared.Gate.TheVariants.{Open, Closed}
use Rattle.connection.specs.Closings.{closing_of, is_open, closed_by}

-- a closed gate stays as it is
pub closed_stays : (g : Gate) (x : Closing) → is_open g ≡ false → closed_by g x ≡ g
closed_stays Open x e = absurd (true≢false e)
closed_stays (Closed y) x e = refl

-- a gate that tells a closing is closed
pub closed_so : (g : Gate) (x : ℕ × Option ℕ) → closing_of g ≡ some x → is_open g ≡ false
closed_so Open x e = absurd (let z : ◌≡◌ {A = ℕ} 0 1 = cc in omega arith)
closed_so (Closed y) x e = refl

-- what a gate tells after a closing, and in front of what more there is
pub closed_or : (g : Gate) (x : Closing) → closing_of (closed_by g x) ≡ or_else (closing_of g) (closing_of (Closed x))
unfolding or_else
closed_or Open x = refl
closed_or (Closed y) x = refl

pub open_or : (g : Gate) (b : Option (ℕ × Option ℕ)) → is_open g ≡ true → or_else (closing_of g) b ≡ b
unfolding or_else
open_or Open b e = refl
open_or (Closed x) b e = absurd (true≢false (sym e))
