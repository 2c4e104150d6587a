-- Laws of look: where a message is shown, and each way out of the code is the definition.
-- Assumes nothing.
use mathlib.Core.Path.{◌≡◌, ap, ◌∙◌}
use mathlib.Core.List.{List}
use mathlib.Core.Logic.{◌≢◌}
use Prim.Native.Nat.{ℕ, ◌+◌, ◌≤◌, ◌<◌}
use lib.ListN.{length}
use borrow.Author.Tests.{eq-eqb, ne_eqb, le-leb, lt-leb}
use Rattle.connection.specs.declared.Connection.{Connection}
use Rattle.connection.specs.Parts.{first_held}
use Rattle.judging.specs.declared.Judged.{Judged}
use Rattle.std.specs.Prelude.{Ok}
use Rattle.judging.specs.Judging.{Judgement}
use Rattle.hearing.specs.declared.Shown.{Shown}
use Rattle.hearing.specs.Hearing.{hear_of, shown_by, shut}
use Rattle.looking.specs.declared.Place.{Place}
use Rattle.looking.specs.declared.Place.TheVariants.{Store, Scratch, Nowhere}
use Rattle.looking.specs.Looking.{place_of, message_place, shown_in, by_judged, look_of}

-- ---- where a message is shown

module _ (base cap start n room : ℕ) where
  pub in_one_run : start + n ≤ cap → place_of base cap start n room ≡ Store (base + start)
  unfolding place_of
  in_one_run h = rw (le-leb (start + n) cap h)

  pub wraps_in : cap < start + n → n ≤ room → place_of base cap start n room ≡ Scratch
  unfolding place_of
  wraps_in h l = rw (lt-leb (start + n) cap h, le-leb n room l)

  pub wraps_out : cap < start + n → room < n → place_of base cap start n room ≡ Nowhere
  unfolding place_of
  wraps_out h l = rw (lt-leb (start + n) cap h, lt-leb n room l)

-- ---- a call

module _ (c : Connection) (store : List ℕ) (i : ℕ) (scratch : List ℕ) where
  -- what is heard decides
  pub look_by : (k : Judgement) → k ≡ hear_of c store i → by_judged c store i scratch k ≡ look_of c store i scratch
  unfolding look_of
  look_by k e = rw e

  -- a message, by its place
  pub look_at : (j : Judged) → Ok j ≡ hear_of c store i → (p : Place) → p ≡ message_place c i j.len (length scratch)
      → shown_in c store i scratch j p ≡ look_of c store i scratch
  look_at j e p q = ap (shown_in c store i scratch j) q ∙ look_by (Ok j) e
