-- What is told of a usual head is a move, at a level that has a count.
-- Assumes nothing.
use Prim.Native.Nat.{ℕ, ◌+◌, ◌-◌, ◌^◌, ◌<◌}
use mathlib.Core.List.{List, ◌++◌}
use mathlib.Core.Bool.{Bool, true, false}
use mathlib.Core.Path.{◌≡◌, refl, sym, ap, subst, ◌∙◌}
use lib.Dec.{ltb}
use native.Mathlib.Omega.{arith}
use borrow.Author.Tests.{ltb-true, ltb-false}
use Rattle.item.specs.Grammar.{Frame, nesting}
use Rattle.item.specs.Verdict.{push}
use Rattle.moves.specs.Inside.Levels.{frame_of, tell, Good}
use Rattle.moves.specs.Inside.Frames.{breakable}
use Rattle.moves.specs.Inside.Moves.{Stays, Downs}
use Rattle.moves.proofs.Frames.{level_wants, level_less}
use Rattle.moves.proofs.AnyHead.{ends}
use Rattle.std.specs.Prelude.{Option, Some}
use Rattle.usual.specs.declared.Quick.{Quick}
use Rattle.usual.specs.declared.Quick.TheVariants.{Past, Asks, Opens, Ends}
use Rattle.usual.specs.Inside.Usual.{Passes, Enters, Breaks, Quickly}

-- a level that has a count is of items
counted : (k c d : ℕ) → Good k c d → 0 < c → k < 4
counted k c d g h = of (ltb k 4) refl
  where
    of : (t : Bool) → ltb k 4 ≡ t → k < 4
    of true q = ltb-true _ _ q
    of false q = let z : c ≡ 0 = g.none (ltb-false _ _ q) in absurd (omega arith)

module _ {xs : List ℕ} {at k c d : ℕ} (g : Good k c d) (z : 0 < c) where
  -- a head is passed; one opens a level; one is a break
  passed : {p : ℕ} → Passes xs at d p → Stays xs at k c d p (record { kind = k; count = c - 1 })
  passed {p} q =
      let b = counted k c d g z in
      record {
        on = q.on;
        inside = q.inside;
        good = record { tall = g.tall; low = λ a m. g.low a (omega arith); none = λ a. absurd (omega arith) };
        same = λ ys fs n.
            q.same (frame_of k c) (level_wants k c b (omega arith)) ys fs n
            ∙ ap (λ (f : Frame). tell (xs ++ ys) p (n + 1) (push (nesting - d) f fs)) (sym (level_less k c z));
      }

  entered : {p i j : ℕ} → Enters xs at d p i j → Downs xs at k c d p (record { kind = k; count = c - 1 }) (record { kind = i; count = j })
  entered {p} {i} {j} q =
      let b = counted k c d g z in
      let r = q.room in
      let y = q.items in
      record {
        on = q.on;
        inside = q.inside;
        items = b;
        room = omega arith;
        good = record { tall = omega arith; low = λ a m. omega arith; none = λ a. absurd (omega arith) };
        same = λ ys fs n.
            q.same (frame_of k c) (level_wants k c b (omega arith)) ys fs n
            ∙ ap (λ (f : Frame). tell (xs ++ ys) p (n + 1) (push (nesting - (d + 1)) (frame_of i j) (push (nesting - d) f fs)))
            (sym (level_less k c z));
      }

  ended : {p : ℕ} → Breaks xs at p → breakable (frame_of k c) ≡ true → Stays xs at k c d p (record { kind = 0; count = 0 })
  ended {p} q t =
      let i = q.inside in
      let e = q.next in
      subst (λ (n : ℕ). Stays xs at k c d n (record { kind = 0; count = 0 })) (sym e)
      (ends xs at k c d (omega arith) (omega arith) g q.is t)

  -- What was told, by what it is.
  module _ {q : Option Quick} (h : Quickly xs at d q) where
    pub if_past : {p : ℕ} → q ≡ Some (Past p) → Stays xs at k c d p (record { kind = k; count = c - 1 })
    if_past e = passed (subst (Quickly xs at d) e h)

    pub if_asks : {p j : ℕ} → q ≡ Some (Asks p j) → Downs xs at k c d p (record { kind = k; count = c - 1 }) (record { kind = 0; count = j })
    if_asks e = entered (subst (Quickly xs at d) e h)

    pub if_opens : {p i : ℕ} → q ≡ Some (Opens p i) → Downs xs at k c d p (record { kind = k; count = c - 1 }) (record { kind = i; count = 2 ^ 63 })
    if_opens e = entered (subst (Quickly xs at d) e h)

    pub if_ends : {p : ℕ} → q ≡ Some (Ends p) → breakable (frame_of k c) ≡ true → Stays xs at k c d p (record { kind = 0; count = 0 })
    if_ends e t = ended (subst (Quickly xs at d) e h) t
