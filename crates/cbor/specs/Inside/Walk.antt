-- What a walk under way stands for, and what taking it up again gives.
use Rattle.std.specs.Prelude.{ℕ, zero, suc, ◌+◌, ◌-◌, ◌≤◌, ◌<◌, List, ◌++◌, ◌≡◌, length, get_or, replicate}
use Rattle.item.specs.Grammar.{Content, nesting}
use Rattle.item.specs.Verdict.{Stack, nil, push, Verdict}
use Rattle.moves.specs.Inside.Levels.{frame_of, tell, Good}
use Rattle.cbor.specs.declared.Walk.{Walk}

-- The levels around: the i-th, the outermost being 0, is within a nesting that is i less.
unfoldable pub levels : List ℕ → List ℕ → ℕ → Stack
levels ks cs zero = nil
levels ks cs (suc n) = push (nesting - n) (frame_of (get_or ks n 0) (get_or cs n 0)) (levels ks cs n)

-- What a walk wants: the rest of a string, and then its levels.
unfoldable pub stack_of : Walk → Stack
stack_of w =
    push 0 (Content w.skip) (push (nesting - w.depth) (frame_of w.level.kind w.level.count) (levels w.kinds w.counts w.depth))

-- What a walk comes to on the bytes xs.
abbrev pub comes : List ℕ → Walk → Verdict × ℕ
comes xs w = tell xs w.at w.heads (stack_of w)

-- The levels around want items.
pub record Outer (d : ℕ) (ks cs : List ℕ) : Type 0 where
  pub kinds_size : length ks ≡ nesting + 1
  pub counts_size : length cs ≡ nesting + 1
  pub each : (i : ℕ) → i < d → get_or ks i 0 < 4

-- The numbers of a walk are in range; nothing is said of bytes.
pub record Sound (w : Walk) : Type 0 where
  pub few : w.heads ≤ w.at
  pub good : Good w.level.kind w.level.count w.depth
  pub outer : Outer w.depth w.kinds w.counts

-- A walk w taken up again on the bytes xs gives the verdict v and the walk u: v is what w comes to, u has counted the
-- heads that w comes to, and whatever bytes come after, u comes to what w comes to.
pub record Resumed (xs : List ℕ) (w : Walk) (v : Verdict) (u : Walk) : Type 0 where
  pub told : (v, u.heads) ≡ comes xs w
  pub more : (ys : List ℕ) → comes (xs ++ ys) u ≡ comes (xs ++ ys) w
  pub place : u.at ≤ length xs
  pub sound : Sound u

-- A walk by its parts.
abbrev pub walk_of : ℕ → ℕ → ℕ → ℕ → ℕ → ℕ → List ℕ → List ℕ → Walk
walk_of at skip heads k c d ks cs =
    record { at = at; skip = skip; heads = heads; level = record { kind = k; count = c }; depth = d; kinds = ks; counts = cs }

-- The walk that begins at a place, for one item within the nesting d.
unfoldable pub first_at : ℕ → ℕ → Walk
first_at at d = walk_of at 0 0 0 1 (nesting - d) (replicate (nesting + 1) 0) (replicate (nesting + 1) 0)
