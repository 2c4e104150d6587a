-- A byte moves the stack exactly as the grammar asks: what the grammar reads the step follows (`forth`), and what the
-- step comes to the grammar reads (`back`).
-- Assumes nothing.
use Prim.Native.Nat.{ℕ, zero, suc}
use mathlib.Core.List.{List, [], ◌∷◌}
use mathlib.Core.Bool.{Bool, true, false, cond}
use mathlib.Core.Option.{Option, none, some}
use mathlib.Core.Path.{◌≡◌, refl}
use lib.Dec.{leb}
use native.Mathlib.Omega.{arith}
use borrow.Author.Tests.{le-leb, leb-true}
use Rattle.head.specs.Initial.{initial}
use Rattle.head.specs.declared.Initial.{Initial}
use Rattle.head.specs.declared.Initial.TheVariants.{Short, Long, Indefinite, Simple, Break, Reserved}
use Rattle.item.specs.Grammar.{Frame, One, Items, Elements, Pairs, Value, Chunks, Content, Second, Argument, enter, enter_chunk, Reads, one}
use Rattle.item.specs.Grammar.{no_more, item, end_array, element, end_map, key, value, end_string, chunk, no_byte, byte, simple, last, digit}
use Rattle.item.specs.Verdict.{Stack, nil, push, into, or_break, step}

-- The bytes are all that the stack wants.
pub data Rest : Stack → List ℕ → Type 0 where
  done : Rest nil []
  then : {d : ℕ} {f : Frame} {fs : Stack} {bs cs : List ℕ} → Reads d f bs cs → Rest fs cs → Rest (push d f fs) bs

-- They are all that is wanted after a step.
abbrev pub After : Option Stack → List ℕ → Type 0
After none bs = ⊥
After (some fs) bs = Rest fs bs

pub nothing : {A : Type 0} {a : A} → none ≡ some a → ⊥
nothing p = let z : ◌≡◌ {A = ℕ} 0 1 = cc in omega arith

-- a byte that an item, or a chunk, begins with is no break
pub no_break : (i : Initial) (d : ℕ) {f : Frame} (fs : Stack) (n : Option Stack) → enter d i ≡ some f → or_break i fs n ≡ n
unfolding enter
no_break (Short m v) d fs n p = refl
no_break (Long m k) d fs n p = refl
no_break (Indefinite m) d fs n p = refl
no_break Simple d fs n p = refl
no_break Break d fs n p = absurd (nothing p)
no_break Reserved d fs n p = refl

pub no_break_chunk : (i : Initial) (text : Bool) {f : Frame} (fs : Stack) (n : Option Stack) → enter_chunk text i ≡ some f → or_break i fs n ≡ n
unfolding enter_chunk
no_break_chunk (Short m v) t fs n p = refl
no_break_chunk (Long m k) t fs n p = refl
no_break_chunk (Indefinite m) t fs n p = refl
no_break_chunk Simple t fs n p = refl
no_break_chunk Break t fs n p = absurd (nothing p)
no_break_chunk Reserved t fs n p = refl

pub forth : {fs : Stack} {b : ℕ} {bs : List ℕ} → Rest fs (b ∷ bs) → After (step fs b) bs
unfolding step
forth (then (one p g) r) = rw p (then g (then no_more r))
forth (then no_more r) = forth r
forth (then (item (one p g) h) r) = rw p (then g (then h r))
forth (then (end_array p) r) = rw p r
forth (then (element (one {d = d} {b = b} p g) h) r) = rw (no_break (initial b) d _ _ p, p) (then g (then h r))
forth (then (end_map p) r) = rw p r
forth (then (key (one {d = d} {b = b} p g) h) r) = rw (no_break (initial b) d _ _ p, p) (then g (then h r))
forth (then (value (one p g) h) r) = rw p (then g (then h r))
forth (then (end_string p) r) = rw p r
forth (then (chunk {b = b} {text = t} p g h) r) = rw (no_break_chunk (initial b) t _ _ p, p) (then g (then h r))
forth (then no_byte r) = forth r
forth (then (byte g) r) = then g r
forth (then (simple {x = x} h) r) = rw (le-leb 32 x (omega arith)) r
forth (then (last g) r) = then g r
forth (then (digit g) r) = then g r

-- where a byte is gone into as an item, or as a chunk, the grammar reads it so
in_one : {d b : ℕ} {fs : Stack} {bs : List ℕ} (w : Option Frame) → enter d (initial b) ≡ w → After (into d w fs) bs
    → (cs : List ℕ) × Reads d One (b ∷ bs) cs × Rest fs cs
in_one none p a = absurd a
in_one (some f) p (then {cs = cs} g r) = (cs, one p g, r)

-- one item of a frame f, after which g is left
in_item : {d b : ℕ} {f g : Frame} {fs : Stack} {bs : List ℕ}
    → ((cs ds : List ℕ) → Reads d One (b ∷ bs) cs → Reads d g cs ds → Reads d f (b ∷ bs) ds)
    → After (into d (enter d (initial b)) (push d g fs)) bs → Rest (push d f fs) (b ∷ bs)
in_item {d} {b} {f} {g} {fs} {bs} k a = of (in_one (enter d (initial b)) refl a)
  where
    of : (cs : List ℕ) × Reads d One (b ∷ bs) cs × Rest (push d g fs) cs → Rest (push d f fs) (b ∷ bs)
    of (cs, x, then {cs = ds} h r) = then (k cs ds x h) r

in_chunk : {d b : ℕ} {t : Bool} {fs : Stack} {bs : List ℕ} (w : Option Frame) → enter_chunk t (initial b) ≡ w
    → After (into d w (push d (Chunks t) fs)) bs → Rest (push d (Chunks t) fs) (b ∷ bs)
in_chunk none p a = absurd a
in_chunk (some f) p (then g (then h r)) = then (chunk p g h) r

in_break : {fs : Stack} {bs : List ℕ} {X : Type 0} (b : ℕ) (n : Option Stack) (i : Initial) → initial b ≡ i
    → (initial b ≡ Break → Rest fs bs → X) → (After n bs → X) → After (or_break i fs n) bs → X
in_break b n (Short m v) p f g a = g a
in_break b n (Long m k) p f g a = g a
in_break b n (Indefinite m) p f g a = g a
in_break b n Simple p f g a = g a
in_break b n Break p f g a = f p a
in_break b n Reserved p f g a = g a

in_second : {b d : ℕ} {fs : Stack} {bs : List ℕ} (t : Bool) → leb 32 b ≡ t → After (cond t (some fs) none) bs → Rest (push d Second fs) (b ∷ bs)
in_second true p a = then (simple (leb-true _ _ p)) a
in_second false p a = absurd a

lone : {d : ℕ} {bs cs ds : List ℕ} → Reads d One bs cs → Reads d (Items zero) cs ds → Reads d One bs ds
lone x no_more = x

pub back : (fs : Stack) {b : ℕ} {bs : List ℕ} → After (step fs b) bs → Rest fs (b ∷ bs)
unfolding step
back nil a = absurd a
back (push d One fs) a = in_item (λ cs ds x h. lone x h) a
back (push d (Items zero) fs) a = then no_more (back fs a)
back (push d (Items (suc n)) fs) a = in_item (λ cs ds x h. item x h) a
back (push d Elements fs) {b} a = in_break b _ (initial b) refl (λ p r. then (end_array p) r) (λ x. in_item (λ cs ds x h. element x h) x) a
back (push d Pairs fs) {b} a = in_break b _ (initial b) refl (λ p r. then (end_map p) r) (λ x. in_item (λ cs ds x h. key x h) x) a
back (push d Value fs) a = in_item (λ cs ds x h. value x h) a
back (push d (Chunks t) fs) {b} a = in_break b _ (initial b) refl (λ p r. then (end_string p) r) (λ x. in_chunk (enter_chunk t (initial b)) refl x) a
back (push d (Content zero) fs) a = then no_byte (back fs a)
back (push d (Content (suc n)) fs) (then g r) = then (byte g) r
back (push d Second fs) {b} a = in_second (leb 32 b) refl a
back (push d (Argument m v zero) fs) (then g r) = then (last g) r
back (push d (Argument m v (suc k)) fs) (then g r) = then (digit g) r
