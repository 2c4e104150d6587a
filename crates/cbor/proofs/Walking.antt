-- A walk from head to head: where it is comes to what it began with comes to, whatever bytes come after.
-- Assumes nothing.
use Prim.Native.Nat.{ℕ, zero, suc, ◌+◌, ◌-◌, ◌≤◌, ◌<◌}
use mathlib.Core.List.{List, [], ◌++◌, append-nil}
use mathlib.Core.Bool.{Bool, true, false}
use mathlib.Core.Path.{◌≡◌, refl, sym, ap, ap₂, subst, ◌∙◌}
use lib.Dec.{eqb}
use lib.ListN.{length, get_or, set, length-append, length-set}
use lib.Seq.{get_or-set_same, get_or-set_other}
use native.Mathlib.Omega.{arith}
use native.Mathlib.Numerals.{add-one}
use borrow.Author.Tests.{eqb-true, eqb-false}
use Rattle.std.specs.Prelude.{Ok, Err}
use Rattle.item.specs.declared.NotWhole.TheVariants.{Bad, Incomplete}
use Rattle.item.specs.Grammar.{Content, nesting}
use Rattle.item.specs.Verdict.{Stack, push, Verdict}
use Rattle.moves.specs.declared.Level.{Level}
use Rattle.cbor.specs.declared.Walk.{Walk}
use Rattle.moves.specs.Inside.Levels.{frame_of, tell, Good}
use Rattle.cbor.specs.Inside.Walk.{levels, stack_of, comes, Outer, Sound, Resumed, walk_of}
use Rattle.moves.specs.declared.Move.{Move}
use Rattle.moves.specs.declared.Move.TheVariants.{Stay, Down, Skip, Fault, Lack}
use Rattle.moves.specs.Inside.Moves.{Stays, Downs, Skips, Stops, Moves}
use Rattle.moves.proofs.Tell.{tell_nil, tell_none, tell_empty, tell_content, tell_string, tell_starved}

-- What was promised of an answer, by what the answer is.
module _ {xs : List ℕ} {at k c d : ℕ} {m : Move} (h : Moves xs at k c d m) where
  pub if_stay : {p : ℕ} {l : Level} → m ≡ Stay p l → Stays xs at k c d p l
  if_stay e = subst (Moves xs at k c d) e h

  pub if_down : {p : ℕ} {l i : Level} → m ≡ Down p l i → Downs xs at k c d p l i
  if_down e = subst (Moves xs at k c d) e h

  pub if_skip : {v : ℕ} {l : Level} → m ≡ Skip v l → Skips xs at k c d v l
  if_skip e = subst (Moves xs at k c d) e h

-- A walk that began as w is at a place, in a level within others.
pub record Under (xs : List ℕ) (w : Walk) (at h k c d : ℕ) (ks cs : List ℕ) : Type 0 where
  pub place : at ≤ length xs
  pub few : h ≤ at
  pub good : Good k c d
  pub outer : Outer d ks cs
  pub same : (ys : List ℕ) → tell (xs ++ ys) at h (push (nesting - d) (frame_of k c) (levels ks cs d)) ≡ comes (xs ++ ys) w

-- with no bytes after
now : {xs : List ℕ} {w : Walk} {at h k c d : ℕ} {ks cs : List ℕ} → Under xs w at h k c d ks cs
    → tell xs at h (push (nesting - d) (frame_of k c) (levels ks cs d)) ≡ comes xs w
now {xs} {w} {at} {h} {k} {c} {d} {ks} {cs} u =
    subst (λ (zs : List ℕ). tell zs at h (push (nesting - d) (frame_of k c) (levels ks cs d)) ≡ comes zs w) (append-nil xs) (u.same [])

-- A walk that has nothing to skip is under way.
pub begins : (xs : List ℕ) (at h k c d : ℕ) (ks cs : List ℕ) → Sound (walk_of at 0 h k c d ks cs) → at ≤ length xs
    → Under xs (walk_of at 0 h k c d ks cs) at h k c d ks cs
unfolding stack_of
begins xs at h k c d ks cs s a =
    record {
      place = a;
      few = s.few;
      good = s.good;
      outer = s.outer;
      same = λ ys. sym (tell_empty (xs ++ ys) at h 0 (push (nesting - d) (frame_of k c) (levels ks cs d)));
    }

-- The rest of a string is there, and the walk goes on after it; or not all of it is there.
past_string : (zs : List ℕ) (at h n : ℕ) (fs : Stack) → n ≤ length zs - at
    → tell zs (at + n) h (push 0 (Content 0) fs) ≡ tell zs at h (push 0 (Content n) fs)
past_string zs at h n fs l = tell_empty zs (at + n) h 0 fs ∙ sym (tell_string zs at h n 0 fs l)

pub starts : (xs : List ℕ) (w u : Walk) (v : Verdict) → w.skip ≤ length xs - w.at
    → Resumed xs (walk_of (w.at + w.skip) 0 w.heads w.level.kind w.level.count w.depth w.kinds w.counts) v u → Resumed xs w v u
unfolding stack_of
starts xs w u v l r =
    let fs : Stack = push (nesting - w.depth) (frame_of w.level.kind w.level.count) (levels w.kinds w.counts w.depth) in
    record {
      told = r.told ∙ past_string xs w.at w.heads w.skip fs l;
      more = λ ys. r.more ys ∙ past_string (xs ++ ys) w.at w.heads w.skip fs (omega (arith, length-append xs ys));
      place = r.place;
      sound = r.sound;
    }

pub starts_cut : (xs : List ℕ) (w : Walk) (n r : ℕ) → length xs ≡ n → Sound w → w.at ≤ n → n - w.at < w.skip → r ≡ w.skip - (n - w.at)
    → Resumed xs w (Err Incomplete) (walk_of n r w.heads w.level.kind w.level.count w.depth w.kinds w.counts)
unfolding stack_of
starts_cut xs w n r e s a l q =
    let f = s.few in
    record {
      told = sym (goes xs (omega arith) ∙ tell_starved xs n w.heads r 0 around (omega arith) (omega arith));
      more = λ ys. sym (goes (xs ++ ys) (omega (arith, length-append xs ys)));
      place = omega arith;
      sound = record { few = omega arith; good = s.good; outer = s.outer };
    }
  where
    around : Stack
    around = push (nesting - w.depth) (frame_of w.level.kind w.level.count) (levels w.kinds w.counts w.depth)

    goes : (zs : List ℕ) → n - w.at ≤ length zs - w.at
        → tell zs w.at w.heads
        (push 0 (Content w.skip) (push (nesting - w.depth) (frame_of w.level.kind w.level.count) (levels w.kinds w.counts w.depth)))
        ≡ tell zs n w.heads
        (push 0 (Content r) (push (nesting - w.depth) (frame_of w.level.kind w.level.count) (levels w.kinds w.counts w.depth)))
    goes zs m =
        let z : w.at + (n - w.at) ≡ n = omega arith in
        tell_content zs w.at w.heads (n - w.at) w.skip 0 0 around (omega arith) m
        ∙ ap₂ (λ (j i : ℕ). tell zs j w.heads (push 0 (Content i) around)) z (sym q)

-- A level above the lowest n is not among them.
levels_set : (ks cs : List ℕ) (n i k c : ℕ) → n ≤ i → levels (set ks i k) (set cs i c) n ≡ levels ks cs n
unfolding levels
levels_set ks cs zero i k c h = refl
levels_set ks cs (suc n) i k c h =
    rw
    (get_or-set_other ks i n k 0 (λ (e : n ≡ i). omega arith), get_or-set_other cs i n c 0 (λ (e : n ≡ i). omega arith), levels_set ks cs n i k c (omega arith))

levels_put : (ks cs : List ℕ) (d k c : ℕ) → d < length ks → d < length cs
    → levels (set ks d k) (set cs d c) (d + 1) ≡ push (nesting - d) (frame_of k c) (levels ks cs d)
unfolding levels
levels_put ks cs d k c h l =
    rw (add-one d) (rw (get_or-set_same ks d k 0 h, get_or-set_same cs d c 0 l, levels_set ks cs d d k c (omega arith)))

levels_top : (ks cs : List ℕ) (d : ℕ) → 0 < d
    → levels ks cs d ≡ push (nesting - (d - 1)) (frame_of (get_or ks (d - 1) 0) (get_or cs (d - 1) 0)) (levels ks cs (d - 1))
levels_top ks cs d h = let e : d ≡ suc (d - 1) = omega arith in ap (levels ks cs) e ∙ (unfold levels in refl)

set_each : (ks : List ℕ) (d k : ℕ) → d < length ks → k < 4 → ((i : ℕ) → i < d → get_or ks i 0 < 4) → (i : ℕ) → i < d + 1 → get_or (set ks d k) i 0 < 4
set_each ks d k h l e i q = of (eqb i d) refl
  where
    of : (t : Bool) → eqb i d ≡ t → get_or (set ks d k) i 0 < 4
    of true p = let z : i ≡ d = eqb-true i d p in rw (z, get_or-set_same ks d k 0 h) l
    of false p = let z : i ≡ d → ⊥ = eqb-false i d p in rw (get_or-set_other ks d i k 0 z) (e i (omega arith))

module _ {xs : List ℕ} {w : Walk} {at h k c d : ℕ} {ks cs : List ℕ} (u : Under xs w at h k c d ks cs) where
  -- The level becomes another; one is opened within it; it is spent.
  pub stays : {p : ℕ} {l : Level} → Stays xs at k c d p l → Under xs w p (h + 1) l.kind l.count d ks cs
  stays m =
      let f = u.few in
      let o = m.on in
      record { place = m.inside; few = omega arith; good = m.good; outer = u.outer; same = λ ys. sym (m.same ys (levels ks cs d) h) ∙ u.same ys }

  pub downs : {p : ℕ} {l i : Level} → Downs xs at k c d p l i
      → Under xs w p (h + 1) i.kind i.count (d + 1) (set ks d l.kind) (set cs d l.count)
  downs {p} {l} {i} m =
      let f = u.few in
      let o = m.on in
      let a = u.outer.kinds_size in
      let b = u.outer.counts_size in
      let r = m.room in
      record {
        place = m.inside;
        few = omega arith;
        good = m.good;
        outer = record {
          kinds_size = length-set ks d l.kind ∙ a;
          counts_size = length-set cs d l.count ∙ b;
          each = set_each ks d l.kind (omega arith) m.items u.outer.each;
        };
        same = λ ys.
            ap (λ (fs : Stack). tell (xs ++ ys) p (h + 1) (push (nesting - (d + 1)) (frame_of i.kind i.count) fs))
            (levels_put ks cs d l.kind l.count (omega arith) (omega arith))
            ∙ sym (m.same ys (levels ks cs d) h) ∙ u.same ys;
      }

  nothing_here : (zs : List ℕ) → k ≡ 0 → c ≡ 0 → tell zs at h (push (nesting - d) (frame_of k c) (levels ks cs d)) ≡ tell zs at h (levels ks cs d)
  nothing_here zs e z =
      ap₂ (λ (i j : ℕ). tell zs at h (push (nesting - d) (frame_of i j) (levels ks cs d))) e z ∙ tell_none zs at h (nesting - d) (levels ks cs d)

  pub pops : k ≡ 0 → c ≡ 0 → 0 < d → Under xs w at h (get_or ks (d - 1) 0) (get_or cs (d - 1) 0) (d - 1) ks cs
  pops e z p =
      let t = u.good.tall in
      let i : get_or ks (d - 1) 0 < 4 = u.outer.each (d - 1) (omega arith) in
      record {
        place = u.place;
        few = u.few;
        good = record { tall = omega arith; low = λ a b. omega arith; none = λ a. absurd (omega arith) };
        outer = record { kinds_size = u.outer.kinds_size; counts_size = u.outer.counts_size; each = λ i q. u.outer.each i (omega arith) };
        same = λ ys. ap (tell (xs ++ ys) at h) (sym (levels_top ks cs d p)) ∙ sym (nothing_here (xs ++ ys) e z) ∙ u.same ys;
      }

  -- The walk stops where it is.
  rests : (v : Verdict) → (v, h) ≡ tell xs at h (push (nesting - d) (frame_of k c) (levels ks cs d)) → Resumed xs w v (walk_of at 0 h k c d ks cs)
  unfolding stack_of
  rests v e =
      record {
        told = e ∙ now u;
        more = λ ys. tell_empty (xs ++ ys) at h 0 (push (nesting - d) (frame_of k c) (levels ks cs d)) ∙ u.same ys;
        place = u.place;
        sound = record { few = u.few; good = u.good; outer = u.outer };
      }

  pub whole : k ≡ 0 → c ≡ 0 → d ≡ 0 → Resumed xs w (Ok at) (walk_of at 0 h k c d ks cs)
  unfolding levels
  whole e z q = rests (Ok at) (sym (nothing_here xs e z ∙ ap (λ (n : ℕ). tell xs at h (levels ks cs n)) q ∙ tell_nil xs at h))

  stops : (v : Verdict) → Stops xs at k c d v → Resumed xs w v (walk_of at 0 h k c d ks cs)
  stops v m = rests v (sym (m (levels ks cs d) h))

  pub faults : {m : Move} {p : ℕ} → m ≡ Fault p → Moves xs at k c d m → Resumed xs w (Err (Bad p)) (walk_of at 0 h k c d ks cs)
  faults {m} {p} e q = stops (Err (Bad p)) (subst (Moves xs at k c d) e q)

  pub lacks : {m : Move} → m ≡ Lack → Moves xs at k c d m → Resumed xs w (Err Incomplete) (walk_of at 0 h k c d ks cs)
  lacks e q = stops (Err Incomplete) (subst (Moves xs at k c d) e q)

  -- or in a string that goes on after all that is there
  pub skips : {v n : ℕ} {l : Level} → length xs ≡ n → Skips xs at k c d v l → Resumed xs w (Err Incomplete) (walk_of n v (h + 1) l.kind l.count d ks cs)
  unfolding stack_of
  skips {v} {n} {l} e m =
      let f = u.few in
      let o = m.on in
      let past : (zs : List ℕ) → Stack = λ zs. push 0 (Content v) (push (nesting - d) (frame_of l.kind l.count) (levels ks cs d)) in
      record {
        told =
            sym
            (sym (now u)
            ∙ subst (λ (zs : List ℕ). tell zs at h (push (nesting - d) (frame_of k c) (levels ks cs d)) ≡ tell zs (length xs) (h + 1) (past zs))
            (append-nil xs)
            (m.same [] (levels ks cs d) h)
            ∙ tell_starved xs (length xs) (h + 1) v 0 (push (nesting - d) (frame_of l.kind l.count) (levels ks cs d)) (omega arith) m.some);
        more = λ ys. ap (λ (j : ℕ). tell (xs ++ ys) j (h + 1) (past xs)) (sym e) ∙ sym (m.same ys (levels ks cs d) h) ∙ u.same ys;
        place = omega arith;
        sound = record { few = omega arith; good = m.good; outer = u.outer };
      }
