-- What any head does to a walk: one law for each way out of the code.
-- Assumes nothing.
use Prim.Native.Nat.{ℕ, ◌+◌, ◌*◌, ◌-◌, ◌^◌, ◌≤◌, ◌<◌}
use mathlib.Core.List.{List, ◌++◌}
use mathlib.Core.Bool.{Bool, true, false, false≢true, cond}
use mathlib.Core.Option.{none, some}
use mathlib.Core.Path.{◌≡◌, refl, sym, ap, ap₂, subst, ◌∙◌}
use lib.Dec.{ltb}
use lib.ListN.{length, take, drop, get_or, length-append, length-drop, get_or-append}
use lib.Seq.{drop-append-le}
use native.Mathlib.Omega.{arith}
use borrow.Author.Tests.{ltb-true}
use Rattle.std.specs.Prelude.{Err}
use Rattle.base.specs.Numbers.{number}
use Rattle.ring.specs.Ring.{run}
use Rattle.head.specs.Initial.{initial}
use Rattle.head.specs.declared.Major.{Major}
use Rattle.head.specs.declared.Major.TheVariants.{Number, Bytes, Text, Array, Map, Tag}
use Rattle.head.specs.declared.Initial.{Initial}
use Rattle.head.specs.declared.Initial.TheVariants.{Short, Long, Indefinite, Simple, Break, Reserved}
use Rattle.item.specs.declared.NotWhole.TheVariants.{Bad, Incomplete}
use Rattle.item.specs.Grammar.{Frame, One, Items, Elements, Pairs, Chunks, Content, Second, Argument, content, indefinite, nesting}
use Rattle.item.specs.Verdict.{Stack, push}
use Rattle.item.specs.Besides.Verdict.{alone}
use Rattle.moves.specs.declared.Level.{Level}
use Rattle.moves.specs.Inside.Levels.{frame_of, tell, Good}
use Rattle.moves.specs.Inside.Frames.{kept, spent, Holds, begins, breakable, room_for, may_begin}
use Rattle.moves.specs.Inside.Moves.{Stays, Downs, Skips, Stops, Leaves, Asked, Doubles}
use Rattle.moves.proofs.Tell.{tell_none, tell_one, tell_content, tell_string, tell_argument, tell_cut, tell_high, tell_low}
use Rattle.moves.proofs.Tell.{tell_no_second, number_more}
use Rattle.moves.proofs.Frames.{NoBreak, tell_into, tell_refused, tell_broken, tell_out, level_holds, level_unspent, may_short, may_not_short}
use Rattle.moves.proofs.Frames.{may_long, may_not_long, chunk_simple, chunk_indefinite, never_break, never_reserved, item_simple}
use Rattle.moves.proofs.Frames.{item_indefinite, indefinite_some, indefinite_none}

-- A byte that is there stays where it is when more come.
pub here : (xs ys : List ℕ) (at : ℕ) → at < length xs → {i : Initial} → initial (get_or xs at 0) ≡ i → initial (get_or (xs ++ ys) at 0) ≡ i
here xs ys at l e = ap initial (get_or-append xs ys 0 at l) ∙ e

pub longer : (xs ys : List ℕ) (at : ℕ) → at < length xs → at < length (xs ++ ys)
longer xs ys at l = omega (arith, length-append xs ys)

-- a head whose argument is not in its first byte asks for it, and counts for nothing yet
module _ (zs : List ℕ) (at h d : ℕ) (f : Frame) (fs : Stack) (l : at < length zs) (holds : Holds f) (unspent : spent f ≡ false) where
  later : (i : Initial) (g : Frame) → initial (get_or zs at 0) ≡ i → begins f d i ≡ some g → alone i ≡ 0
      → tell zs at h (push d f fs) ≡ tell zs (at + 1) h (push (d - 1) g (push d (kept f) fs))
  later i g e p q =
      let z : h + alone i ≡ h = omega arith in
      tell_into zs at h d f fs l holds unspent i g e p ∙ ap (λ (n : ℕ). tell zs (at + 1) n (push (d - 1) g (push d (kept f) fs))) z

  pub long_head : (m : Major) (j : ℕ) → initial (get_or zs at 0) ≡ Long m j → begins f d (Long m j) ≡ some (Argument m 0 j) → j < length zs - (at + 1)
      → tell zs at h (push d f fs)
      ≡ tell zs (at + 1 + (j + 1)) (h + 1) (push (d - 1) (content m (number (run zs (at + 1) (j + 1)))) (push d (kept f) fs))
  long_head m j e p q = later (Long m j) (Argument m 0 j) e p refl ∙ tell_argument zs (at + 1) h j 0 (d - 1) m (push d (kept f) fs) q

-- the argument lies in the bytes that are there
pub number_here : (xs ys : List ℕ) (p j : ℕ) → p + j ≤ length xs → number (run (xs ++ ys) p j) ≡ number (run xs p j)
number_here xs ys p j h =
    ap (λ (bs : List ℕ). number (take j bs)) (drop-append-le p xs ys (omega arith)) ∙ number_more j (drop p xs) ys (omega (arith, length-drop p xs))

module _ (xs : List ℕ) (at k c d : ℕ) (l : at < length xs) (s : 0 < k + c) where
  -- a head in one byte
  pub asked_short : (m : Major) (v : ℕ) → initial (get_or xs at 0) ≡ Short m v → may_begin k d m ≡ true → Asked xs at k c d (content m v) (at + 1)
  asked_short m v e p ys fs h =
      tell_into (xs ++ ys) at h (nesting - d) (frame_of k c) fs (longer xs ys at l) (level_holds k c) (level_unspent k c s) (Short m v)
      (content m v) (here xs ys at l e) (may_short k c d m v p)

  -- a head with its argument
  pub asked_long : (m : Major) (j : ℕ) → initial (get_or xs at 0) ≡ Long m j → may_begin k d m ≡ true → j < length xs - (at + 1)
      → Asked xs at k c d (content m (number (run xs (at + 1) (j + 1)))) (at + 1 + (j + 1))
  asked_long m j e p q ys fs h =
      long_head (xs ++ ys) at h (nesting - d) (frame_of k c) fs (longer xs ys at l) (level_holds k c) (level_unspent k c s) m j
      (here xs ys at l e) (may_long k c d m j p) (omega (arith, length-append xs ys))
      ∙ ap (λ (v : ℕ). tell (xs ++ ys) (at + 1 + (j + 1)) (h + 1) (push (nesting - d - 1) (content m v) (push (nesting - d) (kept (frame_of k c)) fs)))
      (number_here xs ys (at + 1) (j + 1) (omega arith))

  pub cut_long : (m : Major) (j : ℕ) → initial (get_or xs at 0) ≡ Long m j → may_begin k d m ≡ true → length xs - (at + 1) ≤ j
      → Stops xs at k c d (Err Incomplete)
  cut_long m j e p q fs h =
      later xs at h (nesting - d) (frame_of k c) fs l (level_holds k c) (level_unspent k c s) (Long m j) (Argument m 0 j) e (may_long k c d m j p) refl
      ∙ tell_cut xs (at + 1) h j 0 (nesting - d - 1) m (push (nesting - d) (kept (frame_of k c)) fs) q

  -- a first byte that may not stand here
  refused : (i : Initial) → initial (get_or xs at 0) ≡ i → begins (frame_of k c) (nesting - d) i ≡ none → NoBreak i (frame_of k c)
      → Stops xs at k c d (Err (Bad at))
  refused i e p q fs h = tell_refused xs at h (nesting - d) (frame_of k c) fs l (level_holds k c) (level_unspent k c s) i e p q

  pub no_short : (m : Major) (v : ℕ) → initial (get_or xs at 0) ≡ Short m v → may_begin k d m ≡ false → Stops xs at k c d (Err (Bad at))
  no_short m v e p = refused (Short m v) e (may_not_short k c d m v p) tt

  pub no_long : (m : Major) (j : ℕ) → initial (get_or xs at 0) ≡ Long m j → may_begin k d m ≡ false → Stops xs at k c d (Err (Bad at))
  no_long m j e p = refused (Long m j) e (may_not_long k c d m j p) tt

  pub no_chunk : (m : Major) → initial (get_or xs at 0) ≡ Indefinite m → 4 ≤ k → Stops xs at k c d (Err (Bad at))
  no_chunk m e p = refused (Indefinite m) e (chunk_indefinite k c (nesting - d) m p) tt

  pub no_room : (m : Major) → initial (get_or xs at 0) ≡ Indefinite m → k < 4 → room_for m d ≡ false → Stops xs at k c d (Err (Bad at))
  no_room m e h p = refused (Indefinite m) e (item_indefinite k c (nesting - d) m h ∙ indefinite_none m d p) tt

  -- no number and no tag has an indefinite length
  pub no_number : initial (get_or xs at 0) ≡ Indefinite Number → k < 4 → Stops xs at k c d (Err (Bad at))
  unfolding indefinite
  no_number e h = refused (Indefinite Number) e (item_indefinite k c (nesting - d) Number h) tt

  pub no_tag : initial (get_or xs at 0) ≡ Indefinite Tag → k < 4 → Stops xs at k c d (Err (Bad at))
  unfolding indefinite
  no_tag e h = refused (Indefinite Tag) e (item_indefinite k c (nesting - d) Tag h) tt

  pub no_simple : initial (get_or xs at 0) ≡ Simple → 4 ≤ k → Stops xs at k c d (Err (Bad at))
  no_simple e p = refused Simple e (chunk_simple k c (nesting - d) p) tt

  pub no_reserved : initial (get_or xs at 0) ≡ Reserved → Stops xs at k c d (Err (Bad at))
  no_reserved e = refused Reserved e (never_reserved k c (nesting - d)) tt

  pub no_end : initial (get_or xs at 0) ≡ Break → breakable (frame_of k c) ≡ false → Stops xs at k c d (Err (Bad at))
  no_end e p = refused Break e (never_break k c (nesting - d)) p

  -- a break: from then on the level wants nothing
  pub ends : Good k c d → initial (get_or xs at 0) ≡ Break → breakable (frame_of k c) ≡ true → Stays xs at k c d (at + 1) (record { kind = 0; count = 0 })
  ends g e p =
      record {
        on = omega arith;
        inside = omega arith;
        good = record { tall = g.tall; low = λ a b. absurd (omega arith); none = λ a. refl };
        same = λ ys fs h.
            tell_broken (xs ++ ys) at h (nesting - d) (frame_of k c) fs (longer xs ys at l) (level_holds k c) (level_unspent k c s)
            (here xs ys at l e) p
            ∙ sym (tell_none (xs ++ ys) (at + 1) (h + 1) (nesting - d) fs);
      }

  -- a simple value in a byte of its own: the byte is not there; it is below 32; it is not
  second : initial (get_or xs at 0) ≡ Simple → k < 4 → (ys : List ℕ) (fs : Stack) (h : ℕ)
      → tell (xs ++ ys) at h (push (nesting - d) (frame_of k c) fs)
      ≡ tell (xs ++ ys) (at + 1) h (push (nesting - d - 1) Second (push (nesting - d) (kept (frame_of k c)) fs))
  second e p ys fs h =
      later (xs ++ ys) at h (nesting - d) (frame_of k c) fs (longer xs ys at l) (level_holds k c) (level_unspent k c s) Simple Second
      (here xs ys at l e) (item_simple k c (nesting - d) p) refl

  second_here : initial (get_or xs at 0) ≡ Simple → k < 4 → (fs : Stack) (h : ℕ)
      → tell xs at h (push (nesting - d) (frame_of k c) fs)
      ≡ tell xs (at + 1) h (push (nesting - d - 1) Second (push (nesting - d) (kept (frame_of k c)) fs))
  second_here e p fs h =
      later xs at h (nesting - d) (frame_of k c) fs l (level_holds k c) (level_unspent k c s) Simple Second e (item_simple k c (nesting - d) p) refl

  pub simple_cut : initial (get_or xs at 0) ≡ Simple → k < 4 → length xs ≡ at + 1 → Stops xs at k c d (Err Incomplete)
  simple_cut e p q fs h =
      second_here e p fs h ∙ tell_no_second xs (at + 1) h (nesting - d - 1) (push (nesting - d) (kept (frame_of k c)) fs) (omega arith)

  pub simple_low : initial (get_or xs at 0) ≡ Simple → k < 4 → at + 1 < length xs → get_or xs (at + 1) 0 < 32 → Stops xs at k c d (Err (Bad (at + 1)))
  simple_low e p q b fs h =
      second_here e p fs h ∙ tell_low xs (at + 1) h (nesting - d - 1) (push (nesting - d) (kept (frame_of k c)) fs) q b

  -- What is left of the level, as a level.
  module _ (o : Level) (e : Leaves k c o) (g : Good k c d) where
    left_good : Good o.kind o.count d
    left_good =
        record {
          tall = g.tall;
          low = λ a b. let q = e.low a in g.low q.0 q.1;
          none = e.none;
        }

    left : (zs : List ℕ) (p h : ℕ) (a : Stack → Stack) (fs : Stack)
        → tell zs p h (a (push (nesting - d) (kept (frame_of k c)) fs)) ≡ tell zs p h (a (push (nesting - d) (frame_of o.kind o.count) fs))
    left zs p h a fs = ap (λ (f : Frame). tell zs p h (a (push (nesting - d) f fs))) (sym e.frame)

    pub simple_high : initial (get_or xs at 0) ≡ Simple → k < 4 → at + 1 < length xs → 32 ≤ get_or xs (at + 1) 0 → Stays xs at k c d (at + 2) o
    simple_high i p q b =
        record {
          on = omega arith;
          inside = omega arith;
          good = left_good;
          same = λ ys fs h.
              let z : at + 1 + 1 ≡ at + 2 = omega arith in
              let x : 32 ≤ get_or (xs ++ ys) (at + 1) 0 = rw (get_or-append xs ys 0 (at + 1) q) b in
              second i p ys fs h
              ∙ tell_high (xs ++ ys) (at + 1) h (nesting - d - 1) (push (nesting - d) (kept (frame_of k c)) fs) (longer xs ys (at + 1) q) x
              ∙ ap (λ (n : ℕ). tell (xs ++ ys) n (h + 1) (push (nesting - d) (kept (frame_of k c)) fs)) z
              ∙ left (xs ++ ys) (at + 2) (h + 1) (λ gs. gs) fs;
        }

    -- what is asked for after a head: bytes that are there, bytes that are not all there, a level
    pub string_there : (p v : ℕ) → at < p → p ≤ length xs → v ≤ length xs - p → Asked xs at k c d (Content v) p → Stays xs at k c d (p + v) o
    string_there p v a b q t =
        record {
          on = omega arith;
          inside = omega arith;
          good = left_good;
          same = λ ys fs h.
              t ys fs h
              ∙ tell_string (xs ++ ys) p (h + 1) v (nesting - d - 1) (push (nesting - d) (kept (frame_of k c)) fs) (omega (arith, length-append xs ys))
              ∙ left (xs ++ ys) (p + v) (h + 1) (λ gs. gs) fs;
        }

    pub string_cut : (p v w : ℕ) → p ≤ length xs → length xs - p < v → w ≡ v - (length xs - p)
        → Asked xs at k c d (Content v) p → Skips xs at k c d w o
    string_cut p v w b q z t =
        record {
          on = l;
          some = omega arith;
          good = left_good;
          same = λ ys fs h.
              let y : p + (length xs - p) ≡ length xs = omega arith in
              t ys fs h
              ∙ tell_content (xs ++ ys) p (h + 1) (length xs - p) v (nesting - d - 1) 0 (push (nesting - d) (kept (frame_of k c)) fs) (omega arith)
              (omega (arith, length-append xs ys))
              ∙ ap₂ (λ (n m : ℕ). tell (xs ++ ys) n (h + 1) (push 0 (Content m) (push (nesting - d) (kept (frame_of k c)) fs))) y (sym z)
              ∙ left (xs ++ ys) (length xs) (h + 1) (λ gs. push 0 (Content w) gs) fs;
        }

    pub goes_down : (p : ℕ) (a : Frame) (i : Level) → at < p → p ≤ length xs → k < 4 → d < nesting + 1 → Good i.kind i.count (d + 1)
        → ((zs : List ℕ) (h : ℕ) (fs : Stack)
        → tell zs p h (push (nesting - d - 1) a fs) ≡ tell zs p h (push (nesting - d - 1) (frame_of i.kind i.count) fs))
        → Asked xs at k c d a p → Downs xs at k c d p o i
    goes_down p a i b q hk hd gi same t =
        record {
          on = b;
          inside = q;
          items = e.high hk;
          room = hd;
          good = gi;
          same = λ ys fs h.
              let z : nesting - d - 1 ≡ nesting - (d + 1) = omega arith in
              t ys fs h ∙ same (xs ++ ys) (h + 1) (push (nesting - d) (kept (frame_of k c)) fs)
              ∙ left (xs ++ ys) p (h + 1) (λ gs. push (nesting - d - 1) (frame_of i.kind i.count) gs) fs
              ∙ ap (λ (n : ℕ). tell (xs ++ ys) p (h + 1) (push n (frame_of i.kind i.count) (push (nesting - d) (frame_of o.kind o.count) fs)))
              z;
        }

    -- a level of indefinite length
    pub opens : (m : Major) (a : Frame) (i : Level) → initial (get_or xs at 0) ≡ Indefinite m → k < 4 → room_for m d ≡ true → indefinite m 1 ≡ some a
        → a ≡ frame_of i.kind i.count → Good i.kind i.count (d + 1) → Downs xs at k c d (at + 1) o i
    opens m a i e' hk r q z gi =
        let dl = g.low hk s in
        goes_down (at + 1) a i (omega arith) (omega arith) hk (omega arith) gi
        (λ zs h fs. ap (λ (f : Frame). tell zs (at + 1) h (push (nesting - d - 1) f fs)) z)
        (λ ys fs h.
        tell_into (xs ++ ys) at h (nesting - d) (frame_of k c) fs (longer xs ys at l) (level_holds k c) (level_unspent k c s) (Indefinite m) a
        (here xs ys at l e') (item_indefinite k c (nesting - d) m hk ∙ indefinite_some m d r a q))

    pub open_bytes : initial (get_or xs at 0) ≡ Indefinite Bytes → k < 4 → room_for Bytes d ≡ true
        → Downs xs at k c d (at + 1) o (record { kind = 4; count = 0 })
    unfolding indefinite
    open_bytes i hk r =
        let z = g.low hk s in
        opens Bytes (Chunks false) (record { kind = 4; count = 0 }) i hk r refl refl
        (record { tall = omega arith; low = λ a b. absurd (omega arith); none = λ a. refl })

    pub open_text : initial (get_or xs at 0) ≡ Indefinite Text → k < 4 → room_for Text d ≡ true
        → Downs xs at k c d (at + 1) o (record { kind = 5; count = 0 })
    unfolding indefinite
    open_text i hk r =
        let z = g.low hk s in
        opens Text (Chunks true) (record { kind = 5; count = 0 }) i hk r refl refl
        (record { tall = omega arith; low = λ a b. absurd (omega arith); none = λ a. refl })

    pub open_array : initial (get_or xs at 0) ≡ Indefinite Array → k < 4 → room_for Array d ≡ true
        → Downs xs at k c d (at + 1) o (record { kind = 2; count = 2 ^ 63 })
    unfolding indefinite
    open_array i hk r =
        let z = ltb-true d nesting r in
        opens Array Elements (record { kind = 2; count = 2 ^ 63 }) i hk r refl refl
        (record { tall = omega arith; low = λ a b. omega arith; none = λ a. absurd (omega arith) })

    pub open_map : initial (get_or xs at 0) ≡ Indefinite Map → k < 4 → room_for Map d ≡ true
        → Downs xs at k c d (at + 1) o (record { kind = 3; count = 2 ^ 63 })
    unfolding indefinite
    open_map i hk r =
        let z = ltb-true d nesting r in
        opens Map Pairs (record { kind = 3; count = 2 ^ 63 }) i hk r refl refl
        (record { tall = omega arith; low = λ a b. omega arith; none = λ a. absurd (omega arith) })

-- The bytes end where a head is wanted.
pub lacks : (xs : List ℕ) (at k c d : ℕ) → length xs ≤ at → 0 < k + c → Stops xs at k c d (Err Incomplete)
lacks xs at k c d l s fs h = tell_out xs at h (nesting - d) (frame_of k c) fs l (level_holds k c) (level_unspent k c s)

-- Where an array, a map or a tag may begin, items are wanted, and the nesting has room.
deep_room : (k d : ℕ) → cond (ltb k 4) (ltb d nesting) false ≡ true → (k < 4) × (d < nesting)
deep_room k d p = of (ltb k 4) refl p
  where
    of : (t : Bool) → ltb k 4 ≡ t → cond t (ltb d nesting) false ≡ true → (k < 4) × (d < nesting)
    of true e q = (ltb-true k 4 e, ltb-true d nesting q)
    of false e q = absurd (false≢true q)

deep_good : (k c d : ℕ) → k < 4 → d < nesting → Good k c (d + 1)
deep_good k c d h l = record { tall = omega arith; low = λ a b. omega arith; none = λ a. absurd (omega arith) }

-- What follows a head, by its major type.
module _ (xs : List ℕ) (at k c d : ℕ) (p : ℕ) (o : Level) (b : at < p) (q : p ≤ length xs) (s : 0 < k + c) (e : Leaves k c o) (g : Good k c d) where
  pub follow_number : (v : ℕ) → Asked xs at k c d (content Number v) p → Stays xs at k c d p o
  follow_number v t =
      let z : p + 0 ≡ p = omega arith in
      subst (λ (n : ℕ). Stays xs at k c d n o) z (string_there xs at k c d (omega arith) s o e g p 0 b q (omega arith) t)

  pub follow_array : (v : ℕ) → may_begin k d Array ≡ true → Asked xs at k c d (content Array v) p → Downs xs at k c d p o (record { kind = 0; count = v })
  follow_array v r t =
      let y = deep_room k d r in
      let y₁ = y.1 in
      goes_down xs at k c d (omega arith) s o e g p (Items v) (record { kind = 0; count = v }) b q y.0 (omega arith)
      (deep_good 0 v d (omega arith) y₁)
      (λ zs h fs. refl) t

  pub follow_map : (v : ℕ) (i : Level) → Doubles v i → may_begin k d Map ≡ true → Asked xs at k c d (content Map v) p → Downs xs at k c d p o i
  follow_map v i w r t =
      let y = deep_room k d r in
      let y₁ = y.1 in
      goes_down xs at k c d (omega arith) s o e g p (Items (v * 2)) i b q y.0 (omega arith) (deep_good i.kind i.count d w.items y₁)
      (λ zs h fs. ap (λ (f : Frame). tell zs p h (push (nesting - d - 1) f fs)) (sym w.frame)) t

  pub follow_tag : (v : ℕ) → may_begin k d Tag ≡ true → Asked xs at k c d (content Tag v) p → Downs xs at k c d p o (record { kind = 0; count = 1 })
  follow_tag v r t =
      let y = deep_room k d r in
      let y₁ = y.1 in
      goes_down xs at k c d (omega arith) s o e g p One (record { kind = 0; count = 1 }) b q y.0 (omega arith) (deep_good 0 1 d (omega arith) y₁)
      (λ zs h fs. tell_one zs p h (nesting - d - 1) fs) t
