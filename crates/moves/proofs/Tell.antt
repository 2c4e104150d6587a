-- What is told of bytes from a place on, byte by byte and then by contents and arguments: the base of all that a walk
-- by heads rests on.
-- Assumes nothing.
use Prim.Native.Nat.{ℕ, zero, suc, ◌+◌, ◌*◌, ◌-◌, ◌≤◌, ◌<◌}
use mathlib.Core.List.{List, [], ◌∷◌, ◌++◌}
use mathlib.Core.Bool.{Bool, false, cond}
use mathlib.Core.Option.{none, some}
use mathlib.Core.Path.{◌≡◌, refl, sym, ap, ap₂, ◌∙◌}
use lib.ListN.{length, take, drop, get_or, length-drop, drop_of_length-le}
use lib.Seq.{drop-cons, drop-drop, take-append-le}
use native.Mathlib.Omega.{arith}
use native.Mathlib.Numerals.{add-one}
use borrow.Author.Tests.{le-leb, lt-leb}
use Rattle.std.specs.Prelude.{Ok, Err}
use Rattle.base.specs.Numbers.{spelled, number}
use Rattle.head.specs.declared.Major.{Major}
use Rattle.item.specs.declared.NotWhole.TheVariants.{Bad, Incomplete}
use Rattle.item.specs.Grammar.{Items, Content, Second, Argument, One, content}
use Rattle.item.specs.Verdict.{Stack, nil, push, step, met, onward, judge, Verdict}
use Rattle.item.specs.Besides.Verdict.{tally, counting, heads}
use Rattle.moves.specs.Inside.Levels.{tell}

-- the same of the bytes themselves
abbrev pub say : List ℕ → ℕ → ℕ → Stack → Verdict × ℕ
say bs at h fs = (judge bs at fs, h + heads bs fs)

pub pair : {v w : Verdict} {m n : ℕ} → v ≡ w → m ≡ n → ◌≡◌ {A = Verdict × ℕ} (v, m) (w, n)
pair p q = ap₂ (λ v n. (v, n)) p q

say_step : (b : ℕ) (bs : List ℕ) (at h : ℕ) (fs gs : Stack) → met fs ≡ false → step fs b ≡ some gs
    → say (b ∷ bs) at h fs ≡ say bs (suc at) (h + tally fs b) gs
unfolding judge heads
say_step b bs at h fs gs p q =
    pair (ap₂ (λ t n. onward t at n (λ gs. judge bs (suc at) gs)) p q)
    (ap₂ (λ t n. h + counting t (tally fs b) n (λ gs. heads bs gs)) p q ∙ omega arith)

say_bad : (b : ℕ) (bs : List ℕ) (at h : ℕ) (fs : Stack) → met fs ≡ false → step fs b ≡ none → say (b ∷ bs) at h fs ≡ (Err (Bad at), h)
unfolding judge heads
say_bad b bs at h fs p q =
    pair (ap₂ (λ t n. onward t at n (λ gs. judge bs (suc at) gs)) p q)
    (ap₂ (λ t n. h + counting t (tally fs b) n (λ gs. heads bs gs)) p q ∙ omega arith)

say_end : (at h : ℕ) (fs : Stack) → met fs ≡ false → say [] at h fs ≡ ((Err Incomplete), h)
unfolding judge heads
say_end at h fs p = pair (ap (λ (t : Bool). cond t (Ok at) (Err Incomplete)) p) (omega arith)

-- nothing more is wanted at all
say_nil : (bs : List ℕ) (at h : ℕ) → say bs at h nil ≡ (Ok at, h)
unfolding judge heads met
say_nil [] at h = pair refl (omega arith)
say_nil (b ∷ bs) at h = pair refl (omega arith)

-- a frame of no items, and one item
pub say_none : (bs : List ℕ) (at h d : ℕ) (fs : Stack) → say bs at h (push d (Items zero) fs) ≡ say bs at h fs
unfolding judge heads met step tally
say_none [] at h d fs = refl
say_none (b ∷ bs) at h d fs = refl

pub say_one : (bs : List ℕ) (at h d : ℕ) (fs : Stack) → say bs at h (push d One fs) ≡ say bs at h (push d (Items 1) fs)
unfolding judge heads met step tally
say_one [] at h d fs = refl
say_one (b ∷ bs) at h d fs = refl

pub say_empty : (bs : List ℕ) (at h d : ℕ) (fs : Stack) → say bs at h (push d (Content zero) fs) ≡ say bs at h fs
unfolding judge heads met step tally
say_empty [] at h d fs = refl
say_empty (b ∷ bs) at h d fs = refl

-- bytes of a string: one; within any nesting; so many
say_byte : (b : ℕ) (bs : List ℕ) (at h d v : ℕ) (fs : Stack)
    → say (b ∷ bs) at h (push d (Content (suc v)) fs) ≡ say bs (suc at) h (push d (Content v) fs)
unfolding judge heads met step tally
say_byte b bs at h d v fs = pair refl (omega arith)

say_within : (v : ℕ) (bs : List ℕ) (at h d e : ℕ) (fs : Stack) → say bs at h (push d (Content v) fs) ≡ say bs at h (push e (Content v) fs)
unfolding judge heads met
say_within zero bs at h d e fs = say_empty bs at h d fs ∙ sym (say_empty bs at h e fs)
say_within (suc v) [] at h d e fs = refl
say_within (suc v) (b ∷ bs) at h d e fs = say_byte b bs at h d v fs ∙ say_within v bs (suc at) h d e fs ∙ sym (say_byte b bs at h e v fs)

say_content : (n : ℕ) (bs : List ℕ) (at h d v : ℕ) (fs : Stack) → n ≤ length bs
    → say bs at h (push d (Content (n + v)) fs) ≡ say (drop n bs) (at + n) h (push d (Content v) fs)
say_content zero bs at h d v fs l =
    let e : 0 + v ≡ v = omega arith in
    let z : at ≡ at + 0 = omega arith in
    ap₂ (λ (m n : ℕ). say bs n h (push d (Content m) fs)) e z
say_content (suc n) [] at h d v fs l = absurd (omega arith)
say_content (suc n) (b ∷ bs) at h d v fs l =
    let e : suc n + v ≡ suc (n + v) = omega arith in
    let z : suc at + n ≡ at + suc n = omega arith in
    ap (λ (m : ℕ). say (b ∷ bs) at h (push d (Content m) fs)) e ∙ say_byte b bs at h d (n + v) fs ∙ say_content n bs (suc at) h d v fs (omega arith)
    ∙ ap (λ (m : ℕ). say (drop n bs) m h (push d (Content v) fs)) z

-- an argument: its last byte, one before, all of it, too little of it
say_last : (x : ℕ) (bs : List ℕ) (at h d : ℕ) (m : Major) (v : ℕ) (fs : Stack)
    → say (x ∷ bs) at h (push d (Argument m v zero) fs) ≡ say bs (suc at) (h + 1) (push d (content m (v * 256 + x)) fs)
unfolding judge heads met step tally
say_last x bs at h d m v fs = pair refl (omega arith)

say_digit : (x : ℕ) (bs : List ℕ) (at h d : ℕ) (m : Major) (v k : ℕ) (fs : Stack)
    → say (x ∷ bs) at h (push d (Argument m v (suc k)) fs) ≡ say bs (suc at) h (push d (Argument m (v * 256 + x) k) fs)
unfolding judge heads met step tally
say_digit x bs at h d m v k fs = pair refl (omega arith)

say_argument : (k : ℕ) (bs : List ℕ) (at h d : ℕ) (m : Major) (v : ℕ) (fs : Stack) → k < length bs
    → say bs at h (push d (Argument m v k) fs) ≡ say (drop (suc k) bs) (at + suc k) (h + 1) (push d (content m (spelled v (take (suc k) bs))) fs)
unfolding spelled
say_argument zero [] at h d m v fs l = absurd (omega arith)
say_argument zero (x ∷ bs) at h d m v fs l =
    say_last x bs at h d m v fs ∙ ap (λ (n : ℕ). say bs n (h + 1) (push d (content m (v * 256 + x)) fs)) (omega arith)
say_argument (suc k) [] at h d m v fs l = absurd (omega arith)
say_argument (suc k) (x ∷ bs) at h d m v fs l =
    say_digit x bs at h d m v k fs ∙ say_argument k bs (suc at) h d m (v * 256 + x) fs (omega arith)
    ∙ ap (λ (n : ℕ). say (drop (suc k) bs) n (h + 1) (push d (content m (spelled (v * 256 + x) (take (suc k) bs))) fs)) (omega arith)

say_cut : (k : ℕ) (bs : List ℕ) (at h d : ℕ) (m : Major) (v : ℕ) (fs : Stack) → length bs ≤ k
    → say bs at h (push d (Argument m v k) fs) ≡ ((Err Incomplete), h)
unfolding met
say_cut k [] at h d m v fs l = say_end at h (push d (Argument m v k) fs) refl
say_cut zero (x ∷ bs) at h d m v fs l = absurd (omega arith)
say_cut (suc k) (x ∷ bs) at h d m v fs l = say_digit x bs at h d m v k fs ∙ say_cut k bs (suc at) h d m (v * 256 + x) fs (omega arith)

-- The same at a place of the bytes.
module _ (zs : List ℕ) (at h : ℕ) where
  pub tell_step : (fs gs : Stack) → at < length zs → met fs ≡ false → step fs (get_or zs at 0) ≡ some gs
      → tell zs at h fs ≡ tell zs (at + 1) (h + tally fs (get_or zs at 0)) gs
  tell_step fs gs l p q =
      ap (λ (bs : List ℕ). say bs at h fs) (drop-cons zs at 0 l) ∙ say_step (get_or zs at 0) (drop (suc at) zs) at h fs gs p q
      ∙ ap (λ (n : ℕ). say (drop n zs) n (h + tally fs (get_or zs at 0)) gs) (sym (add-one at))

  pub tell_bad : (fs : Stack) → at < length zs → met fs ≡ false → step fs (get_or zs at 0) ≡ none → tell zs at h fs ≡ (Err (Bad at), h)
  tell_bad fs l p q =
      ap (λ (bs : List ℕ). say bs at h fs) (drop-cons zs at 0 l) ∙ say_bad (get_or zs at 0) (drop (suc at) zs) at h fs p q

  pub tell_end : (fs : Stack) → length zs ≤ at → met fs ≡ false → tell zs at h fs ≡ ((Err Incomplete), h)
  tell_end fs l p = ap (λ (bs : List ℕ). say bs at h fs) (drop_of_length-le zs {i = at} l) ∙ say_end at h fs p

  pub tell_nil : tell zs at h nil ≡ (Ok at, h)
  tell_nil = say_nil (drop at zs) at h

  pub tell_none : (d : ℕ) (fs : Stack) → tell zs at h (push d (Items zero) fs) ≡ tell zs at h fs
  tell_none d fs = say_none (drop at zs) at h d fs

  pub tell_one : (d : ℕ) (fs : Stack) → tell zs at h (push d One fs) ≡ tell zs at h (push d (Items 1) fs)
  tell_one d fs = say_one (drop at zs) at h d fs

  pub tell_empty : (d : ℕ) (fs : Stack) → tell zs at h (push d (Content zero) fs) ≡ tell zs at h fs
  tell_empty d fs = say_empty (drop at zs) at h d fs

  -- of v bytes of a string n are there
  pub tell_content : (n v d e : ℕ) (fs : Stack) → n ≤ v → n ≤ length zs - at
      → tell zs at h (push d (Content v) fs) ≡ tell zs (at + n) h (push e (Content (v - n)) fs)
  tell_content n v d e fs l k =
      let z : v ≡ n + (v - n) = omega arith in
      ap (λ (m : ℕ). say (drop at zs) at h (push d (Content m) fs)) z
      ∙ say_content n (drop at zs) at h d (v - n) fs (omega (arith, length-drop at zs))
      ∙ ap (λ (bs : List ℕ). say bs (at + n) h (push d (Content (v - n)) fs)) (drop-drop n at zs)
      ∙ say_within (v - n) (drop (at + n) zs) (at + n) h d e fs

  -- and all are there
  pub tell_string : (v d : ℕ) (fs : Stack) → v ≤ length zs - at → tell zs at h (push d (Content v) fs) ≡ tell zs (at + v) h fs
  tell_string v d fs l =
      let z : v - v ≡ 0 = omega arith in
      tell_content v v d d fs (omega arith) l
      ∙ ap (λ (m : ℕ). say (drop (at + v) zs) (at + v) h (push d (Content m) fs)) z
      ∙ say_empty (drop (at + v) zs) (at + v) h d fs

  pub tell_argument : (k v d : ℕ) (m : Major) (fs : Stack) → k < length zs - at
      → tell zs at h (push d (Argument m v k) fs) ≡ tell zs (at + (k + 1)) (h + 1) (push d (content m (spelled v (take (k + 1) (drop at zs)))) fs)
  tell_argument k v d m fs l =
      say_argument k (drop at zs) at h d m v fs (omega (arith, length-drop at zs))
      ∙ ap (λ (bs : List ℕ). say bs (at + suc k) (h + 1) (push d (content m (spelled v (take (suc k) (drop at zs)))) fs)) (drop-drop (suc k) at zs)
      ∙ ap (λ (j : ℕ). tell zs (at + j) (h + 1) (push d (content m (spelled v (take j (drop at zs)))) fs)) (sym (add-one k))

  pub tell_cut : (k v d : ℕ) (m : Major) (fs : Stack) → length zs - at ≤ k → tell zs at h (push d (Argument m v k) fs) ≡ ((Err Incomplete), h)
  tell_cut k v d m fs l = say_cut k (drop at zs) at h d m v fs (omega (arith, length-drop at zs))

  -- the byte of a simple value
  pub tell_high : (d : ℕ) (fs : Stack) → at < length zs → 32 ≤ get_or zs at 0 → tell zs at h (push d Second fs) ≡ tell zs (at + 1) (h + 1) fs
  unfolding met step tally
  tell_high d fs l k =
      tell_step (push d Second fs) fs l refl (ap (λ (t : Bool). cond t (some fs) none) (le-leb 32 (get_or zs at 0) k))

  pub tell_low : (d : ℕ) (fs : Stack) → at < length zs → get_or zs at 0 < 32 → tell zs at h (push d Second fs) ≡ (Err (Bad at), h)
  unfolding met step
  tell_low d fs l k = tell_bad (push d Second fs) l refl (ap (λ (t : Bool). cond t (some fs) none) (lt-leb 32 (get_or zs at 0) k))

  pub tell_no_second : (d : ℕ) (fs : Stack) → length zs ≤ at → tell zs at h (push d Second fs) ≡ ((Err Incomplete), h)
  unfolding met
  tell_no_second d fs l = tell_end (push d Second fs) l refl

  -- bytes of a string are wanted, and there are none
  pub tell_starved : (v d : ℕ) (fs : Stack) → length zs ≤ at → 0 < v → tell zs at h (push d (Content v) fs) ≡ ((Err Incomplete), h)
  unfolding met
  tell_starved zero d fs l p = absurd (omega arith)
  tell_starved (suc v) d fs l p = tell_end (push d (Content (suc v)) fs) l refl

-- An argument that is there stays as it is when more bytes come.
pub number_more : (k : ℕ) (bs ys : List ℕ) → k ≤ length bs → number (take k (bs ++ ys)) ≡ number (take k bs)
number_more k bs ys h = ap number (take-append-le k bs ys h)
