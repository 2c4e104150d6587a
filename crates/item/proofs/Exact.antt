-- The verdict from any stack is exactly what the grammar says (`exact`), and no other verdict is (`only`): whatever is
-- wanted can be met by bytes (`alive`), `met` says when nothing is wanted, and a byte moves the stack as the grammar
-- asks.
-- Assumes nothing.
use Prim.Native.Nat.{ℕ, zero, suc, ◌+◌, ◌*◌, ◌≤◌, ◌<◌}
use mathlib.Core.List.{List, [], ◌∷◌, ◌++◌}
use mathlib.Core.Bool.{Bool, true, false, false≢true, cond}
use mathlib.Core.Option.{Option, none, some}
use mathlib.Core.Path.{◌≡◌, refl, sym, ap, subst, subst⁻¹, ◌∙◌}
use lib.ListN.{length, take}
use native.Mathlib.Omega.{arith}
use Rattle.std.specs.Prelude.{Ok, Err}
use Rattle.base.specs.Numbers.{Bytes}
use Rattle.head.specs.Initial.{initial}
use Rattle.head.specs.declared.Major.{Major}
use Rattle.head.specs.declared.Major.TheVariants as major
use Rattle.head.specs.declared.Initial.TheVariants.{Break}
use Rattle.item.specs.declared.NotWhole.TheVariants.{Bad, Incomplete}
use Rattle.item.specs.Grammar.{Frame, One, Items, Elements, Pairs, Value, Chunks, Content, Second, Argument, content, enter, nest, Reads, one}
use Rattle.item.specs.Grammar.{no_more, item, end_array, element, end_map, key, value, end_string, no_byte, byte, simple, last, digit}
use Rattle.item.specs.Verdict.{Stack, nil, push, step, met, onward, judge, Verdict}
use Rattle.item.proofs.Derivative.{Rest, done, then, After, forth, back}

-- bytes that meet what a frame wants, before the bytes cs, each a byte where those are
abbrev Meets : ℕ → Frame → List ℕ → Type 0
Meets d f cs = (bs : List ℕ) × Reads d f bs cs × (Bytes cs → Bytes bs)

bytes : (d n : ℕ) (cs : List ℕ) → Meets d (Content n) cs
unfolding Bytes
bytes d zero cs = (cs, no_byte, λ o. o)
bytes d (suc n) cs = let r = bytes d n cs in (0 ∷ r.0, byte r.1, λ o. (omega arith, r.2 o))

-- nought is an item
nought : (d : ℕ) (cs : List ℕ) → Meets d One cs
unfolding enter initial nest Bytes
nought d cs = (0 ∷ cs, one {f = Content 0} refl no_byte, λ o. (omega arith, o))

items : (d n : ℕ) (cs : List ℕ) → Meets d (Items n) cs
items d zero cs = (cs, no_more, λ o. o)
items d (suc n) cs = let r = items d n cs in let q = nought d r.0 in (q.0, item q.1 r.1, λ o. q.2 (r.2 o))

contents : (d : ℕ) (m : Major) (v : ℕ) (cs : List ℕ) → Meets d (content m v) cs
contents d major.Number v cs = bytes d 0 cs
contents d major.Bytes v cs = bytes d v cs
contents d major.Text v cs = bytes d v cs
contents d major.Array v cs = items d _ cs
contents d major.Map v cs = items d _ cs
contents d major.Tag v cs = nought d cs

arguments : (d : ℕ) (m : Major) (v k : ℕ) (cs : List ℕ) → Meets d (Argument m v k) cs
unfolding Bytes
arguments d m v zero cs = let r = contents d m (v * 256 + 0) cs in (0 ∷ r.0, last r.1, λ o. (omega arith, r.2 o))
arguments d m v (suc k) cs = let r = arguments d m (v * 256 + 0) k cs in (0 ∷ r.0, digit r.1, λ o. (omega arith, r.2 o))

breaks : initial 255 ≡ Break
unfolding initial
breaks = refl

meets : (d : ℕ) (f : Frame) (cs : List ℕ) → Meets d f cs
unfolding Bytes
meets d One cs = nought d cs
meets d (Items n) cs = items d n cs
meets d Elements cs = (255 ∷ cs, end_array breaks, λ o. (omega arith, o))
meets d Pairs cs = (255 ∷ cs, end_map breaks, λ o. (omega arith, o))
meets d Value cs = let q = nought d (255 ∷ cs) in (q.0, value q.1 (end_map breaks), λ o. q.2 (omega arith, o))
meets d (Chunks t) cs = (255 ∷ cs, end_string breaks, λ o. (omega arith, o))
meets d (Content n) cs = bytes d n cs
meets d Second cs = (32 ∷ cs, simple {x = 32} (omega arith), λ o. (omega arith, o))
meets d (Argument m v k) cs = arguments d m v k cs

pub alive : (fs : Stack) → (bs : List ℕ) × Rest fs bs × Bytes bs
unfolding Bytes
alive nil = ([], done, tt)
alive (push d f fs) = let r = alive fs in let q = meets d f r.0 in (q.0, then q.1 r.1, q.2 r.2)

-- `met` is right
pub met_rest : (fs : Stack) → met fs ≡ true → Rest fs []
unfolding met
met_rest nil p = done
met_rest (push d One fs) p = absurd (false≢true p)
met_rest (push d (Items zero) fs) p = then no_more (met_rest fs p)
met_rest (push d (Items (suc n)) fs) p = absurd (false≢true p)
met_rest (push d Elements fs) p = absurd (false≢true p)
met_rest (push d Pairs fs) p = absurd (false≢true p)
met_rest (push d Value fs) p = absurd (false≢true p)
met_rest (push d (Chunks t) fs) p = absurd (false≢true p)
met_rest (push d (Content zero) fs) p = then no_byte (met_rest fs p)
met_rest (push d (Content (suc n)) fs) p = absurd (false≢true p)
met_rest (push d Second fs) p = absurd (false≢true p)
met_rest (push d (Argument m v k) fs) p = absurd (false≢true p)

abbrev Some : List ℕ → Type 0
Some [] = ⊥
Some (b ∷ bs) = Unit {0}

pub some_byte : {d : ℕ} {bs cs : List ℕ} → Reads d One bs cs → Some bs
some_byte (one p g) = tt

rest_met : {fs : Stack} → Rest fs [] → met fs ≡ true
unfolding met
rest_met done = refl
rest_met (then no_more r) = rest_met r
rest_met (then (item g h) r) = absurd (some_byte g)
rest_met (then (element g h) r) = absurd (some_byte g)
rest_met (then (key g h) r) = absurd (some_byte g)
rest_met (then (value g h) r) = absurd (some_byte g)
rest_met (then no_byte r) = rest_met r

-- where nothing more is wanted, nothing more is read
pub met_none : {fs : Stack} {b : ℕ} {bs : List ℕ} → Rest fs [] → Rest fs (b ∷ bs) → ⊥
met_none {b = b} {bs = bs} done q = elim q [ ]
met_none (then no_more r) (then no_more q) = met_none r q
met_none (then (item g h) r) q = absurd (some_byte g)
met_none (then (element g h) r) q = absurd (some_byte g)
met_none (then (key g h) r) q = absurd (some_byte g)
met_none (then (value g h) r) q = absurd (some_byte g)
met_none (then no_byte r) (then no_byte q) = met_none r q

-- What each verdict says of the bytes from the place `at` on, where the stack is wanted.
abbrev pub Begun : Stack → List ℕ → Type 0
Begun fs bs = (b : ℕ) × (cs : List ℕ) × Rest fs (bs ++ (b ∷ cs)) × Bytes (b ∷ cs)

abbrev pub Exact : Stack → List ℕ → ℕ → Verdict → Type 0
Exact fs bs at (Ok n) = (m : ℕ) × (n ≡ at + m) × (m ≤ length bs) × Rest fs (take m bs)
Exact fs bs at (Err (Bad n)) =
    (m : ℕ) × (n ≡ at + m) × (m < length bs) × Begun fs (take m bs) × ((cs : List ℕ) → Rest fs (take (suc m) bs ++ cs) → ⊥)
Exact fs bs at (Err Incomplete) = Begun fs bs

begun : (fs : Stack) → met fs ≡ false → Begun fs []
begun fs p = let r = alive fs in go r.0 r.1 r.2
  where
    go : (bs : List ℕ) → Rest fs bs → Bytes bs → Begun fs []
    go [] r o = absurd (false≢true (sym p ∙ rest_met r))
    go (b ∷ bs) r o = (b, bs, r, o)

onto : {fs : Stack} {b : ℕ} {bs : List ℕ} {n : Option Stack} → step fs b ≡ n → Rest fs (b ∷ bs) → After n bs
onto {fs} {b} {bs} p r = subst (λ n. After n bs) p (forth r)

from : (fs : Stack) {b : ℕ} {gs : Stack} {bs : List ℕ} → step fs b ≡ some gs → Rest gs bs → Rest fs (b ∷ bs)
from fs {b} {gs} {bs} p r = back fs (subst⁻¹ (λ n. After n bs) p r)

-- one byte earlier
earlier : (fs gs : Stack) (b : ℕ) (bs : List ℕ) (at : ℕ) → step fs b ≡ some gs → (v : Verdict) → Exact gs bs (suc at) v → Exact fs (b ∷ bs) at v
earlier fs gs b bs at p (Ok n) (m, e, l, r) = (suc m, omega arith, omega arith, from fs p r)
earlier fs gs b bs at p (Err (Bad n)) (m, e, l, (c, cs, r, o), no_item) =
    (suc m, omega arith, omega arith, (c, cs, from fs p r, o), λ es q. no_item es (onto p q))
earlier fs gs b bs at p (Err Incomplete) (c, cs, r, o) = (c, cs, from fs p r, o)

pub exact : (bs : List ℕ) (at : ℕ) (fs : Stack) → Exact fs bs at (judge bs at fs)
unfolding judge
exact [] at fs = go (met fs) refl
  where
    go : (t : Bool) → met fs ≡ t → Exact fs [] at (cond t (Ok at) (Err Incomplete))
    go true p = (0, omega arith, omega arith, met_rest fs p)
    go false p = begun fs p
exact (b ∷ bs) at fs = go (met fs) refl (step fs b) refl (λ gs. exact bs (suc at) gs)
  where
    go : (t : Bool) → met fs ≡ t → (n : Option Stack) → step fs b ≡ n → ((gs : Stack) → Exact gs bs (suc at) (judge bs (suc at) gs))
        → Exact fs (b ∷ bs) at (onward t at n (λ gs. judge bs (suc at) gs))
    go true p n q h = (0, omega arith, omega arith, met_rest fs p)
    go false p none q h = (0, omega arith, omega arith, begun fs p, λ cs r. onto q r)
    go false p (some gs) q h = earlier fs gs b bs at q (judge bs (suc at) gs) (h gs)

-- and no other verdict says what is so
only_end : (at : ℕ) (fs : Stack) (t : Bool) → met fs ≡ t → (v : Verdict) → Exact fs [] at v → cond t (Ok at) (Err Incomplete) ≡ v
only_end at fs true p (Ok n) (zero, e, l, r) = ap Ok (omega arith)
only_end at fs false p (Ok n) (zero, e, l, r) = absurd (false≢true (sym p ∙ rest_met r))
only_end at fs t p (Ok n) (suc m, e, l, r) = absurd (omega arith)
only_end at fs t p (Err (Bad n)) (m, e, l, r, no_item) = absurd (omega arith)
only_end at fs true p (Err Incomplete) (c, cs, r, o) = absurd (met_none (met_rest fs p) r)
only_end at fs false p (Err Incomplete) x = refl

only_more : (b : ℕ) (bs : List ℕ) (at : ℕ) (fs : Stack) (t : Bool) → met fs ≡ t → (n : Option Stack) → step fs b ≡ n
    → ((gs : Stack) (v : Verdict) → Exact gs bs (suc at) v → judge bs (suc at) gs ≡ v)
    → (v : Verdict) → Exact fs (b ∷ bs) at v → onward t at n (λ gs. judge bs (suc at) gs) ≡ v
only_more b bs at fs true p n q h (Ok k) (zero, e, l, r) = ap Ok (omega arith)
only_more b bs at fs true p n q h (Ok k) (suc m, e, l, r) = absurd (met_none (met_rest fs p) r)
only_more b bs at fs true p n q h (Err (Bad k)) (zero, e, l, (c, cs, r, o), no_item) = absurd (met_none (met_rest fs p) r)
only_more b bs at fs true p n q h (Err (Bad k)) (suc m, e, l, (c, cs, r, o), no_item) = absurd (met_none (met_rest fs p) r)
only_more b bs at fs true p n q h (Err Incomplete) (c, cs, r, o) = absurd (met_none (met_rest fs p) r)
only_more b bs at fs false p n q h (Ok k) (zero, e, l, r) = absurd (false≢true (sym p ∙ rest_met r))
only_more b bs at fs false p none q h (Ok k) (suc m, e, l, r) = absurd (onto q r)
only_more b bs at fs false p (some gs) q h (Ok k) (suc m, e, l, r) = h gs (Ok k) (m, omega arith, omega arith, onto q r)
only_more b bs at fs false p none q h (Err (Bad k)) (zero, e, l, x, no_item) = ap (λ (z : ℕ). Err (Bad z)) (omega arith)
only_more b bs at fs false p (some gs) q h (Err (Bad k)) (zero, e, l, x, no_item) =
    let r = alive gs in absurd (no_item r.0 (from fs q r.1))
only_more b bs at fs false p none q h (Err (Bad k)) (suc m, e, l, (c, cs, r, o), no_item) = absurd (onto q r)
only_more b bs at fs false p (some gs) q h (Err (Bad k)) (suc m, e, l, (c, cs, r, o), no_item) =
    h gs (Err (Bad k)) (m, omega arith, omega arith, (c, cs, onto q r, o), λ es x. no_item es (from fs q x))
only_more b bs at fs false p none q h (Err Incomplete) (c, cs, r, o) = absurd (onto q r)
only_more b bs at fs false p (some gs) q h (Err Incomplete) (c, cs, r, o) = h gs (Err Incomplete) (c, cs, onto q r, o)

pub only : (bs : List ℕ) (at : ℕ) (fs : Stack) (v : Verdict) → Exact fs bs at v → judge bs at fs ≡ v
unfolding judge
only [] at fs v x = only_end at fs (met fs) refl v x
only (b ∷ bs) at fs v x = only_more b bs at fs (met fs) refl (step fs b) refl (λ gs w y. only bs (suc at) gs w y) v x
