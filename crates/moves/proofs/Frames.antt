-- Frames of items and of chunks: how a head moves them, and what a level stands for.
-- Assumes nothing.
use Prim.Native.Nat.{ℕ, zero, suc, ◌+◌, ◌*◌, ◌-◌, ◌^◌, ◌≤◌, ◌<◌, ◌%◌}
use mathlib.Core.List.{List}
use mathlib.Core.Bool.{Bool, true, false, false≢true, cond, not}
use mathlib.Core.Option.{Option, none, some}
use mathlib.Core.Path.{◌≡◌, refl, sym, ap, subst⁻¹, ◌∙◌}
use lib.Dec.{ltb, leb, eqb, eqb-suc-zero}
use lib.ListN.{length, get_or}
use native.Mathlib.Omega.{arith}
use borrow.Author.Tests.{ne_eqb, ltb-true, ltb-false, eqb-true, eqb-false, le-leb}
use Rattle.std.specs.Prelude.{Err}
use Rattle.head.specs.Initial.{initial}
use Rattle.head.specs.declared.Major.{Major}
use Rattle.head.specs.declared.Major.TheVariants.{Number, Bytes, Text, Array, Map, Tag}
use Rattle.head.specs.declared.Initial.{Initial}
use Rattle.head.specs.declared.Initial.TheVariants.{Short, Long, Indefinite, Simple, Break, Reserved}
use Rattle.item.specs.declared.NotWhole.TheVariants.{Bad, Incomplete}
use Rattle.item.specs.Grammar.{Frame, One, Items, Elements, Pairs, Value, Chunks, Content, Second, Argument, content, within, nest, indefinite, alike}
use Rattle.item.specs.Grammar.{enter, enter_chunk, nesting}
use Rattle.item.specs.Verdict.{Stack, push, into, or_break, step, met}
use Rattle.item.specs.Besides.Verdict.{alone, tally}
use Rattle.item.proofs.Derivative.{no_break, no_break_chunk}
use Rattle.item.proofs.Heads.{into_some}
use Rattle.moves.specs.Inside.Levels.{frame_of, tell}
use Rattle.moves.specs.Inside.Frames.{kept, spent, Holds, begins, breakable, Wants, room_for, chunk_of, may_begin}
use Rattle.moves.specs.Inside.Moves.{Leaves, Doubles}
use Rattle.moves.proofs.Tell.{tell_step, tell_bad, tell_end}

-- A frame that holds items and is not spent is not met, and a head's first byte counts if it is alone.
unmet : (f : Frame) (d : ℕ) (fs : Stack) → Holds f → spent f ≡ false → met (push d f fs) ≡ false
unfolding met
unmet One d fs h p = refl
unmet (Items zero) d fs h p = absurd (false≢true (sym p))
unmet (Items (suc n)) d fs h p = refl
unmet Elements d fs h p = refl
unmet Pairs d fs h p = refl
unmet Value d fs h p = refl
unmet (Chunks t) d fs h p = refl
unmet (Content n) d fs h p = absurd h
unmet Second d fs h p = absurd h
unmet (Argument m v k) d fs h p = absurd h

tally_head : (f : Frame) (d : ℕ) (fs : Stack) (b : ℕ) → Holds f → spent f ≡ false → tally (push d f fs) b ≡ alone (initial b)
unfolding tally
tally_head One d fs b h p = refl
tally_head (Items zero) d fs b h p = absurd (false≢true (sym p))
tally_head (Items (suc n)) d fs b h p = refl
tally_head Elements d fs b h p = refl
tally_head Pairs d fs b h p = refl
tally_head Value d fs b h p = refl
tally_head (Chunks t) d fs b h p = refl
tally_head (Content n) d fs b h p = absurd h
tally_head Second d fs b h p = absurd h
tally_head (Argument m v k) d fs b h p = absurd h

step_into : (f : Frame) (d : ℕ) (fs : Stack) (b : ℕ) (g : Frame) → Holds f → spent f ≡ false → begins f d (initial b) ≡ some g
    → step (push d f fs) b ≡ some (push (d - 1) g (push d (kept f) fs))
unfolding step
step_into One d fs b g h p e = into_some d (enter d (initial b)) g (push d (Items zero) fs) e
step_into (Items zero) d fs b g h p e = absurd (false≢true (sym p))
step_into (Items (suc n)) d fs b g h p e = into_some d (enter d (initial b)) g (push d (Items n) fs) e
step_into Elements d fs b g h p e =
    no_break (initial b) d fs (into d (enter d (initial b)) (push d Elements fs)) e ∙ into_some d (enter d (initial b)) g (push d Elements fs) e
step_into Pairs d fs b g h p e =
    no_break (initial b) d fs (into d (enter d (initial b)) (push d Value fs)) e ∙ into_some d (enter d (initial b)) g (push d Value fs) e
step_into Value d fs b g h p e = into_some d (enter d (initial b)) g (push d Pairs fs) e
step_into (Chunks t) d fs b g h p e =
    no_break_chunk (initial b) t fs (into d (enter_chunk t (initial b)) (push d (Chunks t) fs)) e
    ∙ into_some d (enter_chunk t (initial b)) g (push d (Chunks t) fs) e
step_into (Content n) d fs b g h p e = absurd h
step_into Second d fs b g h p e = absurd h
step_into (Argument m v k) d fs b g h p e = absurd h

-- nothing that may begin there, and no break that may come there
no_way : (d : ℕ) (o : Option Frame) (fs : Stack) → o ≡ none → into d o fs ≡ none
no_way d o fs e = ap (λ (o : Option Frame). into d o fs) e

-- a first byte that is no break where one may come
abbrev pub NoBreak : Initial → Frame → Type 0
NoBreak (Short m v) f = Unit {0}
NoBreak (Long m k) f = Unit {0}
NoBreak (Indefinite m) f = Unit {0}
NoBreak Simple f = Unit {0}
NoBreak Break f = breakable f ≡ false
NoBreak Reserved f = Unit {0}

or_no_way : (i : Initial) (f : Frame) (fs : Stack) (n : Option Stack) → n ≡ none → NoBreak i f → breakable f ≡ true → or_break i fs n ≡ none
or_no_way (Short m v) f fs n e q t = e
or_no_way (Long m k) f fs n e q t = e
or_no_way (Indefinite m) f fs n e q t = e
or_no_way Simple f fs n e q t = e
or_no_way Break f fs n e q t = absurd (false≢true (sym q ∙ t))
or_no_way Reserved f fs n e q t = e

step-none : (f : Frame) (d : ℕ) (fs : Stack) (b : ℕ) → Holds f → spent f ≡ false → begins f d (initial b) ≡ none → NoBreak (initial b) f
    → step (push d f fs) b ≡ none
unfolding step
step-none One d fs b h p e q = no_way d (enter d (initial b)) (push d (Items zero) fs) e
step-none (Items zero) d fs b h p e q = absurd (false≢true (sym p))
step-none (Items (suc n)) d fs b h p e q = no_way d (enter d (initial b)) (push d (Items n) fs) e
step-none Elements d fs b h p e q =
    or_no_way (initial b) Elements fs (into d (enter d (initial b)) (push d Elements fs))
    (no_way d (enter d (initial b)) (push d Elements fs) e) q refl
step-none Pairs d fs b h p e q =
    or_no_way (initial b) Pairs fs (into d (enter d (initial b)) (push d Value fs)) (no_way d (enter d (initial b)) (push d Value fs) e) q refl
step-none Value d fs b h p e q = no_way d (enter d (initial b)) (push d Pairs fs) e
step-none (Chunks t) d fs b h p e q =
    or_no_way (initial b) (Chunks t) fs (into d (enter_chunk t (initial b)) (push d (Chunks t) fs))
    (no_way d (enter_chunk t (initial b)) (push d (Chunks t) fs) e) q refl
step-none (Content n) d fs b h p e q = absurd h
step-none Second d fs b h p e q = absurd h
step-none (Argument m v k) d fs b h p e q = absurd h

step_break : (f : Frame) (d : ℕ) (fs : Stack) (b : ℕ) → breakable f ≡ true → initial b ≡ Break → step (push d f fs) b ≡ some fs
unfolding step
step_break One d fs b t e = absurd (false≢true t)
step_break (Items n) d fs b t e = absurd (false≢true t)
step_break Elements d fs b t e = ap (λ (i : Initial). or_break i fs (into d (enter d (initial b)) (push d Elements fs))) e
step_break Pairs d fs b t e = ap (λ (i : Initial). or_break i fs (into d (enter d (initial b)) (push d Value fs))) e
step_break Value d fs b t e = absurd (false≢true t)
step_break (Chunks x) d fs b t e = ap (λ (i : Initial). or_break i fs (into d (enter_chunk x (initial b)) (push d (Chunks x) fs))) e
step_break (Content n) d fs b t e = absurd (false≢true t)
step_break Second d fs b t e = absurd (false≢true t)
step_break (Argument m v k) d fs b t e = absurd (false≢true t)

-- The first byte of a head at a place.
module _ (zs : List ℕ) (at h d : ℕ) (f : Frame) (fs : Stack) (l : at < length zs) (holds : Holds f) (unspent : spent f ≡ false) where
  pub tell_into : (i : Initial) (g : Frame) → initial (get_or zs at 0) ≡ i → begins f d i ≡ some g
      → tell zs at h (push d f fs) ≡ tell zs (at + 1) (h + alone i) (push (d - 1) g (push d (kept f) fs))
  tell_into i g e p =
      tell_step zs at h (push d f fs) (push (d - 1) g (push d (kept f) fs)) l (unmet f d fs holds unspent)
      (step_into f d fs (get_or zs at 0) g holds unspent (ap (begins f d) e ∙ p))
      ∙ ap (λ (t : ℕ). tell zs (at + 1) (h + t) (push (d - 1) g (push d (kept f) fs)))
      (tally_head f d fs (get_or zs at 0) holds unspent ∙ ap alone e)

  pub tell_refused : (i : Initial) → initial (get_or zs at 0) ≡ i → begins f d i ≡ none → NoBreak i f → tell zs at h (push d f fs) ≡ (Err (Bad at), h)
  tell_refused i e p q =
      tell_bad zs at h (push d f fs) l (unmet f d fs holds unspent)
      (step-none f d fs (get_or zs at 0) holds unspent (ap (begins f d) e ∙ p) (subst⁻¹ (λ (j : Initial). NoBreak j f) e q))

  pub tell_broken : initial (get_or zs at 0) ≡ Break → breakable f ≡ true → tell zs at h (push d f fs) ≡ tell zs (at + 1) (h + 1) fs
  tell_broken e p =
      tell_step zs at h (push d f fs) fs l (unmet f d fs holds unspent) (step_break f d fs (get_or zs at 0) p e)
      ∙ ap (λ (t : ℕ). tell zs (at + 1) (h + t) fs) (tally_head f d fs (get_or zs at 0) holds unspent ∙ ap alone e)

pub tell_out : (zs : List ℕ) (at h d : ℕ) (f : Frame) (fs : Stack) → length zs ≤ at → Holds f → spent f ≡ false
    → tell zs at h (push d f fs) ≡ ((Err Incomplete), h)
tell_out zs at h d f fs l holds unspent = tell_end zs at h (push d f fs) l (unmet f d fs holds unspent)

-- What a level stands for.
holds_cond : (t : Bool) → Holds (cond t Pairs Value)
holds_cond true = tt
holds_cond false = tt

pub level_holds : (k c : ℕ) → Holds (frame_of k c)
level_holds zero c = tt
level_holds (suc zero) c = tt
level_holds (suc (suc zero)) c = tt
level_holds (suc (suc (suc zero))) c = holds_cond (eqb (c % 2) 0)
level_holds (suc (suc (suc (suc zero)))) c = tt
level_holds (suc (suc (suc (suc (suc k))))) c = tt

items_spent : (n : ℕ) → eqb n 0 ≡ spent (Items n)
items_spent zero = refl
items_spent (suc n) = eqb-suc-zero n

spent_cond : (t : Bool) → spent (cond t Pairs Value) ≡ false
spent_cond true = refl
spent_cond false = refl

pub level_unspent : (k c : ℕ) → 0 < k + c → spent (frame_of k c) ≡ false
level_unspent zero c h = sym (items_spent c) ∙ ne_eqb c 0 (λ (e : c ≡ 0). omega arith)
level_unspent (suc zero) c h =
    sym (items_spent (c + 2 ^ 64)) ∙ ne_eqb (c + 2 ^ 64) 0 (λ (e : c + 2 ^ 64 ≡ 0). omega arith)
level_unspent (suc (suc zero)) c h = refl
level_unspent (suc (suc (suc zero))) c h = spent_cond (eqb (c % 2) 0)
level_unspent (suc (suc (suc (suc zero)))) c h = refl
level_unspent (suc (suc (suc (suc (suc k))))) c h = refl

begins_cond : (t : Bool) (d : ℕ) (i : Initial) → begins (cond t Pairs Value) d i ≡ enter d i
begins_cond true d i = refl
begins_cond false d i = refl

pub level_items : (k c : ℕ) → k < 4 → (d : ℕ) (i : Initial) → begins (frame_of k c) d i ≡ enter d i
level_items zero c h d i = refl
level_items (suc zero) c h d i = refl
level_items (suc (suc zero)) c h d i = refl
level_items (suc (suc (suc zero))) c h d i = begins_cond (eqb (c % 2) 0) d i
level_items (suc (suc (suc (suc k)))) c h d i = absurd (omega arith)

pub level_wants : (k c : ℕ) → k < 4 → 0 < k + c → Wants (frame_of k c)
level_wants k c h p = record { holds = level_holds k c; unspent = level_unspent k c p; items = level_items k c h }

-- chunks of bytes where the kind is 4, else of text
pub level_chunks : (k c : ℕ) → 4 ≤ k → frame_of k c ≡ Chunks (cond (eqb k 4) false true)
level_chunks zero c h = absurd (omega arith)
level_chunks (suc zero) c h = absurd (omega arith)
level_chunks (suc (suc zero)) c h = absurd (omega arith)
level_chunks (suc (suc (suc zero))) c h = absurd (omega arith)
level_chunks (suc (suc (suc (suc zero)))) c h = refl
level_chunks (suc (suc (suc (suc (suc k))))) c h =
    ap (λ (t : Bool). Chunks (cond t false true))
    (sym (ne_eqb (suc (suc (suc (suc (suc k))))) 4 (λ (e : suc (suc (suc (suc (suc k)))) ≡ 4). omega arith)))

-- a break may come
break_cond : (t : Bool) → t ≡ breakable (cond t Pairs Value)
break_cond true = refl
break_cond false = refl

pub level_break_map : (k c : ℕ) → k ≡ 3 → eqb (c % 2) 0 ≡ breakable (frame_of k c)
level_break_map k c e = rw e (break_cond (eqb (c % 2) 0))

pub level_break : (k c : ℕ) → (k ≡ 3 → ⊥) → leb 2 k ≡ breakable (frame_of k c)
level_break zero c n = refl
level_break (suc zero) c n = refl
level_break (suc (suc zero)) c n = refl
level_break (suc (suc (suc zero))) c n = absurd (n refl)
level_break (suc (suc (suc (suc zero)))) c n = refl
level_break (suc (suc (suc (suc (suc k))))) c n = le-leb 2 (suc (suc (suc (suc (suc k))))) (omega arith)

-- What is left of a level, as the code has it.
items_less : (n : ℕ) → 0 < n → Items (n - 1) ≡ kept (Items n)
items_less zero h = absurd (omega arith)
items_less (suc n) h = ap Items (omega arith)

pairs_less : (c : ℕ) → 0 < c → cond (eqb ((c - 1) % 2) 0) Pairs Value ≡ kept (cond (eqb (c % 2) 0) Pairs Value)
pairs_less c h = of (eqb (c % 2) 0) (eqb ((c - 1) % 2) 0) refl refl
  where
    of : (t u : Bool) → eqb (c % 2) 0 ≡ t → eqb ((c - 1) % 2) 0 ≡ u → cond u Pairs Value ≡ kept (cond t Pairs Value)
    of true true p q = let a : c % 2 ≡ 0 = eqb-true _ _ p in let b : (c - 1) % 2 ≡ 0 = eqb-true _ _ q in absurd (omega arith)
    of true false p q = refl
    of false true p q = refl
    of false false p q = let a : c % 2 ≡ 0 → ⊥ = eqb-false _ _ p in let b : (c - 1) % 2 ≡ 0 → ⊥ = eqb-false _ _ q in absurd (omega arith)

pub level_less : (k c : ℕ) → 0 < c → frame_of k (c - 1) ≡ kept (frame_of k c)
level_less zero c h = items_less c h
level_less (suc zero) c h = ap Items (omega arith) ∙ items_less (c + 2 ^ 64) (omega arith)
level_less (suc (suc zero)) c h = refl
level_less (suc (suc (suc zero))) c h = pairs_less c h
level_less (suc (suc (suc (suc zero)))) c h = refl
level_less (suc (suc (suc (suc (suc k))))) c h = refl

pub leaves_some : (k c : ℕ) → 0 < c → (4 ≤ k → c ≡ 0) → Leaves k c (record { kind = k; count = c - 1 })
leaves_some k c h n =
    record { frame = level_less k c h; low = λ l. (l, omega arith); high = λ l. l; none = λ l. let z : c ≡ 0 = n l in omega arith }

-- a count of 2^64 items runs out, and one that goes up to a break begins anew
huge_frame : (k c : ℕ) → k ≡ 1 → c ≡ 0 → frame_of 0 (2 ^ 64 - 1) ≡ kept (frame_of k c)
huge_frame k c e z = rw (e, z) (ap Items (omega arith) ∙ items_less (0 + 2 ^ 64) (omega arith))

pub leaves_huge : (k c : ℕ) → c ≡ 0 → k ≡ 1 → Leaves k c (record { kind = 0; count = 2 ^ 64 - 1 })
leaves_huge k c z e =
    record { frame = huge_frame k c e z; low = λ l. (omega arith, omega arith); high = λ l. omega arith; none = λ l. absurd (omega arith) }

anew_frame : (k : ℕ) → k < 4 → 0 < k → (k ≡ 1 → ⊥) → frame_of k (2 ^ 64 - 1) ≡ kept (frame_of k 0)
anew_frame zero h p n = absurd (omega arith)
anew_frame (suc zero) h p n = absurd (n refl)
anew_frame (suc (suc zero)) h p n = refl
anew_frame (suc (suc (suc zero))) h p n = refl
anew_frame (suc (suc (suc (suc k)))) h p n = absurd (omega arith)

pub leaves_anew : (k c : ℕ) → c ≡ 0 → 0 < k + c → k < 4 → (k ≡ 1 → ⊥) → Leaves k c (record { kind = k; count = 2 ^ 64 - 1 })
leaves_anew k c z p h n =
    record {
      frame = anew_frame k h (omega arith) n ∙ ap (λ (j : ℕ). kept (frame_of k j)) (sym z);
      low = λ l. (l, p);
      high = λ l. l;
      none = λ l. absurd (omega arith);
    }

chunk_frame : (k c : ℕ) → 4 ≤ k → frame_of k 0 ≡ kept (frame_of k c)
chunk_frame zero c h = absurd (omega arith)
chunk_frame (suc zero) c h = absurd (omega arith)
chunk_frame (suc (suc zero)) c h = absurd (omega arith)
chunk_frame (suc (suc (suc zero))) c h = absurd (omega arith)
chunk_frame (suc (suc (suc (suc zero)))) c h = refl
chunk_frame (suc (suc (suc (suc (suc k))))) c h = refl

pub leaves_chunk : (k c : ℕ) → 4 ≤ k → Leaves k c (record { kind = k; count = 0 })
leaves_chunk k c h = record { frame = chunk_frame k c h; low = λ l. absurd (omega arith); high = λ l. l; none = λ l. refl }

-- v pairs
pub doubles_small : (v : ℕ) → Doubles v (record { kind = 0; count = v * 2 })
doubles_small v = record { frame = refl; items = omega arith }

pub doubles_huge : (v : ℕ) → 2 ^ 63 ≤ v → Doubles v (record { kind = 1; count = (v - 2 ^ 63) * 2 })
doubles_huge v h = record { frame = ap Items (omega arith); items = omega arith }

-- Within the nesting there is room, or there is none.
within_some : (d : ℕ) (g : Frame) → ltb d nesting ≡ true → within (nesting - d) g ≡ some g
within_some d g p =
    let h : d < nesting = ltb-true d nesting p in let e : nesting - d ≡ suc (nesting - 1 - d) = omega arith in ap (λ (n : ℕ). within n g) e

within_none : (d : ℕ) (g : Frame) → ltb d nesting ≡ false → within (nesting - d) g ≡ none
within_none d g p = let h : nesting ≤ d = ltb-false d nesting p in let e : nesting - d ≡ 0 = omega arith in ap (λ (n : ℕ). within n g) e

pub room_some : (m : Major) (d : ℕ) (g : Frame) → room_for m d ≡ true → nest m (nesting - d) g ≡ some g
unfolding nest
room_some Number d g p = refl
room_some Bytes d g p = refl
room_some Text d g p = refl
room_some Array d g p = within_some d g p
room_some Map d g p = within_some d g p
room_some Tag d g p = within_some d g p

room_none : (m : Major) (d : ℕ) (g : Frame) → room_for m d ≡ false → nest m (nesting - d) g ≡ none
unfolding nest
room_none Number d g p = absurd (false≢true (sym p))
room_none Bytes d g p = absurd (false≢true (sym p))
room_none Text d g p = absurd (false≢true (sym p))
room_none Array d g p = within_none d g p
room_none Map d g p = within_none d g p
room_none Tag d g p = within_none d g p

-- A chunk is of the string's type, or not.
chunk_some : (m : Major) (t : Bool) (g : Frame) (k : ℕ) → eqb k 4 ≡ t → chunk_of m k ≡ true → alike (cond t false true) m g ≡ some g
unfolding alike
chunk_some Number t g k e p = absurd (false≢true p)
chunk_some Bytes true g k e p = refl
chunk_some Bytes false g k e p = absurd (false≢true (sym e ∙ p))
chunk_some Text true g k e p = absurd (false≢true (ap not (sym e) ∙ p))
chunk_some Text false g k e p = refl
chunk_some Array t g k e p = absurd (false≢true p)
chunk_some Map t g k e p = absurd (false≢true p)
chunk_some Tag t g k e p = absurd (false≢true p)

chunk_none : (m : Major) (t : Bool) (g : Frame) (k : ℕ) → eqb k 4 ≡ t → chunk_of m k ≡ false → alike (cond t false true) m g ≡ none
unfolding alike
chunk_none Number t g k e p = refl
chunk_none Bytes true g k e p = absurd (false≢true (sym p ∙ e))
chunk_none Bytes false g k e p = refl
chunk_none Text true g k e p = refl
chunk_none Text false g k e p = absurd (false≢true (sym p ∙ ap not e))
chunk_none Array t g k e p = refl
chunk_none Map t g k e p = refl
chunk_none Tag t g k e p = refl

-- Where an item of a type may begin, its first byte asks for what the grammar says; where not, for nothing.
abbrev Asks : Initial → Major → Frame → Type 0
Asks i m g = ((d : ℕ) → enter d i ≡ nest m d g) × ((t : Bool) → enter_chunk t i ≡ alike t m g)

may_some : (k c d : ℕ) (m : Major) (i : Initial) (g : Frame) → Asks i m g → may_begin k d m ≡ true → begins (frame_of k c) (nesting - d) i ≡ some g
may_some k c d m i g a p = of (ltb k 4) refl p
  where
    of : (t : Bool) → ltb k 4 ≡ t → cond t (room_for m d) (chunk_of m k) ≡ true → begins (frame_of k c) (nesting - d) i ≡ some g
    of true e q = level_items k c (ltb-true k 4 e) (nesting - d) i ∙ a.0 (nesting - d) ∙ room_some m d g q
    of false e q =
        ap (λ (f : Frame). begins f (nesting - d) i) (level_chunks k c (ltb-false k 4 e)) ∙ a.1 (cond (eqb k 4) false true)
        ∙ chunk_some m (eqb k 4) g k refl q

may_none : (k c d : ℕ) (m : Major) (i : Initial) (g : Frame) → Asks i m g → may_begin k d m ≡ false → begins (frame_of k c) (nesting - d) i ≡ none
may_none k c d m i g a p = of (ltb k 4) refl p
  where
    of : (t : Bool) → ltb k 4 ≡ t → cond t (room_for m d) (chunk_of m k) ≡ false → begins (frame_of k c) (nesting - d) i ≡ none
    of true e q = level_items k c (ltb-true k 4 e) (nesting - d) i ∙ a.0 (nesting - d) ∙ room_none m d g q
    of false e q =
        ap (λ (f : Frame). begins f (nesting - d) i) (level_chunks k c (ltb-false k 4 e)) ∙ a.1 (cond (eqb k 4) false true)
        ∙ chunk_none m (eqb k 4) g k refl q

asks_short : (m : Major) (v : ℕ) → Asks (Short m v) m (content m v)
unfolding enter enter_chunk
asks_short m v = (λ d. refl, λ t. refl)

asks_long : (m : Major) (k : ℕ) → Asks (Long m k) m (Argument m 0 k)
unfolding enter enter_chunk
asks_long m k = (λ d. refl, λ t. refl)

pub may_short : (k c d : ℕ) (m : Major) (v : ℕ) → may_begin k d m ≡ true → begins (frame_of k c) (nesting - d) (Short m v) ≡ some (content m v)
may_short k c d m v p = may_some k c d m (Short m v) (content m v) (asks_short m v) p

pub may_not_short : (k c d : ℕ) (m : Major) (v : ℕ) → may_begin k d m ≡ false → begins (frame_of k c) (nesting - d) (Short m v) ≡ none
may_not_short k c d m v p = may_none k c d m (Short m v) (content m v) (asks_short m v) p

pub may_long : (k c d : ℕ) (m : Major) (j : ℕ) → may_begin k d m ≡ true → begins (frame_of k c) (nesting - d) (Long m j) ≡ some (Argument m 0 j)
may_long k c d m j p = may_some k c d m (Long m j) (Argument m 0 j) (asks_long m j) p

pub may_not_long : (k c d : ℕ) (m : Major) (j : ℕ) → may_begin k d m ≡ false → begins (frame_of k c) (nesting - d) (Long m j) ≡ none
may_not_long k c d m j p = may_none k c d m (Long m j) (Argument m 0 j) (asks_long m j) p

-- among chunks there is nothing else
chunk_only : (k c d : ℕ) (i : Initial) → 4 ≤ k → ((t : Bool) → enter_chunk t i ≡ none) → begins (frame_of k c) d i ≡ none
chunk_only k c d i h e = ap (λ (f : Frame). begins f d i) (level_chunks k c h) ∙ e (cond (eqb k 4) false true)

pub chunk_simple : (k c d : ℕ) → 4 ≤ k → begins (frame_of k c) d Simple ≡ none
unfolding enter_chunk
chunk_simple k c d h = chunk_only k c d Simple h (λ t. refl)

pub chunk_indefinite : (k c d : ℕ) (m : Major) → 4 ≤ k → begins (frame_of k c) d (Indefinite m) ≡ none
unfolding enter_chunk
chunk_indefinite k c d m h = chunk_only k c d (Indefinite m) h (λ t. refl)

-- no item begins with a break or with what is reserved
none_of : (k c d : ℕ) (i : Initial) → ((t : Bool) → enter_chunk t i ≡ none) → enter d i ≡ none → begins (frame_of k c) d i ≡ none
none_of k c d i p q = of (ltb k 4) refl
  where
    of : (t : Bool) → ltb k 4 ≡ t → begins (frame_of k c) d i ≡ none
    of true e = level_items k c (ltb-true k 4 e) d i ∙ q
    of false e = chunk_only k c d i (ltb-false k 4 e) p

pub never_break : (k c d : ℕ) → begins (frame_of k c) d Break ≡ none
unfolding enter enter_chunk
never_break k c d = none_of k c d Break (λ t. refl) refl

pub never_reserved : (k c d : ℕ) → begins (frame_of k c) d Reserved ≡ none
unfolding enter enter_chunk
never_reserved k c d = none_of k c d Reserved (λ t. refl) refl

-- a simple value, and an indefinite length, among items
pub item_simple : (k c d : ℕ) → k < 4 → begins (frame_of k c) d Simple ≡ some Second
unfolding enter
item_simple k c d h = level_items k c h d Simple

pub item_indefinite : (k c d : ℕ) (m : Major) → k < 4 → begins (frame_of k c) d (Indefinite m) ≡ indefinite m d
unfolding enter
item_indefinite k c d m h = level_items k c h d (Indefinite m)

pub indefinite_some : (m : Major) (d : ℕ) → room_for m d ≡ true → (g : Frame) → indefinite m 1 ≡ some g → indefinite m (nesting - d) ≡ some g
unfolding indefinite
indefinite_some Number d p g e = e
indefinite_some Bytes d p g e = e
indefinite_some Text d p g e = e
indefinite_some Array d p g e = within_some d Elements p ∙ e
indefinite_some Map d p g e = within_some d Pairs p ∙ e
indefinite_some Tag d p g e = e

pub indefinite_none : (m : Major) (d : ℕ) → room_for m d ≡ false → indefinite m (nesting - d) ≡ none
unfolding indefinite
indefinite_none Number d p = refl
indefinite_none Bytes d p = absurd (false≢true (sym p))
indefinite_none Text d p = absurd (false≢true (sym p))
indefinite_none Array d p = within_none d Elements p
indefinite_none Map d p = within_none d Pairs p
indefinite_none Tag d p = refl
