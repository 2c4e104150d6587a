-- The heads counted byte by byte are those that the grammar reads: a byte completes a head, or leaves one pending.
-- Assumes nothing.
use Prim.Native.Nat.{ℕ, zero, suc, ◌+◌, ◌*◌, ◌-◌}
use mathlib.Core.List.{List, [], ◌∷◌}
use mathlib.Core.Bool.{Bool, true, false}
use mathlib.Core.Option.{Option, some, some-injective}
use mathlib.Core.Path.{◌≡◌, refl, sym, ap, ◌∙◌}
use native.Mathlib.Omega.{arith}
use borrow.Author.Tests.{le-leb}
use Rattle.head.specs.Initial.{initial}
use Rattle.head.specs.declared.Major.{Major}
use Rattle.head.specs.declared.Major.TheVariants.{Number, Bytes, Text, Array, Map, Tag}
use Rattle.head.specs.declared.Initial.{Initial}
use Rattle.head.specs.declared.Initial.TheVariants.{Short, Long, Indefinite, Simple, Break, Reserved}
use Rattle.item.specs.Grammar.{Frame, One, Items, Elements, Pairs, Value, Chunks, Content, Second, Argument, content, within, nest, indefinite}
use Rattle.item.specs.Grammar.{enter, alike, enter_chunk, one, no_more, item, end_array, element, end_map, key, value, end_string, chunk}
use Rattle.item.specs.Grammar.{no_byte, byte, simple, last, digit}
use Rattle.item.specs.Verdict.{Stack, nil, push, into, step, met}
use Rattle.item.specs.Besides.Verdict.{alone, tally, counting, heads}
use Rattle.item.specs.Besides.Theorem.{heads_in, HeadsRead}
use Rattle.item.proofs.Derivative.{Rest, done, then, nothing, no_break, no_break_chunk}
use Rattle.item.proofs.Exact.{met_rest, met_none, some_byte}

-- a head of which the first byte was read and the last was not
abbrev pending : Frame → ℕ
pending One = 0
pending (Items n) = 0
pending Elements = 0
pending Pairs = 0
pending Value = 0
pending (Chunks t) = 0
pending (Content n) = 0
pending Second = 1
pending (Argument m v k) = 1

abbrev owed : Stack → ℕ
owed nil = 0
owed (push d f fs) = pending f + owed fs

abbrev heads_rest : {fs : Stack} {bs : List ℕ} → Rest fs bs → ℕ
heads_rest done = 0
heads_rest (then g r) = heads_in g + heads_rest r

-- a first byte is a head by itself, or leaves one pending
content_whole : (m : Major) (v : ℕ) → pending (content m v) ≡ 0
content_whole Number v = refl
content_whole Bytes v = refl
content_whole Text v = refl
content_whole Array v = refl
content_whole Map v = refl
content_whole Tag v = refl

within_is : (d : ℕ) (f g : Frame) → within d f ≡ some g → f ≡ g
within_is zero f g p = absurd (nothing p)
within_is (suc d) f g p = cc

pub nest_is : (m : Major) (d : ℕ) (f g : Frame) → nest m d f ≡ some g → f ≡ g
unfolding nest
nest_is Number d f g p = cc
nest_is Bytes d f g p = cc
nest_is Text d f g p = cc
nest_is Array d f g p = within_is d f g p
nest_is Map d f g p = within_is d f g p
nest_is Tag d f g p = within_is d f g p

indefinite_whole : (m : Major) (d : ℕ) (g : Frame) → indefinite m d ≡ some g → pending g ≡ 0
unfolding indefinite
indefinite_whole Number d g p = absurd (nothing p)
indefinite_whole Bytes d g p = ap pending (sym (some-injective _ _ p))
indefinite_whole Text d g p = ap pending (sym (some-injective _ _ p))
indefinite_whole Array d g p = ap pending (sym (within_is d Elements g p))
indefinite_whole Map d g p = ap pending (sym (within_is d Pairs g p))
indefinite_whole Tag d g p = absurd (nothing p)

item_head : (i : Initial) (d : ℕ) (g : Frame) → enter d i ≡ some g → alone i + pending g ≡ 1
unfolding enter
item_head (Short m v) d g p = let e : pending g ≡ 0 = ap pending (sym (nest_is m d (content m v) g p)) ∙ content_whole m v in omega arith
item_head (Long m k) d g p = ap (λ (f : Frame). 0 + pending f) (sym (nest_is m d (Argument m 0 k) g p)) ∙ omega arith
item_head (Indefinite m) d g p = let e : pending g ≡ 0 = indefinite_whole m d g p in omega arith
item_head Simple d g p = ap (λ (f : Frame). 0 + pending f) (sym (some-injective _ _ p)) ∙ omega arith
item_head Break d g p = absurd (nothing p)
item_head Reserved d g p = absurd (nothing p)

alike_is : (t : Bool) (m : Major) (f g : Frame) → alike t m f ≡ some g → f ≡ g
unfolding alike
alike_is t Number f g p = cc
alike_is true Bytes f g p = cc
alike_is false Bytes f g p = cc
alike_is true Text f g p = cc
alike_is false Text f g p = cc
alike_is t Array f g p = cc
alike_is t Map f g p = cc
alike_is t Tag f g p = cc

chunk_head : (i : Initial) (t : Bool) (g : Frame) → enter_chunk t i ≡ some g → alone i + pending g ≡ 1
unfolding enter_chunk
chunk_head (Short m v) t g p = let e : pending g ≡ 0 = ap pending (sym (alike_is t m (content m v) g p)) ∙ content_whole m v in omega arith
chunk_head (Long m k) t g p = ap (λ (f : Frame). 0 + pending f) (sym (alike_is t m (Argument m 0 k) g p)) ∙ omega arith
chunk_head (Indefinite m) t g p = absurd (nothing p)
chunk_head Simple t g p = absurd (nothing p)
chunk_head Break t g p = absurd (nothing p)
chunk_head Reserved t g p = absurd (nothing p)

-- One byte: what is owed and what is still to be read, before it and after it.
pub record Moved (fs : Stack) (b : ℕ) (bs : List ℕ) (n : ℕ) : Type 0 where
  pub to : Stack
  pub by : step fs b ≡ some to
  pub rest : Rest to bs
  pub sum : tally fs b + (owed to + heads_rest rest) ≡ n

-- into what the first byte asks for
pub into_some : (d : ℕ) (o : Option Frame) (f : Frame) (fs : Stack) → o ≡ some f → into d o fs ≡ some (push (d - 1) f fs)
into_some d o f fs e = ap (λ (o : Option Frame). into d o fs) e

moves : {fs : Stack} {b : ℕ} {bs : List ℕ} (r : Rest fs (b ∷ bs)) → Moved fs b bs (owed fs + heads_rest r)
unfolding step tally
moves (then (one {d = d} {b = b} {f = f} p g) r) =
    let e = item_head (initial b) d f p in
    record { to = _; by = into_some d (enter d (initial b)) f _ p; rest = then g (then no_more r); sum = omega arith }
moves (then no_more r) = let q = moves r in record { to = q.to; by = q.by; rest = q.rest; sum = q.sum ∙ omega arith }
moves (then (item (one {d = d} {b = b} {f = f} p g) h) r) =
    let e = item_head (initial b) d f p in
    record { to = _; by = into_some d (enter d (initial b)) f _ p; rest = then g (then h r); sum = omega arith }
moves (then {fs = fs} (end_array p) r) = record { to = fs; by = rw p; rest = r; sum = rw p (omega arith) }
moves (then (element (one {d = d} {b = b} {f = f} p g) h) r) =
    let e = item_head (initial b) d f p in
    record { to = _; by = no_break (initial b) d _ _ p ∙ into_some d (enter d (initial b)) f _ p; rest = then g (then h r); sum = omega arith }
moves (then {fs = fs} (end_map p) r) = record { to = fs; by = rw p; rest = r; sum = rw p (omega arith) }
moves (then (key (one {d = d} {b = b} {f = f} p g) h) r) =
    let e = item_head (initial b) d f p in
    record { to = _; by = no_break (initial b) d _ _ p ∙ into_some d (enter d (initial b)) f _ p; rest = then g (then h r); sum = omega arith }
moves (then (value (one {d = d} {b = b} {f = f} p g) h) r) =
    let e = item_head (initial b) d f p in
    record { to = _; by = into_some d (enter d (initial b)) f _ p; rest = then g (then h r); sum = omega arith }
moves (then {fs = fs} (end_string p) r) = record { to = fs; by = rw p; rest = r; sum = rw p (omega arith) }
moves (then (chunk {d = d} {b = b} {text = t} {f = f} p g h) r) =
    let e = chunk_head (initial b) t f p in
    record { to = _; by = no_break_chunk (initial b) t _ _ p ∙ into_some d (enter_chunk t (initial b)) f _ p; rest = then g (then h r); sum = omega arith }
moves (then no_byte r) = let q = moves r in record { to = q.to; by = q.by; rest = q.rest; sum = q.sum ∙ omega arith }
moves (then (byte g) r) = record { to = _; by = refl; rest = then g r; sum = omega arith }
moves (then {fs = fs} (simple {x = x} p) r) = record { to = fs; by = rw (le-leb 32 x p); rest = r; sum = omega arith }
moves (then (last {v = v} {x = x} {m = m} g) r) =
    let e = content_whole m (v * 256 + x) in record { to = _; by = refl; rest = then g r; sum = omega arith }
moves (then (digit g) r) = record { to = _; by = refl; rest = then g r; sum = omega arith }

-- Nothing is left to be read, so nothing is owed.
none_left : {fs : Stack} (r : Rest fs []) → owed fs + heads_rest r ≡ 0
none_left done = omega arith
none_left (then no_more r) = let q = none_left r in omega arith
none_left (then (item g h) r) = absurd (some_byte g)
none_left (then (element g h) r) = absurd (some_byte g)
none_left (then (key g h) r) = absurd (some_byte g)
none_left (then (value g h) r) = absurd (some_byte g)
none_left (then no_byte r) = let q = none_left r in omega arith

all_heads : (bs : List ℕ) {fs : Stack} (r : Rest fs bs) → heads bs fs ≡ owed fs + heads_rest r
unfolding heads
all_heads [] r = sym (none_left r)
all_heads (b ∷ bs) {fs} r =
    let q = moves r in
    of (met fs) refl q.by ∙ ap (λ (n : ℕ). tally fs b + n) (all_heads bs q.rest) ∙ q.sum
  where
    of : {gs : Stack} (t : Bool) → met fs ≡ t → step fs b ≡ some gs
        → counting t (tally fs b) (step fs b) (λ gs. heads bs gs) ≡ tally fs b + heads bs gs
    of true p e = absurd (met_none (met_rest fs p) r)
    of false p e = ap (λ (n : Option Stack). counting false (tally fs b) n (λ gs. heads bs gs)) e

pub heads_read : HeadsRead
heads_read d bs g = all_heads bs (then g done) ∙ omega arith
