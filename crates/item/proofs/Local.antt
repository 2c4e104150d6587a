-- Reading looks at what it reads and at nothing after it (`longer`, `cuts`, `shorter`), and a greater nesting reads no less
-- (`deeper`).
-- Assumes nothing.
use Prim.Native.Nat.{ℕ, zero, suc, ◌-◌}
use mathlib.Core.List.{List, [], ◌∷◌, ◌++◌, append_assoc, append_cancel_right}
use mathlib.Core.Option.{some}
use mathlib.Core.Path.{◌≡◌, refl, sym, ap, ◌∙◌, subst}
use native.Mathlib.Omega.{arith}
use Rattle.head.specs.Initial.{initial}
use Rattle.head.specs.declared.Major.{Major}
use Rattle.head.specs.declared.Major.TheVariants.{Number, Bytes, Text, Array, Map, Tag}
use Rattle.head.specs.declared.Initial.{Initial}
use Rattle.head.specs.declared.Initial.TheVariants.{Short, Long, Indefinite, Simple, Break, Reserved}
use Rattle.item.specs.Grammar.{Frame, Argument, content, within, nest, indefinite, enter, Reads, one, no_more, item, end_array, element}
use Rattle.item.specs.Grammar.{end_map, key, value, end_string, chunk, no_byte, byte, simple, last, digit}
use Rattle.item.proofs.Derivative.{nothing}

pub longer : {d : ℕ} {f : Frame} {bs cs : List ℕ} (ys : List ℕ) → Reads d f bs cs → Reads d f (bs ++ ys) (cs ++ ys)
longer ys (one p g) = one p (longer ys g)
longer ys no_more = no_more
longer ys (item g h) = item (longer ys g) (longer ys h)
longer ys (end_array p) = end_array p
longer ys (element g h) = element (longer ys g) (longer ys h)
longer ys (end_map p) = end_map p
longer ys (key g h) = key (longer ys g) (longer ys h)
longer ys (value g h) = value (longer ys g) (longer ys h)
longer ys (end_string p) = end_string p
longer ys (chunk p g h) = chunk p (longer ys g) (longer ys h)
longer ys no_byte = no_byte
longer ys (byte g) = byte (longer ys g)
longer ys (simple p) = simple p
longer ys (last g) = last (longer ys g)
longer ys (digit g) = digit (longer ys g)

-- what is read: the bytes a, and then what is left
abbrev pub Cuts : ℕ → Frame → List ℕ → List ℕ → Type 0
Cuts d f bs cs = (a : List ℕ) × (bs ≡ a ++ cs) × Reads d f a []

glue : {bs cs : List ℕ} (ds a b : List ℕ) → bs ≡ a ++ cs → cs ≡ b ++ ds → bs ≡ (a ++ b) ++ ds
glue ds a b p q = p ∙ ap (λ (l : List ℕ). a ++ l) q ∙ sym (append_assoc a b ds)

-- one reading after the other
two : {d : ℕ} {f g h : Frame} {bs cs ds : List ℕ} → ((a b c : List ℕ) → Reads d f a b → Reads d g b c → Reads d h a c)
    → Cuts d f bs cs → Cuts d g cs ds → Cuts d h bs ds
two {ds = ds} k (a, p, g) (b, q, h) = (a ++ b, glue ds a b p q, k (a ++ b) b [] (longer b g) h)

pub cuts : {d : ℕ} {f : Frame} {bs cs : List ℕ} → Reads d f bs cs → Cuts d f bs cs
cuts (one {b = b} p g) = let r = cuts g in (b ∷ r.0, ap (λ (l : List ℕ). b ∷ l) r.1, one p r.2)
cuts no_more = ([], refl, no_more)
cuts (item g h) = two (λ a b c x y. item x y) (cuts g) (cuts h)
cuts (end_array {b = b} p) = (b ∷ [], refl, end_array p)
cuts (element g h) = two (λ a b c x y. element x y) (cuts g) (cuts h)
cuts (end_map {b = b} p) = (b ∷ [], refl, end_map p)
cuts (key g h) = two (λ a b c x y. key x y) (cuts g) (cuts h)
cuts (value g h) = two (λ a b c x y. value x y) (cuts g) (cuts h)
cuts (end_string {b = b} p) = (b ∷ [], refl, end_string p)
cuts (chunk {b = b} {ds = ds} p g h) =
    let r = cuts g in
    let q = cuts h in
    (b ∷ (r.0 ++ q.0), ap (λ (l : List ℕ). b ∷ l) (glue ds r.0 q.0 r.1 q.1), chunk p (longer q.0 r.2) q.2)
cuts no_byte = ([], refl, no_byte)
cuts (byte {x = x} g) = let r = cuts g in (x ∷ r.0, ap (λ (l : List ℕ). x ∷ l) r.1, byte r.2)
cuts (simple {x = x} p) = (x ∷ [], refl, simple p)
cuts (last {x = x} g) = let r = cuts g in (x ∷ r.0, ap (λ (l : List ℕ). x ∷ l) r.1, last r.2)
cuts (digit {x = x} g) = let r = cuts g in (x ∷ r.0, ap (λ (l : List ℕ). x ∷ l) r.1, digit r.2)

-- so bytes that follow, and are not read, may be left away
pub shorter : {d : ℕ} {f : Frame} (bs cs ys : List ℕ) → Reads d f (bs ++ ys) (cs ++ ys) → Reads d f bs cs
shorter {d} {f} bs cs ys r =
    let c : Cuts d f (bs ++ ys) (cs ++ ys) = cuts r in
    let e : bs ≡ c.0 ++ cs = append_cancel_right bs (c.0 ++ cs) ys (c.1 ∙ sym (append_assoc c.0 cs ys)) in
    subst (λ (l : List ℕ). Reads d f l cs) (sym e) (longer cs c.2)

-- what an initial byte asks for within a nesting it asks for within a greater one
within_more : (d : ℕ) (f : Frame) {g : Frame} → within d f ≡ some g → within (suc d) f ≡ some g
within_more zero f p = absurd (nothing p)
within_more (suc d) f p = p

nest_more : (m : Major) (d : ℕ) (f : Frame) {g : Frame} → nest m d f ≡ some g → nest m (suc d) f ≡ some g
unfolding nest
nest_more Number d f p = p
nest_more Bytes d f p = p
nest_more Text d f p = p
nest_more Array d f p = within_more d f p
nest_more Map d f p = within_more d f p
nest_more Tag d f p = within_more d f p

indefinite_more : (m : Major) (d : ℕ) {g : Frame} → indefinite m d ≡ some g → indefinite m (suc d) ≡ some g
unfolding indefinite
indefinite_more Number d p = p
indefinite_more Bytes d p = p
indefinite_more Text d p = p
indefinite_more Array d p = within_more d _ p
indefinite_more Map d p = within_more d _ p
indefinite_more Tag d p = p

enter_more : (d : ℕ) (i : Initial) {g : Frame} → enter d i ≡ some g → enter (suc d) i ≡ some g
unfolding enter
enter_more d (Short m v) p = nest_more m d (content m v) p
enter_more d (Long m k) p = nest_more m d (Argument m 0 k) p
enter_more d (Indefinite m) p = indefinite_more m d p
enter_more d Simple p = p
enter_more d Break p = p
enter_more d Reserved p = p

-- one less than one more
less_more : (d : ℕ) {f : Frame} {bs cs : List ℕ} → Reads (d - 1) f bs cs → Reads (suc (d - 1)) f bs cs → Reads (suc d - 1) f bs cs
less_more zero g h = g
less_more (suc d) {f} {bs} {cs} g h = let e : suc (suc d - 1) ≡ suc (suc d) - 1 = omega arith in subst (λ (n : ℕ). Reads n f bs cs) e h

pub deeper : {d : ℕ} {f : Frame} {bs cs : List ℕ} → Reads d f bs cs → Reads (suc d) f bs cs
deeper (one {d = d} {b = b} p g) = one (enter_more d (initial b) p) (less_more d g (deeper g))
deeper no_more = no_more
deeper (item g h) = item (deeper g) (deeper h)
deeper (end_array p) = end_array p
deeper (element g h) = element (deeper g) (deeper h)
deeper (end_map p) = end_map p
deeper (key g h) = key (deeper g) (deeper h)
deeper (value g h) = value (deeper g) (deeper h)
deeper (end_string p) = end_string p
deeper (chunk {d = d} p g h) = chunk p (less_more d g (deeper g)) (deeper h)
deeper no_byte = no_byte
deeper (byte g) = byte (deeper g)
deeper (simple p) = simple p
deeper (last g) = last (deeper g)
deeper (digit g) = digit (deeper g)
