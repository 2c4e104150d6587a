-- Demand 2 (T11 a): messages dropped, one by one, as the answers told; and bytes begin with so many items in one way.
-- Assumes nothing.
use mathlib.Core.Path.{◌≡◌, refl, sym, ap, ◌∙◌}
use mathlib.Core.Bool.{Bool, true, false, cond}
use mathlib.Core.List.{List, [], ◌∷◌, ◌++◌, append_assoc, flatten}
use Prim.Native.Nat.{ℕ}
use native.Mathlib.Omega.{arith}
use lib.ListN as lists
use lib.ListN.{length, length-append}
use lib.Seq.{take_at, drop_at}
use Rattle.std.specs.Prelude.{Ok}
use Rattle.item.specs.Grammar.{Item, nesting}
use Rattle.item.specs.Verdict.{verdict}
use Rattle.item.proofs.Theorem.{exactly}
use Rattle.rows.specs.declared.Protocol.{Protocol}
use Rattle.messages.specs.declared.Message.{Message}
use Rattle.messages.specs.Reading.{message_of, read}
use Rattle.messages.proofs.Theorem.{reads_forms, message_is_item}
use Rattle.promises.specs.Calls.{All}
use Rattle.promises.specs.Effects.{Act, gave, got, Past, acts}
use Rattle.promises.specs.History.{dropped, Spells, Spelled, no_act, a_put, a_drop, Messages}

-- ---- one item

-- what reads as a message is one item
pub message_item : (p : Protocol) (bs : List ℕ) (m : Message) → message_of p bs ≡ read m → Item nesting bs
message_item p bs m e = let (kind, xs, k, q) = (reads_forms p bs m).0 e in message_is_item p bs kind xs k

-- ---- as the answers spelled them

-- acts, one behind the other
pub spelled_append : {p : Protocol} {done more : List Act} {ms ns : List (List ℕ)} → Spelled p done ms → Spelled p more ns → Spelled p (done ++ more) (ms ++ ns)
spelled_append no_act t = t
spelled_append (a_put s) t = a_put (spelled_append s t)
spelled_append (a_drop h s) t = a_drop h (spelled_append s t)

-- an act of an instance, or of another: a put, and a drop
pub spelled_put : (p : Protocol) (xs : List ℕ) (mine : Bool) → Spelled p (cond mine (gave xs ∷ []) []) []
spelled_put p xs true = a_put no_act
spelled_put p xs false = no_act

pub spelled_drop : (p : Protocol) (n : ℕ) (m : Message) (bs : List ℕ) (mine : Bool) → (mine ≡ true → Spells p n m bs)
    → Spelled p (cond mine (got n m ∷ []) []) (cond mine (bs ∷ []) [])
spelled_drop p n m bs true h = a_drop (h refl) no_act
spelled_drop p n m bs false h = no_act

-- as many bytes are dropped as the messages have
pub spelled_long : {p : Protocol} {done : List Act} {ms : List (List ℕ)} → Spelled p done ms → dropped done ≡ length (flatten ms)
unfolding dropped flatten
spelled_long no_act = refl
spelled_long (a_put s) = spelled_long s
spelled_long (a_drop {bs = bs} {ms = ms} h s) = omega (arith, h.long, spelled_long s, length-append bs (flatten ms))

-- ---- one way to split

one_item_lem : (a b x y : List ℕ) → Item nesting a → Item nesting b → a ++ x ≡ b ++ y → (a ≡ b) × (x ≡ y)
one_item_lem a b x y g h e =
    let whole : (c z : List ℕ) → Item nesting c → verdict (c ++ z) ≡ Ok (length c) =
    λ c z k. (exactly nesting (c ++ z) (Ok (length c))).1 (omega (arith, length-append c z), rw (take_at c z (length c) refl) k) in
    let p : verdict (a ++ x) ≡ Ok (length a) = whole a x g in
    let q : verdict (a ++ x) ≡ Ok (length b) = ap verdict e ∙ whole b y h in
    let n : length b ≡ length a = cc in (
      sym (take_at a x (length a) refl) ∙ ap (lists.take (length a)) e ∙ take_at b y (length a) n,
      sym (drop_at a x (length a) refl) ∙ ap (lists.drop (length a)) e ∙ drop_at b y (length a) n,
    )

split_once : (ms ns : List (List ℕ)) (xs ys : List ℕ) → All (Item nesting) ms → All (Item nesting) ns → length ms ≡ length ns
    → flatten ms ++ xs ≡ flatten ns ++ ys → (ms ≡ ns) × (xs ≡ ys)
unfolding flatten
split_once [] [] xs ys i k n e = (refl, e)
split_once [] (b ∷ ns) xs ys i k n e = absurd (omega arith)
split_once (a ∷ ms) [] xs ys i k n e = absurd (omega arith)
split_once (a ∷ ms) (b ∷ ns) xs ys (g, i) (h, k) n e =
    let q = one_item_lem a b (flatten ms ++ xs) (flatten ns ++ ys) g h (sym (append_assoc a (flatten ms) xs) ∙ e ∙ append_assoc b (flatten ns) ys) in
    let r = split_once ms ns xs ys i k (omega arith) q.1 in
    (rw (q.0, r.0), r.1)

items : {p : Protocol} {done : List Act} {ms : List (List ℕ)} → Spelled p done ms → All (Item nesting) ms
items no_act = tt
items (a_put s) = items s
items (a_drop h s) = (h.item, items s)

pub messages : {p : Protocol} {past : Past} {i : ℕ} {received held : List ℕ} (ms : List (List ℕ)) → Spelled p (acts i past) ms → received ≡ flatten ms ++ held
    → Messages p past i received held
messages {held = held} ms s e =
    record { messages = ms; spelled = s; split = e; only = λ ns rest k n q. split_once ns ms rest held k (items s) n (sym q ∙ e) }
