-- What is made of runs of bytes is bytes: heads are, and all else is the runs.
-- Assumes nothing.
use Rattle.std.proofs.Common.{Option, Some, None}
use Prim.Native.Nat.{ℕ, ◌+◌}
use mathlib.Core.Bool.{Bool, cond}
use mathlib.Core.List.{List, [], ◌∷◌, ◌++◌}
use native.Mathlib.Omega.{arith}
use lib.Dec.{eqb, ltb}
use lib.ListN.{length}
use Rattle.base.specs.Numbers.{Bytes}
use Rattle.base.proofs.Conds.{cond_cases}
use Rattle.base.proofs.NumberLaws.{bytes_append}
use Rattle.head.specs.Write.{shortest}
use Rattle.head.proofs.WriteLaws.{shortest_bytes}
use Rattle.rows.specs.declared.Protocol.{Protocol}
use Rattle.elements.specs.declared.Element.{Element}
use Rattle.elements.specs.declared.Field.{Field}
use Rattle.elements.specs.declared.Field.TheVariants as field
use Rattle.messages.specs.Forms.{form_of}
use Rattle.elements.specs.Matching.{array, Break, in_message, opener}
use Rattle.elements.specs.Reading.{End, on_end, item_end}
use Rattle.elements.proofs.ElementLaws.{opener_low}
use Rattle.parts.specs.Given.{numeric}
use Rattle.layout.specs.Asked.{openly}
use Rattle.parts.specs.Counting.{on_some, count_of}
use Rattle.parts.proofs.Counting.{Found}
use Rattle.build.specs.Made.{headed, limited, of_number, of_run, first_of, all_used, made, encoded}

-- ---- fields

limited_bytes : (limit v : ℕ) → Found Bytes (limited limit v)
limited_bytes limit v = cond_cases (Found Bytes) (ltb v limit) (λ _. shortest_bytes 0 v (omega arith)) (λ _. tt)

number_bytes : (f : Field) (v : ℕ) → Found Bytes (of_number f v)
unfolding Bytes
number_bytes field.Item v = tt
number_bytes (field.List e) v = tt
number_bytes (field.Below limit) v = limited_bytes limit v
number_bytes field.Bool v =
    cond_cases (Found Bytes) (eqb v 0) (λ _. (omega arith, tt)) (λ _. cond_cases (Found Bytes) (eqb v 1) (λ _. (omega arith, tt)) (λ _. tt))

item_bytes : (r : List ℕ) (e : End) → Bytes r → Found Bytes (on_end None e (λ q. cond (eqb q (length r)) (Some r) None))
item_bytes r (Some q) b = cond_cases (Found Bytes) (eqb q (length r)) (λ _. b) (λ _. tt)
item_bytes r None b = tt

headed_bytes : (asked : Bool) (e : Element) (r : List ℕ) (o : Option ℕ) → Bytes r → Found Bytes (on_some o (λ k. Some (headed asked e r k)))
unfolding Bytes
headed_bytes asked e r None b = tt
headed_bytes asked e r (Some k) b =
    cond_cases Bytes (openly asked e) (λ _. (omega (arith, opener_low e), bytes_append r (Break ∷ []) b (omega arith, tt)))
    (λ _. bytes_append (shortest (opener e) k) r (shortest_bytes (opener e) k (omega (arith, opener_low e))) b)

run_bytes : (asked : Bool) (f : Field) (r : List ℕ) → Bytes r → Found Bytes (of_run asked f r)
run_bytes asked field.Item r b = item_bytes r (item_end r in_message 0) b
run_bytes asked (field.List e) r b = headed_bytes asked e r (count_of e r) b
run_bytes asked (field.Below limit) r b = tt
run_bytes asked field.Bool r b = tt

-- ---- messages

-- each run is
abbrev pub AllBytes : List (List ℕ) → Type 0
AllBytes [] = Unit {0}
AllBytes (r ∷ rs) = Bytes r × AllBytes rs

in_front : (o m : Option (List ℕ)) → Found Bytes o → Found Bytes m → Found Bytes (on_some o (λ xs. on_some m (λ ys. Some (xs ++ ys))))
in_front None m b c = tt
in_front (Some xs) None b c = tt
in_front (Some xs) (Some ys) b c = bytes_append xs ys b c

none_left : (ns : List ℕ) (rs : List (List ℕ)) → Found Bytes (all_used ns rs)
unfolding Bytes
none_left [] [] = tt
none_left [] (r ∷ rs) = tt
none_left (n ∷ ns) rs = tt

by_number : (asked : Bool) (f : Field) (fs : List Field) (ns : List ℕ) (rs : List (List ℕ)) → ((ns : List ℕ) → Found Bytes (made asked fs ns rs))
    → Found Bytes (first_of ns (λ v ns. on_some (of_number f v) (λ xs. on_some (made asked fs ns rs) (λ ys. Some (xs ++ ys)))))
by_number asked f fs [] rs rest = tt
by_number asked f fs (v ∷ ns) rs rest = in_front (of_number f v) (made asked fs ns rs) (number_bytes f v) (rest ns)

by_run : (asked : Bool) (f : Field) (fs : List Field) (ns : List ℕ) (rs : List (List ℕ)) → AllBytes rs
    → ((rs : List (List ℕ)) → AllBytes rs → Found Bytes (made asked fs ns rs))
    → Found Bytes (first_of rs (λ r rs. on_some (of_run asked f r) (λ xs. on_some (made asked fs ns rs) (λ ys. Some (xs ++ ys)))))
by_run asked f fs ns [] b rest = tt
by_run asked f fs ns (r ∷ rs) (h, b) rest = in_front (of_run asked f r) (made asked fs ns rs) (run_bytes asked f r h) (rest rs b)

made_bytes : (asked : Bool) (fs : List Field) (ns : List ℕ) (rs : List (List ℕ)) → AllBytes rs → Found Bytes (made asked fs ns rs)
unfolding made
made_bytes asked [] ns rs b = none_left ns rs
made_bytes asked (f ∷ fs) ns rs b =
    cond_cases (Found Bytes) (numeric f) (λ _. by_number asked f fs ns rs (λ ns. made_bytes asked fs ns rs b))
    (λ _. by_run asked f fs ns rs b (λ rs b. made_bytes asked fs ns rs b))

pub encoded_bytes : (p : Protocol) (kind : ℕ) (asked : Bool) (ns : List ℕ) (rs : List (List ℕ)) → AllBytes rs → Found Bytes (encoded p kind asked ns rs)
unfolding encoded
encoded_bytes p kind asked ns rs b = of (form_of p kind)
  where
    whole : (fs : List Field) (o : Option (List ℕ)) → Found Bytes o
        → Found Bytes (on_some o (λ ys. Some (shortest array (length fs + 1) ++ (shortest 0 kind ++ ys))))
    whole fs None c = tt
    whole fs (Some ys) c =
        bytes_append (shortest array (length fs + 1)) (shortest 0 kind ++ ys) (shortest_bytes array (length fs + 1) (omega arith))
        (bytes_append (shortest 0 kind) ys (shortest_bytes 0 kind (omega arith)) c)

    of : (o : Option (List Field))
        → Found Bytes (on_some o (λ fs. on_some (made asked fs ns rs) (λ ys. Some (shortest array (length fs + 1) ++ (shortest 0 kind ++ ys)))))
    of None = tt
    of (Some fs) = whole fs (made asked fs ns rs) (made_bytes asked fs ns rs b)
