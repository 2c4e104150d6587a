-- Arguments first and bytes then make the message that the definition makes field by field; its length is that of its heads and of all runs.
-- Assumes nothing.
use Rattle.std.proofs.Common.{Option, Some, None}
use Prim.Native.Nat.{ℕ, zero, suc, ◌+◌, ◌≤◌, ◌<◌}
use mathlib.Core.Path.{◌≡◌, refl, sym, ap, subst, ◌∙◌}
use mathlib.Core.Bool.{Bool, true, false, true≢false, false≢true, cond, ◌&&◌}
use mathlib.Core.List.{List, [], ◌∷◌, ◌++◌, append-nil}
use native.Mathlib.Omega.{arith}
use native.Mathlib.Numerals.{add-one}
use lib.Dec.{eqb, ltb, leb}
use lib.ListN.{length, get_or, set, take, drop, length-append, length-drop, length-set, drop_of_length-le}
use lib.Seq.{drop-cons, get_or-set_same, get_or-set_other}
use borrow.Author.Tests.{eqb-true, eqb-false, ltb-true, ltb-false, leb-true, eq-eqb, ne_eqb, le-ltb}
use Rattle.base.specs.Numbers.{octets}
use Rattle.base.proofs.Conds.{by_test, cond_cases, so, is, and_left, and_right}
use Rattle.head.specs.Write.{shortest}
use Rattle.elements.specs.declared.Element.{Element}
use Rattle.elements.specs.declared.Field.{Field}
use Rattle.elements.specs.declared.Field.TheVariants as field
use Rattle.elements.specs.Matching.{in_message, opener}
use Rattle.elements.specs.Reading.{End, on_end, item_end}
use Rattle.parts.specs.Given.{numeric, all_given, empty}
use Rattle.layout.specs.Asked.{openly}
use Rattle.parts.specs.Counting.{on_some, count_of}
use Rattle.parts.specs.Inside.{number_argument, run_argument, run_at, number_after, run_after, number_at, argument_of, planned, nothing}
use Rattle.parts.proofs.Counting.{Found, some_cases}
use Rattle.layout.specs.Inside.{own_length, tail_of, piece_of, body_of, heads_of}
use Rattle.layout.proofs.LayoutLaws.{piece_long}
use Rattle.build.specs.Made.{headed, of_number, of_run, all_used, made}

-- ---- one field

limited_piece : (limit v : ℕ) (f : ℕ → List ℕ) → ((v : ℕ) → f v ≡ shortest 0 v)
    → cond (ltb v limit) (Some (shortest 0 v)) None ≡ on_some (cond (ltb v limit) (Some v) None) (λ a. Some (f a))
limited_piece limit v f e = by_test (ltb v limit) (λ t. rw t (ap Some (sym (e v)))) (λ t. rw t)

pub number_piece : (asked : Bool) (f : Field) (v : ℕ) (run : List ℕ) → numeric f ≡ true
    → of_number f v ≡ on_some (number_argument f v) (λ a. Some (piece_of asked f a run))
unfolding piece_of shortest octets
number_piece asked field.Item v run t = absurd (false≢true t)
number_piece asked (field.List e) v run t = absurd (false≢true t)
number_piece asked (field.Below limit) v run t =
    limited_piece limit v (λ a. piece_of asked (field.Below limit) a run) (λ a. append-nil (shortest 0 a))
number_piece asked field.Bool zero run t = refl
number_piece asked field.Bool (suc zero) run t = refl
number_piece asked field.Bool (suc (suc v)) run t =
    rw (ne_eqb (suc (suc v)) 0 (λ e. omega arith), ne_eqb (suc (suc v)) 1 (λ e. omega arith), le-ltb (suc (suc v)) 2 (omega arith))

one_piece : (asked : Bool) (run : List ℕ) (e : End) → on_end None e (λ q. cond (eqb q (length run)) (Some run) None)
    ≡ on_some (on_end None e (λ q. cond (eqb q (length run)) (Some 0) None)) (λ a. Some (piece_of asked field.Item a run))
unfolding piece_of
one_piece asked run (Some q) = by_test (eqb q (length run)) (λ t. rw t (ap Some (sym (append-nil run)))) (λ t. rw t)
one_piece asked run None = refl

-- a list: its head and its run, and the break where it is of indefinite length
list_piece : (asked : Bool) (e : Element) (run : List ℕ) (k : ℕ) → headed asked e run k ≡ piece_of asked (field.List e) k run
unfolding piece_of
list_piece asked e run k =
    by_test (openly asked e) (λ t. rw t) (λ t. rw t (ap (λ (l : List ℕ). shortest (opener e) k ++ l) (sym (append-nil run))))

list_pieces : (asked : Bool) (e : Element) (run : List ℕ) (o : Option ℕ)
    → on_some o (λ k. Some (headed asked e run k)) ≡ on_some o (λ a. Some (piece_of asked (field.List e) a run))
list_pieces asked e run None = refl
list_pieces asked e run (Some k) = ap Some (list_piece asked e run k)

pub run_piece : (asked : Bool) (f : Field) (run : List ℕ) → numeric f ≡ false → of_run asked f run ≡ on_some (run_argument f run) (λ a. Some (piece_of asked f a run))
run_piece asked field.Item run t = one_piece asked run (item_end run in_message 0)
run_piece asked (field.List e) run t = list_pieces asked e run (count_of e run)
run_piece asked (field.Below limit) run t = absurd (true≢false t)
run_piece asked field.Bool run t = absurd (true≢false t)

-- ---- a field in front of others: its argument stays where it was set

abbrev Others : Option (List ℕ) → (ℕ → Option (List ℕ)) → (List ℕ → List ℕ) → Type 0
Others m plan body = (a : ℕ) → m ≡ on_some (plan a) (λ args. Some (body args))

in_front : (asked : Bool) (f : Field) (run : List ℕ) (i : ℕ) (o : Option ℕ) (m : Option (List ℕ)) (plan : ℕ → Option (List ℕ)) (body : List ℕ → List ℕ)
    → Others m plan body → ((a : ℕ) → Found (λ args. get_or args i 0 ≡ a) (plan a))
    → on_some (on_some o (λ a. Some (piece_of asked f a run))) (λ xs. on_some m (λ ys. Some (xs ++ ys)))
    ≡ on_some (on_some o plan) (λ args. Some (piece_of asked f (get_or args i 0) run ++ body args))
in_front asked f run i None m plan body others stays = refl
in_front asked f run i (Some a) m plan body others stays =
    ap (λ (m : Option (List ℕ)). on_some m (λ ys. Some (piece_of asked f a run ++ ys))) (others a) ∙ of (plan a) (stays a)
  where
    of : (p : Option (List ℕ)) → Found (λ args. get_or args i 0 ≡ a) p
        → on_some (on_some p (λ args. Some (body args))) (λ ys. Some (piece_of asked f a run ++ ys)) ≡ on_some p
        (λ args. Some (piece_of asked f (get_or args i 0) run ++ body args))
    of None e = refl
    of (Some args) e = ap (λ (k : ℕ). Some (piece_of asked f k run ++ body args)) (sym e)

-- ---- nothing is left over

used : (ns : List ℕ) (rs : List (List ℕ)) → all_used ns rs ≡ cond (eqb (length ns) 0 && eqb (length rs) 0) (Some []) None
used [] [] = refl
used [] (r ∷ rs) = rw (ne_eqb (length (r ∷ rs)) 0 (λ e. omega arith))
used (n ∷ ns) rs = rw (ne_eqb (length (n ∷ ns)) 0 (λ e. omega arith))

at-end : {A : Type 0} (xs : List A) (n : ℕ) → n ≤ length xs → eqb (length (drop n xs)) 0 ≡ eqb n (length xs)
at-end xs n h =
    let l = length-drop n xs in
    by_test (eqb n (length xs)) (λ t. eq-eqb (length (drop n xs)) 0 (omega (arith, eqb-true n (length xs) t)) ∙ sym t)
    (λ t. ne_eqb (length (drop n xs)) 0 (λ e. eqb-false n (length xs) t (omega arith)) ∙ sym t)

-- ---- the runs

pub total : List (List ℕ) → ℕ
total [] = 0
total (r ∷ rs) = length r + total rs

module _ (first second : List ℕ) where
  abbrev pub lent : ℕ → List (List ℕ)
  lent runs = take runs (first ∷ second ∷ [])

  lent_long : (runs : ℕ) → runs ≤ 2 → length (lent runs) ≡ runs
  lent_long zero h = refl
  lent_long (suc zero) h = refl
  lent_long (suc (suc zero)) h = refl
  lent_long (suc (suc (suc n))) h = absurd (omega arith)

  lent_next : (runs r : ℕ) → runs ≤ 2 → r < runs → drop r (lent runs) ≡ run_at first second r ∷ drop (suc r) (lent runs)
  lent_next zero r h l = absurd (omega arith)
  lent_next (suc zero) zero h l = refl
  lent_next (suc zero) (suc r) h l = absurd (omega arith)
  lent_next (suc (suc zero)) zero h l = refl
  lent_next (suc (suc zero)) (suc zero) h l = refl
  lent_next (suc (suc zero)) (suc (suc r)) h l = absurd (omega arith)
  lent_next (suc (suc (suc n))) r h l = absurd (omega arith)

  lent_none : (runs r : ℕ) → runs ≤ 2 → runs ≤ r → drop r (lent runs) ≡ []
  lent_none runs r h l = drop_of_length-le (lent runs) {i = r} (omega (arith, lent_long runs h))

-- a field's length in front of others
number_long : (asked : Bool) (f : Field) (a : ℕ) (run rest : List ℕ) (h t : ℕ) → numeric f ≡ true → length rest ≡ h + t
    → length (piece_of asked f a run ++ rest) ≡ own_length asked f a + h + t
number_long asked f a run rest h t is e =
    let z : length (tail_of f run) ≡ 0 = rw is in
    omega (arith, length-append (piece_of asked f a run) rest, piece_long asked f a run)

run_long : (asked : Bool) (f : Field) (a : ℕ) (run rest : List ℕ) (h t : ℕ) → numeric f ≡ false → length rest ≡ h + t
    → length (piece_of asked f a run ++ rest) ≡ own_length asked f a + h + (length run + t)
run_long asked f a run rest h t is e =
    let z : length (tail_of f run) ≡ length run = rw is in
    omega (arith, length-append (piece_of asked f a run) rest, piece_long asked f a run)

found_map : {A : Type 0} {R S : A → Type 0} (o : Option A) → ((a : A) → R a → S a) → Found R o → Found S o
found_map None f r = tt
found_map (Some a) f r = f a r

-- ---- the fields from the i-th on, from number n on and run r on

module _ (asked : Bool) (ns : List ℕ) (runs : ℕ) (first second : List ℕ) where
  abbrev plan : List Field → ℕ → ℕ → ℕ → List ℕ → Option (List ℕ)
  plan fs i n r args = planned ns runs first second fs i n r args

  any : {A : Type 0} (o : Option A) → Found (λ a. Unit {0}) o
  any None = tt
  any (Some a) = tt

  -- what was set before stays
  kept : (fs : List Field) (i n r : ℕ) (args : List ℕ) (j : ℕ) → j < i → Found (λ out. get_or out j 0 ≡ get_or args j 0) (plan fs i n r args)
  unfolding planned
  kept [] i n r args j h = cond_cases (Found (λ out. get_or out j 0 ≡ get_or args j 0)) (eqb n (length ns) && eqb r runs) (λ _. refl) (λ _. tt)
  kept (f ∷ fs) i n r args j h =
      some_cases (Found (λ out. get_or out j 0 ≡ get_or args j 0)) (λ a. plan fs (i + 1) (number_after f n) (run_after f r) (set args i a))
      (argument_of ns runs first second f n r) (any (argument_of ns runs first second f n r)) tt
      (λ a _.
      subst (λ (k : ℕ). Found (λ out. get_or out j 0 ≡ k) (plan fs (i + 1) (number_after f n) (run_after f r) (set args i a)))
      (get_or-set_other args i j a 0 (λ e. omega arith))
      (kept fs (i + 1) (number_after f n) (run_after f r) (set args i a) j (omega arith)))

  -- so the argument that is set is there at the end
  stays : (fs : List Field) (i n r : ℕ) (args : List ℕ) (a : ℕ) → i < length args
      → Found (λ out. get_or out i 0 ≡ a) (plan fs (i + 1) n r (set args i a))
  stays fs i n r args a h =
      subst (λ (k : ℕ). Found (λ out. get_or out i 0 ≡ k) (plan fs (i + 1) n r (set args i a))) (get_or-set_same args i a 0 h)
      (kept fs (i + 1) n r (set args i a) i (omega arith))

  module _ (two : runs ≤ 2) where
    abbrev rs : List (List ℕ)
    rs = lent first second runs

    abbrev body : List Field → ℕ → ℕ → List ℕ → List ℕ
    body fs i r args = body_of asked first second fs args i r

    pub plan_makes : (fs : List Field) (i n r : ℕ) (args : List ℕ) → i + length fs ≤ length args → n ≤ length ns → r ≤ runs
        → made asked fs (drop n ns) (drop r rs) ≡ on_some (plan fs i n r args) (λ out. Some (body fs i r out))
    unfolding made planned body_of argument_of
    plan_makes [] i n r args h hn hr =
        used (drop n ns) (drop r rs)
        ∙ rw (at-end ns n hn, at-end rs r (omega (arith, lent_long first second runs two)), lent_long first second runs two)
        (by_test (eqb n (length ns) && eqb r runs) (λ t. rw t) (λ t. rw t))
    plan_makes (f ∷ fs) i n r args h hn hr =
        by_test (numeric f)
        (λ t.
        rw t
        (by_test (ltb n (length ns))
        (λ u.
        let lt : n < length ns = ltb-true n (length ns) u in
        let next : drop n ns ≡ get_or ns n 0 ∷ drop (n + 1) ns = rw (add-one, drop-cons ns n 0) in
        rw (next, u, number_piece asked f (get_or ns n 0) (run_at first second r) t)
        (in_front asked f (run_at first second r) i (number_argument f (get_or ns n 0)) (made asked fs (drop (n + 1) ns) (drop r rs))
        (λ a. plan fs (i + 1) (n + 1) r (set args i a))
        (body fs (i + 1) r)
        (λ a. plan_makes fs (i + 1) (n + 1) r (set args i a) (omega (arith, length-set args i a)) (omega arith) hr)
        (λ a. stays fs i (n + 1) r args a (omega arith))))
        (λ u.
        let z : drop n ns ≡ [] = drop_of_length-le ns {i = n} (ltb-false n (length ns) u) in
        rw (z, u))))
        (λ t.
        rw t
        (by_test (ltb r runs)
        (λ u.
        let lt : r < runs = ltb-true r runs u in
        let next : drop r rs ≡ run_at first second r ∷ drop (r + 1) rs = rw add-one (lent_next first second runs r two lt) in
        rw (next, u, run_piece asked f (run_at first second r) t)
        (in_front asked f (run_at first second r) i (run_argument f (run_at first second r)) (made asked fs (drop n ns) (drop (r + 1) rs))
        (λ a. plan fs (i + 1) n (r + 1) (set args i a))
        (body fs (i + 1) (r + 1))
        (λ a. plan_makes fs (i + 1) n (r + 1) (set args i a) (omega (arith, length-set args i a)) hn (omega arith))
        (λ a. stays fs i n (r + 1) args a (omega arith))))
        (λ u.
        let z : drop r rs ≡ [] = lent_none first second runs r two (ltb-false r runs u) in
        rw (z, u))))

    -- fields that are planned are as long as their heads and the runs that they take
    long : (fs : List Field) (i n r : ℕ) (args out : List ℕ) → r ≤ runs
        → Found (λ _. length (body fs i r out) ≡ heads_of asked fs out i + total (drop r rs)) (plan fs i n r args)
    unfolding planned body_of heads_of total argument_of
    long [] i n r args out h =
        cond_cases (Found (λ _. 0 ≡ 0 + total (drop r rs))) (eqb n (length ns) && eqb r runs)
        (λ t.
        let e : r ≡ runs = eqb-true r runs (is (eqb r runs) (and_right (eqb n (length ns)) (eqb r runs) (so (eqb n (length ns) && eqb r runs) t))) in
        rw (lent_none first second runs r two (omega arith)))
        (λ _. tt)
    long (f ∷ fs) i n r args out h =
        by_test (numeric f)
        (λ t.
        rw t
        (some_cases
        (Found (λ _. length (piece_of asked f (get_or out i 0) (run_at first second r) ++ body fs (i + 1) r out)
        ≡ own_length asked f (get_or out i 0) + heads_of asked fs out (i + 1) + total (drop r rs)))
        (λ a. plan fs (i + 1) (n + 1) r (set args i a)) (number_at ns f n) (any (number_at ns f n)) tt
        (λ a _.
        found_map (plan fs (i + 1) (n + 1) r (set args i a))
        (λ _ e. number_long asked f (get_or out i 0) (run_at first second r) (body fs (i + 1) r out) (heads_of asked fs out (i + 1)) (total (drop r rs)) t e)
        (long fs (i + 1) (n + 1) r (set args i a) out h))))
        (λ t.
        rw t
        (by_test (ltb r runs)
        (λ u.
        let lt : r < runs = ltb-true r runs u in
        let next : drop r rs ≡ run_at first second r ∷ drop (r + 1) rs = rw add-one (lent_next first second runs r two lt) in
        rw (next, u)
        (some_cases
        (Found (λ _. length (piece_of asked f (get_or out i 0) (run_at first second r) ++ body fs (i + 1) (r + 1) out)
        ≡ own_length asked f (get_or out i 0) + heads_of asked fs out (i + 1) + (length (run_at first second r) + total (drop (r + 1) rs))))
        (λ a. plan fs (i + 1) n (r + 1) (set args i a)) (run_argument f (run_at first second r)) (any (run_argument f (run_at first second r))) tt
        (λ a _.
        found_map (plan fs (i + 1) n (r + 1) (set args i a))
        (λ _ e. run_long asked f (get_or out i 0) (run_at first second r) (body fs (i + 1) (r + 1) out) (heads_of asked fs out (i + 1)) (total (drop (r + 1) rs)) t e)
        (long fs (i + 1) n (r + 1) (set args i a) out (omega arith)))))
        (λ u. rw u tt)))

    pub plan_long : (fs : List Field) (out : List ℕ)
        → Found (λ _. length (body_of asked first second fs out 0 0) ≡ heads_of asked fs out 0 + total rs) (planned ns runs first second fs 0 0 0 nothing)
    plan_long fs out = long fs 0 0 0 nothing out (omega arith)

-- what is lent as runs and not given is empty
pub all_lent : (runs : ℕ) (first second : List ℕ) → all_given runs first second ≡ true → total (lent first second runs) ≡ length first + length second
unfolding total
all_lent zero first second g =
    let t = so (empty first && empty second) g in
    omega (
      arith,
      eqb-true (length first) 0 (is (empty first) (and_left (empty first) (empty second) t)),
      eqb-true (length second) 0 (is (empty second) (and_right (empty first) (empty second) t)),
    )
all_lent (suc zero) first second g = omega (arith, eqb-true (length second) 0 g)
all_lent (suc (suc zero)) first second g = omega arith
all_lent (suc (suc (suc n))) first second g =
    let three : ℕ = suc (suc (suc n)) in
    absurd (omega (arith, leb-true three 2 (is (leb three 2) (and_left (leb three 2) _ (so (all_given three first second) g)))))
