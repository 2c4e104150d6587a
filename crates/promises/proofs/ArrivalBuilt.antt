-- A built message is shown and dropped: it reads back as its parts (T9 of build), it is one item and a message of the protocol, so a look or drop that is
-- awaited and has the row finds it at the front of what is held; and what they say of it are the numbers and places of what was read.
-- Assumes nothing.
use mathlib.Core.Path.{◌≡◌, refl, sym, ap, ◌∙◌, subst}
use mathlib.Core.List.{List, [], ◌∷◌, ◌++◌, append-nil, append_assoc}
use Rattle.std.proofs.Common.{Some}
use Prim.Native.Nat.{ℕ, zero, suc, ◌+◌, ◌*◌, ◌≤◌}
use native.Mathlib.Omega.{arith}
use native.Mathlib.Numerals.{add-one}
use lib.ListN.{length, get_or, set, take, length-set, length-take}
use lib.Seq.{sets, take-suc-set, get_or-set_same, get_or-set_other}
use Rattle.std.specs.Prelude.{Result, Ok}
use Rattle.ring.specs.Ring as ring
use Rattle.item.specs.Grammar.{Item, nesting}
use Rattle.item.proofs.Theorem.{exactly}
use Rattle.rows.specs.declared.Protocol.{Protocol}
use Rattle.std.specs.Prelude.{Some}
use Rattle.rows.specs.Spoken.{speaks}
use Rattle.messages.specs.declared.Message.{Message}
use Rattle.messages.specs.declared.Unread.{Unread}
use Rattle.elements.specs.declared.Field.{Field}
use Rattle.elements.specs.Besides.Matching.{Value, number, place}
use Rattle.messages.specs.Besides.Matching.{FieldsAt, no_field, a_field, Matches, said_all, message_from}
use Rattle.messages.specs.Matching.{begun, with_number, with_place}
use Rattle.messages.specs.Reading.{message_of, read, said_in}
use Rattle.messages.specs.Besides.Theorem.{Says}
use Rattle.messages.proofs.Theorem.{reads_forms, message_is_item}
use Rattle.build.specs.Besides.Theorem.{numbers_of, runs_of}
use Rattle.build.specs.Building.{given}
use Rattle.build.proofs.NumberLaws as build
use Rattle.build.proofs.Few.{Few, form_few, runs_counted}
use Rattle.connection.specs.declared.Connection.{Connection}
use Rattle.connection.specs.Parts.{first_held}
use Rattle.range.specs.Besides.Ranges.{InReceive}
use Rattle.judging.specs.Besides.Judging.{leads_to}
use Rattle.judging.specs.Besides.Hearing.{Awaited}
use Rattle.judging.specs.Judging.{Judgement, led}
use Rattle.hearing.specs.Hearing.{seen, hear_of, shown_by}
use Rattle.hearing.specs.Besides.Numbers.{Found, message, done}
use Rattle.hearing.proofs.HearingLaws.{held_take, held_long}
use Rattle.hearing.proofs.NumberLaws.{hear_exactly}
use Rattle.looking.specs.declared.Place.{Place}
use Rattle.looking.specs.declared.Place.TheVariants.{Store, Scratch}
use Rattle.looking.specs.Looking as looking
use Rattle.dropping.specs.Dropping.{drop_of}
use Rattle.promises.specs.Calls as calls
use Rattle.promises.specs.Calls.{World, step}
use Rattle.promises.specs.Besides.Arrival.{holding, build_with, numbers_in, runs_at, runs_in, said_of, ShownAs, BuiltArrives}
use Rattle.promises.proofs.HistoryLooks.{At, in_store, in_scratch, nowhere, placed, cut_front}

-- ---- what a message says

-- values that are said in turn: the kind stays, and each adds its number or its place
told_kind : (xs : List Value) (m : Message) → (said_all m xs).kind ≡ m.kind
unfolding said_all
told_kind [] m = refl
told_kind (number v ∷ xs) m = told_kind xs (with_number m v)
told_kind (place a l ∷ xs) m = told_kind xs (with_place m a l)

told_numbers : (xs : List Value) (m : Message) → m.count + length (numbers_of xs) ≤ length m.numbers
    → numbers_in (said_all m xs) ≡ numbers_in m ++ numbers_of xs
unfolding said_all
told_numbers [] m h = sym (append-nil (numbers_in m))
told_numbers (number v ∷ xs) m h =
    let now : numbers_in (with_number m v) ≡ numbers_in m ++ (v ∷ []) = rw add-one (take-suc-set m.numbers m.count v (omega arith)) in
    told_numbers xs (with_number m v) (omega (arith, length-set m.numbers m.count v))
    ∙ ap (λ (ns : List ℕ). ns ++ numbers_of xs) now
    ∙ append_assoc (numbers_in m) (v ∷ []) (numbers_of xs)
told_numbers (place a l ∷ xs) m h = told_numbers xs (with_place m a l) h

-- a start or length set behind so many places
runs_stay : (bs places : List ℕ) (n p v : ℕ) → n * 2 ≤ p → runs_at bs (set places p v) n ≡ runs_at bs places n
unfolding runs_at
runs_stay bs places zero p v h = refl
runs_stay bs places (suc n) p v h =
    rw (
      runs_stay bs places n p v (omega arith),
      get_or-set_other places p (n * 2) v 0 (λ e. omega arith),
      get_or-set_other places p (n * 2 + 1) v 0 (λ e. omega arith),
    )

-- one place more
runs_next : (bs places : List ℕ) (n a l : ℕ) → n * 2 + 2 ≤ length places
    → runs_at bs (set (set places (n * 2) a) (n * 2 + 1) l) (n + 1) ≡ runs_at bs places n ++ (ring.run bs a l ∷ [])
unfolding runs_at
runs_next bs places n a l h =
    let once : List ℕ = set places (n * 2) a in
    let start : get_or (set once (n * 2 + 1) l) (n * 2) 0 ≡ a =
    get_or-set_other once (n * 2 + 1) (n * 2) l 0 (λ e. omega arith) ∙ get_or-set_same places (n * 2) a 0 (omega arith) in
    let size : get_or (set once (n * 2 + 1) l) (n * 2 + 1) 0 ≡ l = get_or-set_same once (n * 2 + 1) l 0 (omega (arith, length-set places (n * 2) a)) in
    let same : runs_at bs (set once (n * 2 + 1) l) n ≡ runs_at bs places n =
    runs_stay bs once n (n * 2 + 1) l (omega arith) ∙ runs_stay bs places n (n * 2) a (omega arith) in
    ap (runs_at bs (set once (n * 2 + 1) l)) (add-one n) ∙ rw (start, size, same)

told_runs : (bs : List ℕ) (xs : List Value) (m : Message) → (m.parts + length (runs_of bs xs)) * 2 ≤ length m.places
    → runs_in bs (said_all m xs) ≡ runs_in bs m ++ runs_of bs xs
unfolding said_all
told_runs bs [] m h = sym (append-nil (runs_in bs m))
told_runs bs (number v ∷ xs) m h = told_runs bs xs (with_number m v) h
told_runs bs (place a l ∷ xs) m h =
    let n : ℕ = m.parts in
    told_runs bs xs (with_place m a l)
    (omega (arith, length-set (set m.places (n * 2) a) (n * 2 + 1) l, length-set m.places (n * 2) a))
    ∙ ap (λ (rs : List (List ℕ)). rs ++ runs_of bs xs) (runs_next bs m.places n a l (omega arith))
    ∙ append_assoc (runs_in bs m) (ring.run bs a l ∷ []) (runs_of bs xs)

-- ---- how many

-- as many values as fields, and no more numbers
values_many : {bs : List ℕ} {fs : List Field} {p q : ℕ} {xs : List Value} → FieldsAt bs fs p xs q → length xs ≡ length fs
values_many no_field = refl
values_many (a_field x r) = ap suc (values_many r)

numbers_few : (xs : List Value) → length (numbers_of xs) ≤ length xs
numbers_few [] = omega arith
numbers_few (number v ∷ xs) = omega (arith, numbers_few xs)
numbers_few (place a l ∷ xs) = omega (arith, numbers_few xs)

-- ---- look and drop

-- bytes that are a message, first among those held, with the row: what a look or drop that is awaited answers
module _ (w : World) (i : ℕ) (bs : List ℕ) (m : Message) (next : ℕ) (asked : InReceive w.connection w.receive i)
    (awaited : Awaited (seen w.connection w.receive i)) (held : take (length bs) (holding w i) ≡ bs) (it : Item nesting bs)
    (says : Says (speaks w.connection.settings.party.bundle i) bs m) (row : leads_to (seen w.connection w.receive i) m ≡ Some next) where
  abbrev c : Connection
  c = w.connection

  abbrev store : List ℕ
  store = w.receive

  abbrev n : ℕ
  n = length bs

  all : n ≤ length (holding w i)
  all = omega (arith, ap length held, length-take n (holding w i))

  bytes : first_held c store i n ≡ bs
  bytes = held_take c store i n (omega (arith, all, held_long c store i)) ∙ held

  first_held_lem : Found c store i n m next
  first_held_lem =
      record {
        asked = asked;
        spells =
            record {
              awaited = awaited;
              whole = (exactly nesting (holding w i) (Ok n)).1 (all, rw held it);
              says = subst (λ (xs : List ℕ). Says (speaks c.settings.party.bundle i) xs m) (sym held) says;
              row = row;
            };
      }

  is_heard : hear_of c store i ≡ led n m next
  is_heard = (hear_exactly c store i (led n m next)).1 (message first_held_lem)

  drops_it : (step w (calls.drop i)).answer ≡ (0, said_of bs m)
  unfolding step drop_of
  drops_it = ap (λ (j : Judgement). ((shown_by j).number, calls.said_by (shown_by j))) is_heard

  module _ (scratch : List ℕ) (room : n ≤ length scratch) where
    -- what a look answers with the message at a place
    abbrev answer_at : Place → ℕ × calls.Looked
    answer_at p =
        let s = looking.shown_at p (done n m) in
        (s.number, calls.looked (calls.said_by s) p (looking.joined p (first_held c store i n) scratch))

    -- which is bs
    there : {p : Place} → At c store i scratch n p → (step w (calls.look i scratch)).answer ≡ answer_at p → ShownAs bs m w i scratch
    there (in_store at e) so = record { place = Store at; answer = so; part = e ∙ bytes }
    there (in_scratch h) so =
        record {
          place = Scratch;
          answer = so ∙ ap (λ (xs : List ℕ). (0, calls.looked (said_of bs m) Scratch (sets scratch 0 xs))) bytes;
          part = cut_front bs scratch n refl room;
        }
    there (nowhere short) so = absurd (omega arith)

    looks_it : ShownAs bs m w i scratch
    unfolding step looking.look_of
    looks_it =
        there (placed c store i scratch first_held_lem)
        (ap (λ (j : Judgement).
        let t = looking.by_judged c store i scratch j in (t.answer.shown.number, calls.looked (calls.said_by t.answer.shown) t.answer.place t.scratch))
        is_heard)

pub built_arrives : BuiltArrives
unfolding runs_at
built_arrives bundle i p bs b w j same k =
    let q : Protocol = speaks w.connection.settings.party.bundle j in
    let r = build_with bundle i p b.lent in
    let back = build.reads_back bundle i p.kind p.asked p.numbers p.runs p.one p.two b.lent r.answer r.buffer b.slices.0
    b.slices.1 refl b.done in
    let xs : List Value = back.0 in
    let m : Matches q bs p.kind xs =
    subst (λ (x : Protocol). Matches x bs p.kind xs) (sym same)
    (subst (λ (ys : List ℕ). Matches (speaks bundle i) ys p.kind xs) b.front back.1) in
    let runs : given p.runs p.one p.two ≡ Some (runs_of bs xs) = back.3 ∙ ap (λ (ys : List ℕ). Some (runs_of ys xs)) b.front in
    let small : Few p.kind m.fields = form_few q p.kind m.form in
    let few : length (numbers_of xs) ≤ 3 = omega (arith, numbers_few xs, values_many m.matched, small.fields) in
    let two : length (runs_of bs xs) ≤ 2 = omega (arith, runs_counted bs m.matched, small.runs) in
    let says : Says q bs (message_from p.kind xs) = (p.kind, xs, m, refl) in
    let reads : message_of q bs ≡ read (message_from p.kind xs) = (reads_forms q bs (message_from p.kind xs)).1 says in
    let q-item : Item nesting bs = message_is_item q bs p.kind xs m in
    let row = ap (λ (r : Result Message Unread). leads_to (seen w.connection w.receive j) (said_in r)) (sym reads) ∙ k.row in
    let said : Message = message_from p.kind xs in
    record {
      message = said;
      looks = looks_it w j bs said k.next k.asked k.awaited k.held q-item says row;
      drops = drops_it w j bs said k.next k.asked k.awaited k.held q-item says row;
      kind = told_kind xs (begun p.kind);
      numbers = told_numbers xs (begun p.kind) (omega arith) ∙ back.2;
      runs = ap Some (told_runs bs xs (begun p.kind) (omega arith)) ∙ sym runs;
    }
