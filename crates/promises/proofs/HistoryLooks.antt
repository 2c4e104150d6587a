-- What a look that answers 0 shows: the first message held, where it lies in one run, or in scratch.
-- Assumes nothing.
use mathlib.Core.Path.{◌≡◌, refl, sym, ap, subst, ◌∙◌}
use mathlib.Core.List.{List}
use Prim.Native.Nat.{ℕ, ◌+◌, ◌≤◌, ◌<◌}
use native.Mathlib.Omega.{arith}
use lib.Dec.{leb}
use lib.ListN.{length, get_or}
use lib.Seq.{sets, length-sets}
use borrow.Author.Tests.{ne_eqb, le-leb, leb-true, leb-false}
use Rattle.base.proofs.Conds.{cond_cases}
use Rattle.ring.specs.Ring.{base_of, run}
use Rattle.ring.proofs.Runs.{run_sets}
use Rattle.ring.proofs.Stores.{stream_length}
use Rattle.rows.specs.declared.Protocol.{Protocol}
use Rattle.rows.specs.Spoken.{speaks}
use Rattle.messages.specs.declared.Message.{Message}
use Rattle.connection.specs.declared.Settings.{Settings}
use Rattle.connection.specs.declared.Connection.{Connection}
use Rattle.connection.specs.Parts.{first_held}
use Rattle.judging.specs.Judging.{Judgement, leading}
use Rattle.hearing.specs.Besides.Numbers.{Found, Tells, refusal, message}
use Rattle.hearing.proofs.NumberLaws.{tells, unshown_number}
use Rattle.looking.specs.declared.Place.{Place}
use Rattle.looking.specs.declared.Place.TheVariants.{Store, Scratch, Nowhere}
use Rattle.looking.specs.Looking.{place_of, message_place, shown_in, by_judged, look_of}
use Rattle.looking.specs.Looking as looking
use Rattle.looking.proofs.PartLaws.{straight}
use Rattle.promises.specs.Calls.{look, said_by, looked, World, world, step}
use Rattle.promises.specs.Reached.{Reached}
use Rattle.promises.specs.History.{Spells, cut_of, Sees, SeesNothing, Looks}
use Rattle.promises.proofs.Effects.{found_first, found_reads}
use Rattle.promises.proofs.HistoryItems.{message_item}

-- ---- parts

-- there are so many bytes
cut_there : (bs : List ℕ) (at n : ℕ) → at + n ≤ length bs → cut_of bs at n ≡ run bs at n
cut_there bs at n h = rw (le-leb (at + n) (length bs) h)

-- the bytes that were written at scratch's front
pub cut_front : (xs scratch : List ℕ) (n : ℕ) → length xs ≡ n → n ≤ length scratch → cut_of (sets scratch 0 xs) 0 n ≡ xs
cut_front xs scratch n e h =
    cut_there (sets scratch 0 xs) 0 n (omega (arith, length-sets scratch 0 xs))
    ∙ ap (λ (k : ℕ). run (sets scratch 0 xs) 0 k) (sym e) ∙ run_sets scratch 0 xs (omega arith)

-- ---- where a message is

-- n bytes held, by the place where they are shown: in the store, in one run; in scratch, which has room; or nowhere, where it has none
pub data At (c : Connection) (store : List ℕ) (i : ℕ) (scratch : List ℕ) (n : ℕ) : Place → Type 0 where
  in_store : (at : ℕ) → cut_of store at n ≡ first_held c store i n → At c store i scratch n (Store at)
  in_scratch : n ≤ length scratch → At c store i scratch n Scratch
  nowhere : length scratch < n → At c store i scratch n Nowhere

pub placed : (c : Connection) (store : List ℕ) (i : ℕ) (scratch : List ℕ) {n next : ℕ} {m : Message} → Found c store i n m next
    → At c store i scratch n (message_place c i n (length scratch))
unfolding place_of
placed c store i scratch {n} f =
    let start = get_or c.receiving.starts i 0 in
    let at : ℕ = base_of c.settings.receive i + start in
    let cap = get_or c.settings.receive i 0 in
    let room : ℕ = length scratch in
    cond_cases (At c store i scratch n) (leb (start + n) cap)
    (λ t. let (fits, is) = straight c store i f (leb-true (start + n) cap t) in in_store at (cut_there store at n fits ∙ is))
    (λ t. cond_cases (At c store i scratch n) (leb n room) (λ r. in_scratch (leb-true n room r)) (λ r. nowhere (leb-false n room r)))

-- ---- a look

module _ (w : World) (i : ℕ) (scratch : List ℕ) where
  abbrev c : Connection
  c = w.connection

  -- what is to be told of a look, by its answer and scratch
  abbrev Told : looking.Told → Type 0
  Told t =
      let l = looked (said_by t.answer.shown) t.answer.place t.scratch in
      let n = t.answer.shown.number in
      (step w (look i scratch)).world ≡ world t.answer.connection w.receive w.send
      → (n ≡ 0 → Sees c.settings w i scratch l) × ((n ≡ 0 → ⊥) → SeesNothing w scratch l)

  -- the first bytes held are the message
  module _ {n next : ℕ} {m : Message} (f : Found c w.receive i n m next) where
    abbrev xs : List ℕ
    xs = first_held c w.receive i n

    abbrev p : Protocol
    p = speaks c.settings.party.bundle i

    says : Spells p n m xs
    says =
        let reads = found_reads c w.receive i f in
        record { long = stream_length _ _ _ _ n; item = message_item p xs m reads; reads = reads }

    -- at its place
    told_at : {q : Place} → At c w.receive i scratch n q → Told (shown_in c w.receive i scratch (leading n m next) q)
    told_at (in_store at e) same =
        ((λ z. record { within = f.asked.1; bytes = xs; front = found_first c w.receive i f; spells = says; part = e; written = refl; same = same }), λ ne. absurd (ne refl))
    told_at (in_scratch room) same = (
      λ z.
          record {
            within = f.asked.1;
            bytes = xs;
            front = found_first c w.receive i f;
            spells = says;
            part = cut_front xs scratch n says.long room;
            written = refl;
            same = same;
          },
      λ ne. absurd (ne refl),
    )
    told_at (nowhere short) same = ((λ z. absurd (omega arith)), λ ne. (refl, refl))

  told : {j : Judgement} → Tells c w.receive i j → Told (by_judged c w.receive i scratch j)
  told (refusal {o = o} u) =
      let low = unshown_number u in
      λ same. ((λ z. absurd (omega arith)), λ ne. (refl, refl))
  told (message f) = told_at f (placed c w.receive i scratch f)

looks_own : (w : World) → Looks w.connection.settings w
unfolding step look_of
looks_own w i scratch = told w i scratch (tells w.connection w.receive i) refl

pub looks : (s : Settings) (w : World) → Reached s w → Looks s w
looks s w r = subst (λ (u : Settings). Looks u w) r.settings (looks_own w)
