-- Laws of the part: what is handed out of a slice, and that it is the message that look shows.
-- Assumes nothing.
use mathlib.Core.Path.{◌≡◌, refl, sym, ap, ◌∙◌}
use mathlib.Core.List.{List, []}
use Prim.Native.Nat.{ℕ, ◌+◌, ◌%◌, ◌≤◌, ◌<◌}
use native.Mathlib.Omega.{arith}
use native.Mathlib.Nat.{mod-eq_of_lt}
use lib.ListN.{length, get_or}
use lib.Seq.{sets, length-sets}
use borrow.Author.Tests.{le-leb, lt-leb}
use denote.Ref.{Bor}
use Rattle.ring.specs.Ring.{base_of, run}
use Rattle.ring.proofs.Runs.{run_sets}
use Rattle.ring.proofs.Stores.{stream_straight, stream_length}
use Rattle.messages.specs.declared.Message.{Message}
use Rattle.connection.specs.declared.Connection.{Connection}
use Rattle.connection.specs.Parts.{first_held}
use Rattle.hearing.specs.Besides.Numbers.{Found}
use Rattle.hearing.proofs.HearingLaws.{asked}
use Rattle.hearing.proofs.NumberLaws.{unshown_number}
use Rattle.looking.specs.declared.Place.TheVariants.{Store, Scratch, Nowhere}
use Rattle.looking.specs.Looking.{look_of, Cut}
use Rattle.looking.specs.Besides.Numbers.{InOneRun}
use Rattle.looking.specs.Besides.Parts.{in_area, at_front, Follows, PartOf, PartShown, OnePart}
use Rattle.looking.proofs.NumberLaws.{Way, stays, short, lies, joins, way}

-- ---- a slice

module _ (s : Bor (List ℕ)) (at len : ℕ) (r : Bor (List ℕ)) where
  -- where there are so many bytes, and where not
  pub cut_in : at + len ≤ length s.now → r.ref_ptr ≡ (s.ref_ptr.0, s.ref_ptr.1 + at) → r.now ≡ run s.now at len → Cut s at len r
  cut_in h p b = record { memory = rw (le-leb (at + len) (length s.now) h) p; bytes = rw (le-leb (at + len) (length s.now) h) b }

  pub cut_out : length s.now < at + len → r.ref_ptr ≡ (s.ref_ptr.0, s.ref_ptr.1 + 0) → r.now ≡ [] → Cut s at len r
  cut_out h p b = record { memory = rw (lt-leb (at + len) (length s.now) h) p; bytes = rw (lt-leb (at + len) (length s.now) h) b }

  -- and back
  pub cut_had : at + len ≤ length s.now → Cut s at len r → (r.ref_ptr ≡ (s.ref_ptr.0, s.ref_ptr.1 + at)) × (r.now ≡ run s.now at len)
  cut_had h k = let e = le-leb (at + len) (length s.now) h in (rw e at k.memory, rw e at k.bytes)

-- no bytes
pub cut_none : (s r : Bor (List ℕ)) → Cut s 0 0 r → r.now ≡ []
cut_none s r k = (cut_had s 0 0 r (omega arith) k).1

-- ---- the part that follows a look

-- a message in one run is a run of the store, which ends within the area
pub straight : (c : Connection) (store : List ℕ) (i : ℕ) {n next : ℕ} {m : Message} → Found c store i n m next → InOneRun c i n
    → let base = base_of c.settings.receive i in let start = get_or c.receiving.starts i 0 in
    (base + start + n ≤ length store) × (run store (base + start) n ≡ first_held c store i n)
straight c store i {n} f w =
    let k = asked c store i f.asked in
    let base = base_of c.settings.receive i in
    let cap = get_or c.settings.receive i 0 in
    let start = get_or c.receiving.starts i 0 in
    let at : start % cap ≡ start = mod-eq_of_lt k.placed in (
      omega (arith, k.stored),
      sym (stream_straight store base cap start n (omega (arith, at)) k.stored ∙ ap (λ (p : ℕ). run store (base + p) n) at),
    )

module _ (c : Connection) (i : ℕ) (before : List ℕ) (store scratch r : Bor (List ℕ)) where
  part_by : {n : ℕ} → Way c store.now i before n → let t = look_of c store.now i before in Follows t store scratch r → PartOf c i t store scratch r
  part_by (stays o u e) f =
      let some = unshown_number u in
      let g = rw (← e) at f in
      rw (← e) (record { message = λ z. absurd (omega (arith, some)); memory = λ z. absurd (omega (arith, some)); none = λ q. cut_none store r g.there })
  part_by (short n m next k w l e) f =
      let g = rw (← e) at f in
      rw (← e) (record { message = λ z. absurd (omega arith); memory = λ z. absurd (omega arith); none = λ q. cut_none store r g.there })
  part_by (lies n m next k w e) f =
      let g = rw (← e) at f in
      let (fits, is) = straight c store.now i k w in
      let (memory, bytes) = cut_had store (base_of c.settings.receive i + get_or c.receiving.starts i 0) n r fits g.there in
      rw (← e) (record { message = λ z. bytes ∙ is; memory = λ z. in_area w memory; none = λ q. absurd (q refl) })
  part_by (joins n m next k w l e) f =
      let g = rw (← e) at f in
      let xs = first_held c store.now i n in
      let long : length xs ≡ n = stream_length store.now (base_of c.settings.receive i) (get_or c.settings.receive i 0) (get_or c.receiving.starts i 0) n in
      let size : length scratch.now ≡ length before = ap length g.after ∙ length-sets before 0 xs in
      let (memory, bytes) = cut_had scratch 0 n r (omega arith) g.there in
      let front : run (sets before 0 xs) 0 n ≡ xs = ap (λ (k : ℕ). run (sets before 0 xs) 0 k) (sym long) ∙ run_sets before 0 xs (omega arith) in
      rw (← e) (record { message = λ z. bytes ∙ ap (λ (l : List ℕ). run l 0 n) g.after ∙ front; memory = λ z. at_front w memory; none = λ q. absurd (q refl) })

pub part_shown : PartShown
part_shown c i before store scratch r f = let (n, w) = way c store.now i before in part_by c i before store scratch r w f

-- ---- T1

pub one_part : OnePart
one_part (Store at) len store scratch r q k l = (k.memory ∙ sym l.memory, k.bytes ∙ sym l.bytes)
one_part Scratch len store scratch r q k l = (k.memory ∙ sym l.memory, k.bytes ∙ sym l.bytes)
one_part Nowhere len store scratch r q k l = (k.memory ∙ sym l.memory, k.bytes ∙ sym l.bytes)
