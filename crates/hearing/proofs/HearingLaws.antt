-- Laws of hearing: the bytes held lie in the store, and each way out of the code is the definition.
-- Assumes nothing.
use mathlib.Core.Path.{◌≡◌, sym, ap, ◌∙◌}
use mathlib.Core.Bool.{true, false}
use mathlib.Core.List.{List}
use Prim.Native.Nat.{ℕ, ◌+◌, ◌-◌, ◌≤◌}
use native.Mathlib.Omega.{arith}
use native.Mathlib.Nat.{mod-eq_of_lt}
use lib.ListN.{length, get_or, take, drop}
use borrow.Author.Tests.{lt-ltb, le-ltb}
use Rattle.std.specs.Prelude.{Ok}
use Rattle.ring.specs.Ring.{base_of, run}
use Rattle.ring.specs.Inside.{around}
use Rattle.ring.proofs.Around.{stream_around}
use Rattle.ring.proofs.Runs.{run_length}
use Rattle.ring.proofs.Stores.{stream_length, stream_take}
use Rattle.wire.specs.Instances.{instances}
use Rattle.wire.proofs.InstanceLaws.{at_most}
use Rattle.item.specs.Verdict.{verdict}
use Rattle.connection.specs.declared.Connection.{Connection}
use Rattle.connection.specs.Areas.{bytes_of}
use Rattle.connection.specs.Parts.{first_held, held_of}
use Rattle.range.specs.Ranges.{receives}
use Rattle.range.specs.Besides.Ranges.{InReceive}
use Rattle.range.proofs.StoreLaws.{receive_area}
use Rattle.range.proofs.RangeLaws.{ranged, receives_both}
use Rattle.judging.specs.declared.Outcome.TheVariants.{OutOfRange, NoInstance}
use Rattle.judging.specs.Judging.{unjudged, heard}
use Rattle.judging.proofs.JudgingLaws.{whole_within}
use Rattle.hearing.specs.Inside.{Held}
use Rattle.hearing.specs.Hearing.{seen, hear_of}

-- ---- the bytes held

-- the part of the store that begins where the area does and is as long
pub part_long : (caps store : List ℕ) (i first count : ℕ) → Held caps (length store) i first count → (b : ℕ) → b ≡ base_of caps i
    → length (take (b + get_or caps i 0 - b) (drop b store)) ≡ get_or caps i 0
part_long caps store i first count k b e =
    let long : b + get_or caps i 0 - b ≡ get_or caps i 0 = omega arith in
    rw (long, e) (run_length store (base_of caps i) (get_or caps i 0) k.stored)

-- the bytes held lie around it
pub held_there : (caps store : List ℕ) (i first count : ℕ) → Held caps (length store) i first count → (b : ℕ) → b ≡ base_of caps i
    → around (take (b + get_or caps i 0 - b) (drop b store)) first count ≡ bytes_of caps store i first count
held_there caps store i first count k b e =
    let cap = get_or caps i 0 in
    let long : b + cap - b ≡ cap = omega arith in
    rw (long, e)
    (sym (stream_around store (base_of caps i) cap first count k.some k.within k.stored
    ∙ ap (λ (p : ℕ). around (run store (base_of caps i) cap) p count) (mod-eq_of_lt k.placed)))

module _ (c : Connection) (store : List ℕ) (i : ℕ) where
  -- an instance of a record in range with its store
  pub asked : InReceive c store i → Held c.settings.receive (length store) i (get_or c.receiving.starts i 0) (get_or c.receiving.held i 0)
  asked (ok, h) =
      let k = receive_area c (length store) i ok h in
      let r = ranged c (receives_both c (length store) ok).0 in
      let q = r.receiving i h in
      record {
        below = omega (arith, at_most c.settings.party.bundle);
        listed = k.listed;
        stored = k.inside;
        some = k.some;
        small = (r.set.receive i h).1;
        placed = q.0;
        within = q.1;
      }

  -- the first n of those held
  pub held_take : (n : ℕ) → n ≤ get_or c.receiving.held i 0 → first_held c store i n ≡ take n (held_of c store i)
  held_take n l = sym (stream_take store (base_of c.settings.receive i) (get_or c.settings.receive i 0) (get_or c.receiving.starts i 0) n _ l)

  -- as many are held as the record says, and an item among them is not longer
  pub held_long : length (held_of c store i) ≡ get_or c.receiving.held i 0
  held_long = stream_length store (base_of c.settings.receive i) (get_or c.settings.receive i 0) (get_or c.receiving.starts i 0) _

  pub held_within : (m : ℕ) → verdict (held_of c store i) ≡ Ok m → m ≤ get_or c.receiving.held i 0
  held_within m e = omega (arith, whole_within (held_of c store i) m e, held_long)

-- fewer bytes from the same place on
pub shorter : {caps : List ℕ} {n i first count : ℕ} → Held caps n i first count → (k : ℕ) → k ≤ count → Held caps n i first k
shorter h k l =
    record {
      below = h.below;
      listed = h.listed;
      stored = h.stored;
      some = h.some;
      small = h.small;
      placed = h.placed;
      within = omega (arith, h.within);
    }

-- ---- the ways out of the code

module _ (c : Connection) (store : List ℕ) (i : ℕ) where
  pub hear_range : receives c (length store) ≡ false → unjudged OutOfRange ≡ hear_of c store i
  unfolding hear_of
  hear_range r = rw r

  pub hear_instance : receives c (length store) ≡ true → instances c.settings.party.bundle ≤ i → unjudged NoInstance ≡ hear_of c store i
  unfolding hear_of
  hear_instance r h = rw (r, le-ltb i (instances c.settings.party.bundle) h)

  pub hear_heard : InReceive c store i → heard (seen c store i) ≡ hear_of c store i
  unfolding hear_of
  hear_heard a = rw (a.0, lt-ltb i (instances c.settings.party.bundle) a.1)
