-- Laws of put: the area of an instance lies in the store, and each way out of the code is the definition.
-- Assumes nothing.
use mathlib.Core.Path.{◌≡◌}
use mathlib.Core.Bool.{Bool, true, false, ◌&&◌}
use mathlib.Core.List.{List}
use mathlib.Core.Logic.{◌≢◌}
use Prim.Native.Nat.{ℕ, ◌+◌, ◌≤◌}
use native.Mathlib.Omega.{arith}
use lib.Dec.{eqb, ltb, leb}
use lib.ListN.{length, get_or, set}
use borrow.Author.Tests.{eq-eqb, ne_eqb, lt-ltb, le-ltb}
use Rattle.wire.specs.Instances.{instances, handshake}
use Rattle.wire.proofs.InstanceLaws.{at_most}
use Rattle.connection.specs.declared.Connection.{Connection}
use Rattle.range.specs.Ranges.{sends}
use Rattle.range.specs.Besides.Ranges.{InSend}
use Rattle.range.proofs.StoreLaws.{send_area}
use Rattle.range.proofs.RangeLaws.{ranged, sends_both}
use Rattle.judging.specs.declared.Judged.{Judged}
use Rattle.judging.specs.Judging.{Judgement, view_of, said, marks}
use Rattle.putting.specs.Inside.{Waits}
use Rattle.putting.specs.Putting.{told, refused, queued, stored, queue, by_judged, put_of}

-- an instance of a record in range with its store
pub asked : (c : Connection) (store : List ℕ) (i : ℕ) → InSend c store i → Waits c store i
asked c store i (ok, h) =
    let k = send_area c (length store) i ok h in
    let r = ranged c (sends_both c (length store) ok).0 in
    let q = r.sending i h in
    record {
      one = h;
      below = omega (arith, at_most c.settings.party.bundle);
      listed = k.listed;
      stored = k.inside;
      some = k.some;
      small = (r.set.send i h).1;
      start = q.0;
      waiting = q.1;
    }

-- ---- the ways out of put

module _ (c : Connection) (store : List ℕ) (i : ℕ) (xs : List ℕ) where
  pub put_range : sends c (length store) ≡ false → told (refused c 23) store ≡ put_of c store i xs
  unfolding put_of
  put_range r = rw r

  pub put_instance : sends c (length store) ≡ true → instances c.settings.party.bundle ≤ i → told (refused c 10) store ≡ put_of c store i xs
  unfolding put_of
  put_instance r h = rw (r, le-ltb i (instances c.settings.party.bundle) h)

  -- what is said decides
  pub put_by : InSend c store i → (k : Judgement) → k ≡ said (view_of c i xs) → by_judged c store i xs k ≡ put_of c store i xs
  unfolding put_of
  put_by a k e = rw (a.0, lt-ltb i (instances c.settings.party.bundle) a.1, e)

-- ---- the ways out of queueing

module _ (c : Connection) (store : List ℕ) (i : ℕ) (xs : List ℕ) (j : Judged) where
  pub too_long : (eqb i handshake && ltb c.settings.limit (length xs)) ≡ true → told (refused c 24) store ≡ queue c store i xs j
  unfolding queue
  too_long l = rw l

  module _ (short : (eqb i handshake && ltb c.settings.limit (length xs)) ≡ false) where
    pub no_room : leb (get_or c.sending.waiting i 0 + length xs) (get_or c.settings.send i 0) ≡ false → told (refused c 22) store ≡ queue c store i xs j
    unfolding queue
    no_room l = rw (short, l)

    pub has_room : (k : Connection) (full : List ℕ) → leb (get_or c.sending.waiting i 0 + length xs) (get_or c.settings.send i 0) ≡ true
        → k ≡ queued c i (length xs) j → full ≡ stored c store i xs
        → told (record { number = 0; connection = k }) full ≡ queue c store i xs j
    unfolding queue
    has_room k full l q f = rw (short, l, q, f)

-- the record put together from its parts
pub queued_is : (c : Connection) (i n : ℕ) (j : Judged) (accepted : Bool) → accepted ≡ marks c.talk.accepted i j.message.kind
    → record {
      settings = c.settings;
      receiving = c.receiving;
      sending = record { starts = c.sending.starts; waiting = set c.sending.waiting i (get_or c.sending.waiting i 0 + n); turn = c.sending.turn };
      talk = record { states = set c.talk.states i j.next; accepted = accepted };
      gate = c.gate;
    }
    ≡ queued c i n j
queued_is c i n j accepted e = rw e
