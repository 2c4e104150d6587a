-- The states (T11 c): each effect moves no state, or is an act of one instance, whose state it moves by one row.
-- Assumes nothing.
use mathlib.Core.Path.{◌≡◌, refl, sym, ap}
use mathlib.Core.Bool.{false, cond, ◌&&◌, ◌||◌, or-false}
use mathlib.Core.List.{List, [], ◌∷◌, ◌++◌, append-nil, flat_map}
use Prim.Native.Nat.{ℕ, ◌<◌}
use native.Mathlib.Omega.{arith}
use borrow.Author.Tests.{eq-eqb, ne_eqb, eqb-true}
use lib.Dec.{eqb}
use lib.ListN as lists
use lib.ListN.{get_or, get_or-replicate}
use Rattle.base.proofs.Conds.{by_test}
use Rattle.base.proofs.ListLaws.{at_set}
use Rattle.wire.specs.declared.instances.Party.{Party}
use Rattle.wire.specs.Instances.{instances, most}
use Rattle.wire.proofs.InstanceLaws.{at_most}
use Rattle.rows.specs.declared.Protocol.TheVariants.{Handshake}
use Rattle.rows.specs.Rows.{done_of}
use Rattle.rows.specs.Spoken.{speaks}
use Rattle.messages.specs.declared.Message.{Message}
use Rattle.messages.specs.Reading.{read, said_in, flag_of}
use Rattle.connection.specs.declared.Settings.{Settings}
use Rattle.range.proofs.RangeLaws.{ranged}
use Rattle.judging.proofs.Moving.{leads_low, first_speaks}
use Rattle.judging.specs.Judging.{moved_by}
use Rattle.promises.specs.Calls.{World, Opened, first}
use Rattle.promises.specs.Effects.{Act, gave, got, read_in, Effect, came, sent, faulted, nothing, acted, Past, acts_by, acts}
use Rattle.promises.specs.History.{Moves, Walks, rests, moves, ends_in_accept, Talks}
use Rattle.promises.proofs.Effects.{Good, Steps, Leaves, still, shut, feeds, faults, drops, queues, serves}
use Rattle.promises.proofs.Reached.{opens_fresh}
use Rattle.promises.proofs.HistoryLaws.{acts_next}

-- ---- T11 (c)

walk-next : {us : Party} {i from state to : ℕ} {before : List Act} {a : Act} → Walks us i from before state → Moves us i state a to
    → Walks us i from (before ++ (a ∷ [])) to
walk-next rests k = moves k rests
walk-next (moves j more) k = moves j (walk-next more k)

ends_next : (before : List Act) (a : Act) → ends_in_accept (before ++ (a ∷ [])) ≡ eqb (said_in (read_in Handshake a)).kind 1
unfolding ends_in_accept
ends_next [] a = refl
ends_next (b ∷ []) a = refl
ends_next (b ∷ d ∷ before) a = ends_next (d ∷ before) a

module _ (w : World) (k : Good w) (past : Past) (t : Talks w.connection.settings past w) where
  abbrev given : Settings
  given = w.connection.settings

  -- the states of all after an act of j
  walks_on : (j to : ℕ) (a : Act) → j < instances given.party.bundle → Moves given.party j (get_or w.connection.talk.states j 0) a to → (i : ℕ) → i < instances given.party.bundle
      → Walks given.party i 0 (acts i past ++ cond (eqb j i) (a ∷ []) []) (get_or (lists.set w.connection.talk.states j to) i 0)
  walks_on j to a h m i =
      at_set (λ n state. n < instances given.party.bundle → Walks given.party n 0 (acts n past ++ cond (eqb j n) (a ∷ []) []) state) w.connection.talk.states j to
      (omega (arith, k.shaped.states, at_most given.party.bundle)) (λ l. rw (eq-eqb j j refl) (walk-next (t.states j h) m))
      (λ n ne l. rw (ne_eqb j n (λ e. ne (sym e)), append-nil) (t.states n l)) i

  -- and whether Accept is marked: no state with a row is Handshake's last
  marks_on : (j to : ℕ) (a : Act) (m : Moves given.party j (get_or w.connection.talk.states j 0) a to)
      → (w.connection.talk.accepted || (eqb j 0 && eqb m.message.kind 1)) ≡ ends_in_accept (acts 0 past ++ cond (eqb j 0) (a ∷ []) [])
  marks_on j to a m =
      by_test (eqb j 0)
      (λ q.
      let e : j ≡ 0 = eqb-true j 0 q in
      let going = (leads_low (speaks given.party.bundle j) (get_or w.connection.talk.states j 0) m.message.kind (flag_of (speaks given.party.bundle j) m.message) to m.row).0 in
      let not_yet : w.connection.talk.accepted ≡ false =
      by_test w.connection.talk.accepted
      (λ y.
      let done : get_or w.connection.talk.states 0 0 ≡ done_of (speaks given.party.bundle 0) = (ranged w.connection k.ranged).accepted y in
      absurd (omega (arith, ap (λ (n : ℕ). get_or w.connection.talk.states n 0) e, ap (λ (n : ℕ). done_of (speaks given.party.bundle n)) e)))
      (λ n. n) in
      let read-so : read_in Handshake a ≡ read m.message = rw (e, first_speaks given.party.bundle) at m.reads in
      rw (q, not_yet, ends_next (acts 0 past) a, read-so))
      (λ q. rw (q, or-false, append-nil) t.accepted)

  -- an effect that is no act
  quiet : (e : Effect) {w' : World} → w'.connection.talk ≡ w.connection.talk → ((i : ℕ) → acts_by i e ≡ []) → Talks given (past ++ (e ∷ [])) w'
  quiet e {w'} f n =
      record {
        states = λ i l. rw (acts_next past e i, n i, append-nil, f) (t.states i l);
        accepted = rw (acts_next past e 0, n 0, append-nil, f) t.accepted;
      }

  -- and an act
  acts_on : {w' : World} (j to : ℕ) (a : Act) (m : Message) → Steps w j a m to → w'.connection.talk ≡ moved_by w.connection.talk j m.kind to
      → Talks given (past ++ (acted j a ∷ [])) w'
  acts_on {w'} j to a m q f =
      let k : Moves given.party j (get_or w.connection.talk.states j 0) a to =
      record { message = m; reads = q.reads; agency = q.agency; row = q.row } in
      record {
        states = λ i l. rw (acts_next past (acted j a) i, f) (walks_on j to a q.within k i l);
        accepted = rw (acts_next past (acted j a) 0, f) (marks_on j to a k);
      }

  pub talks_by : {real : Type 0} {e : Effect} {w' : World} → Leaves w real e w' → Talks given (past ++ (e ∷ [])) w'
  talks_by still = quiet nothing refl (λ i. refl)
  talks_by (shut o) = quiet (came 20 []) refl (λ i. refl)
  talks_by {e = e} (feeds xs o spelt) = quiet e refl (λ i. refl)
  talks_by (faults n j) = quiet (faulted n j) refl (λ i. refl)
  talks_by (drops j n to m q fits reads) = acts_on j to (got n m) m q refl
  talks_by (queues j to m xs q o free short room) = acts_on j to (gave xs) m q refl
  talks_by (serves j time bs o who q) = quiet (sent time bs) refl (λ i. refl)

pub talks_first : {s : Settings} {receive send : List ℕ} → Opened s receive send → Talks s [] (first s receive send)
unfolding acts ends_in_accept flat_map
talks_first {s} {receive} {send} o =
    record {
      states = λ i l. rw (opens_fresh o, get_or-replicate {A = ℕ} most i 0 0 (omega (arith, at_most s.party.bundle))) rests;
      accepted = rw (opens_fresh o);
    }
