-- T10: every call keeps the range, what waits of Handshake within one segment, and what waits of the others behind Accept.
-- Assumes nothing.
use mathlib.Core.Path.{◌≡◌, refl, sym, ap, subst, ◌∙◌}
use mathlib.Core.Bool.{true, false, true≢false, not, ◌&&◌}
use mathlib.Core.List.{List, [], ◌∷◌}
use Prim.Native.Nat.{ℕ, zero, suc, ◌+◌, ◌-◌, ◌≤◌, ◌<◌}
use native.Mathlib.Omega.{arith}
use lib.Dec.{eqb}
use lib.ListN.{length, get_or, set}
use lib.Seq.{get_or-set_same, get_or-set_other}
use borrow.Author.Tests.{ne_eqb, eqb-true, eqb-false}
use Rattle.base.proofs.Conds.{by_test, cond_cases}
use Rattle.base.proofs.ListLaws.{zeros, at_set}
use Rattle.wire.specs.Instances.{instances, most}
use Rattle.wire.proofs.InstanceLaws.{at_most}
use Rattle.rows.specs.Spoken.{speaks}
use Rattle.connection.specs.declared.Settings.{Settings}
use Rattle.connection.specs.declared.Connection.{Connection}
use Rattle.opening.specs.declared as opening
use Rattle.range.specs.Ranges.{in_range, receive_store_ok, send_store_ok, settings_ok}
use Rattle.opening.specs.Openings.{fresh, open_of}
use Rattle.range.proofs.RangeLaws.{ranged}
use Rattle.opening.proofs.NumberLaws as opening_laws
use Rattle.judging.specs.Judging.{ours}
use Rattle.judging.proofs.Moving.{first_speaks}
use Rattle.feeding.specs.Feeding.{Spelt}
use Rattle.feeding.proofs.Keeping.{spelt_empty}
use Rattle.sending.specs.NextSegment as sending
use Rattle.sending.proofs.NumberLaws.{chosen_waiting}
use Rattle.promises.specs.Calls.{Call, World, step, run, Real, AllReal, Opened, first}
use Rattle.promises.specs.Effects.{Effect}
use Rattle.promises.specs.Reached.{waits, Reached, InRangeForEver, Never23}
use Rattle.promises.proofs.ReachedHandshake.{Row, shakes, spare, spare_put, spare_moved, spare_first}
use Rattle.promises.proofs.ReachedFeed.{Blank, blank_empty}
use Rattle.promises.proofs.Effects.{good, row_of, Leaves, still, shut, feeds, faults, drops, queues, serves, Fits, fed_tidy, done}

-- ---- what every call keeps

-- the bytes of Handshake that we may still put, and with them those that wait
abbrev pub to_put : Settings → World → ℕ
to_put s w = spare s.party.side (get_or w.connection.talk.states 0 0) s.limit

abbrev pub handshake : Settings → World → ℕ
handshake s w = waits w 0 + to_put s w

-- reached, and what waits of Handshake leaves room for what we may still put
pub record Sound (s : Settings) (w : World) : Type 0 where
  pub reached : Reached s w
  pub bound : handshake s w ≤ s.limit

module _ (s : Settings) (w : World) (k : Sound s w) where
  abbrev c : Connection
  c = w.connection

  abbrev r : Reached s w
  r = k.reached

  -- ---- Handshake

  -- where instance i moves, the state of Handshake moves with it or stays
  pub moved : (i after : ℕ) → Row (speaks c.settings.party.bundle i) (get_or c.talk.states i 0) after
      → spare s.party.side (get_or (set c.talk.states i after) 0 0) s.limit ≤ to_put s w
  moved zero after row =
      rw (get_or-set_same c.talk.states 0 after 0 (omega (arith, r.shaped.states)))
      (spare_moved s.party.side s.limit (shakes (get_or c.talk.states 0 0) after (rw (first_speaks c.settings.party.bundle) at row)))
  moved (suc i) after row = rw (get_or-set_other c.talk.states (suc i) 0 after 0 (λ e. omega arith)) (omega arith)

  abbrev more : ℕ → ℕ → List ℕ
  more i n = set c.sending.waiting i (get_or c.sending.waiting i 0 + n)

  -- our message of Handshake, of at most S bytes, is the only one
  pub put_bound : (i after n : ℕ) → ours c.settings.party i (get_or c.talk.states i 0) ≡ true → Row (speaks c.settings.party.bundle i) (get_or c.talk.states i 0) after
      → (i ≡ 0 → n ≤ c.settings.limit)
      → get_or (more i n) 0 0 + spare s.party.side (get_or (set c.talk.states i after) 0 0) s.limit ≤ handshake s w
  put_bound zero after n mine row short =
      let state = get_or c.talk.states 0 0 in
      let k = shakes state after (rw (first_speaks c.settings.party.bundle) at row) in
      let q = rw r.settings at (spare_put c.settings.party s.limit (ranged c r.ranged).set.bundle k mine) in
      rw (
        get_or-set_same c.sending.waiting 0 (waits w 0 + n) 0 (omega (arith, r.shaped.waiting)),
        get_or-set_same c.talk.states 0 after 0 (omega (arith, r.shaped.states)),
      )
      (omega (arith, q.0, q.1, short refl, ap (λ (x : Settings). x.limit) r.settings))
  put_bound (suc i) after n mine row short =
      rw (
        get_or-set_other c.sending.waiting (suc i) 0 (waits w (suc i) + n) 0 (λ e. omega arith),
        get_or-set_other c.talk.states (suc i) 0 after 0 (λ e. omega arith),
      )
      (omega arith)

  -- whoever puts is not barred
  put_accepted : (i n : ℕ) → (not (eqb i 0) && not c.talk.accepted) ≡ false → (j : ℕ) → 0 < j → 0 < get_or (more i n) j 0 → c.talk.accepted ≡ true
  put_accepted i n free j some waiting =
      by_test (eqb j i)
      (λ t.
      let e : j ≡ i = eqb-true j i t in
      let ne : eqb i 0 ≡ false = ne_eqb i 0 (λ z. omega arith) in
      let no : not c.talk.accepted ≡ false = rw ne at free in
      by_test c.talk.accepted (λ a. a) (λ a. absurd (true≢false (ap not (sym a) ∙ no))))
      (λ t. r.accepted j some (rw (get_or-set_other c.sending.waiting i j (waits w i + n) 0 (eqb-false j i t)) at waiting))

  -- what is sent waits no more
  fewer : (i n : ℕ) → i < instances c.settings.party.bundle → (j : ℕ) → get_or (set c.sending.waiting i (waits w i - n)) j 0 ≤ waits w j
  fewer i n l j =
      at_set (λ j m. m ≤ waits w j) c.sending.waiting i (waits w i - n) (omega (arith, r.shaped.waiting, at_most c.settings.party.bundle)) (omega arith) (λ j ne. omega arith) j

  -- ---- each effect

  -- in range, with the settings, and a header that is spelt: it remains to tell what waits
  kept : {w' : World} → Fits w w' → w'.connection.settings ≡ c.settings → Spelt w'.connection.receiving.header → Blank w'.connection.receiving.header
      → (w'.connection.receiving.rest ≡ 0 → w'.connection.receiving.instance ≡ 0) → handshake s w' ≤ handshake s w
      → ((i : ℕ) → 0 < i → 0 < waits w' i → w'.connection.talk.accepted ≡ true) → Sound s w'
  kept fits set spelt blank idle bound accepted =
      record {
        reached =
            record {
              settings = set ∙ r.settings;
              ranged = fits.ranged;
              shaped = fits.shaped;
              receive = fits.receive ∙ r.receive;
              send = fits.send ∙ r.send;
              spelt = spelt;
              blank = blank;
              idle = idle;
              single = omega (arith, bound, k.bound);
              accepted = accepted;
            };
        bound = omega (arith, bound, k.bound);
      }

  sound_by : {real : Type 0} {e : Effect} {w' : World} → real → Fits w w' → Leaves w real e w' → Sound s w'
  sound_by real fits still = k
  sound_by real fits (shut o) = k
  sound_by real fits (feeds xs o spelt) =
      let t = fed_tidy w (good r) xs in kept fits refl (spelt real) t.blank t.idle (omega arith) r.accepted
  sound_by real fits (faults n i) = kept fits refl r.spelt r.blank r.idle (omega arith) r.accepted
  sound_by real fits (drops i n to m q held reads) =
      kept fits refl r.spelt r.blank r.idle (omega (arith, moved i to (row_of q))) (λ j some waiting. rw (r.accepted j some waiting))
  sound_by real fits (queues i to m xs q o free short room) =
      kept fits refl r.spelt r.blank r.idle (put_bound i to (length xs) q.agency (row_of q) short)
      (λ j some waiting. rw (put_accepted i (length xs) free j some waiting))
  sound_by real fits (serves i time bs o who q) =
      let less = fewer i (sending.much c i) (chosen_waiting c r.shaped i who).0 in
      kept fits refl r.spelt r.blank r.idle (omega (arith, less 0)) (λ j some waiting. r.accepted j some (omega (arith, less j)))

-- ---- open

-- what an open answered 0 leaves
pub opens_fresh : {s : Settings} {receive send : List ℕ} → Opened s receive send → (first s receive send).connection ≡ fresh s 1
unfolding open_of
opens_fresh {s} {receive} {send} o =
    cond_cases (λ (x : opening.Opened.Opened). x.number ≡ 0 → x.connection ≡ fresh s 1)
    (settings_ok s && (receive_store_ok s (length receive) && send_store_ok s (length send))) (λ t z. refl) (λ t z. absurd (omega arith)) o.done

sound_fresh : (s : Settings) (receive send : List ℕ) → Opened s receive send
    → Sound s (record { connection = fresh s 1; receive = receive; send = send })
sound_fresh s receive send o =
    let n = length receive in
    let m = length send in
    let (set, long, wide) = opening_laws.opens_done s n m o.done in
    let zero_at = zeros most in
    record {
      reached =
          record {
            settings = refl;
            ranged = subst (λ (c : Connection). in_range c ≡ true) (opens_fresh o) ((opening_laws.opening).opened s n m o.done);
            shaped =
                record {
                  receive = o.receives;
                  send = o.sends;
                  receive_starts = refl;
                  held = refl;
                  header = refl;
                  send_starts = refl;
                  waiting = refl;
                  states = refl;
                };
            receive = long;
            send = wide;
            spelt = spelt_empty;
            blank = blank_empty;
            idle = λ z. refl;
            single = omega (arith, zero_at 0);
            accepted = λ i some waiting. absurd (omega (arith, zero_at i));
          };
      bound = omega (arith, spare_first s.party.side s.limit);
    }

pub sound_first : (s : Settings) (receive send : List ℕ) → Opened s receive send → Sound s (first s receive send)
sound_first s receive send o =
    subst (λ (c : Connection). Sound s (record { connection = c; receive = receive; send = send })) (sym (opens_fresh o))
    (sound_fresh s receive send o)

-- ---- the theorem

pub sound_step : (s : Settings) (w : World) (c : Call) → Real c → Sound s w → Sound s (step w c).world
sound_step s w c real k = let d = done w (good k.reached) c in sound_by s w k real (d.fits real) d.leaves

pub sound_run : (s : Settings) (w : World) (cs : List Call) → AllReal cs → Sound s w → Sound s (run w cs)
unfolding run AllReal
sound_run s w [] a k = k
sound_run s w (c ∷ cs) (b, a) k = sound_run s (step w c).world cs a (sound_step s w c b k)

-- T10
pub in_range_for_ever : InRangeForEver
in_range_for_ever s receive send o cs a = (sound_run s (first s receive send) cs a (sound_first s receive send o)).reached

pub never_23 : Never23
never_23 s receive send o cs a c = (done _ (good (in_range_for_ever s receive send o cs a)) c).known
