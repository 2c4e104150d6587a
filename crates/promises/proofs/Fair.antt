-- T12: a byte that waits comes nearer with every segment. By m more segments of its instance, d steps from the turn to it, and z segments of
-- Handshake, each of which one of the segments made takes away.
-- Assumes nothing.
use mathlib.Core.Path.{◌≡◌, refl, sym, ap, subst, ◌∙◌}
use mathlib.Core.Bool.{true}
use mathlib.Core.List.{List, [], ◌∷◌, ◌++◌, flat_map}
use mathlib.Core.Logic.{◌≢◌}
use Prim.Native.Nat.{ℕ, zero, suc, ◌+◌, ◌-◌, ◌*◌, ◌/◌, ◌≤◌, ◌<◌}
use native.Mathlib.Omega.{arith}
use native.Mathlib.Nat.{lt-mul-div-succ, suc-mul, mul-suc}
use native.Mathlib.Numerals.{add-one}
use native.Mathlib.Decide.{ℕ_discrete, dec_lt}
use borrow.Author.Tests.{ne_eqb}
use lib.ListN.{length, get_or, length-append, length-take, length-drop, get_or-append}
use lib.ListN as list
use lib.Seq.{get_or-drop, get_or-take}
use Rattle.ring.proofs.Stores.{stream_length}
use Rattle.wire.specs.Instances.{instances}
use Rattle.wire.proofs.InstanceLaws.{at_least}
use Rattle.ready.specs.Ready.{turn_after}
use Rattle.std.specs.Prelude.{Option, Some, None}
use Rattle.ready.proofs.ReadyLaws.{nobody_waits}
use Rattle.connection.specs.declared.Settings.{Settings}
use Rattle.connection.specs.declared.Talk.{Talk}
use Rattle.connection.specs.Closings.{is_open}
use Rattle.range.proofs.RangeLaws.{ranged}
use Rattle.sending.specs.NextSegment.{chosen_of}
use Rattle.sending.specs.Besides.Numbers.{When, all_empty, done}
use Rattle.sending.proofs.NumberLaws as sending
use Rattle.promises.specs.Calls.{Call, World, step, run, AllReal, first}
use Rattle.promises.specs.Effects.{did, segments}
use Rattle.promises.specs.Reached.{waits, Reached}
use Rattle.promises.specs.Fairness.{queue, payload, Sent, enough, FairFrom, Serves, Fair}
use Rattle.promises.proofs.ReachedHandshake.{spare, spare_none}
use Rattle.promises.proofs.Effects.{good, reached_sends}
use Rattle.promises.proofs.Effects as effects
use Rattle.promises.proofs.Reached.{to_put, handshake, Sound, sound_first, sound_step, sound_run}
use Rattle.promises.proofs.FairRound.{rounds, reach, Found, it, nearer, chosen_found, chosen_zero}
use Rattle.promises.proofs.FairCalls.{Quiet, Served, share, Moves, quiet, served, moves}
use Rattle.promises.proofs.FairSent.{of_same, of_other, sent_now, sent_other, sent_later}

-- ---- queues

-- as many bytes wait as the queue has
waits_queue : (w : World) (i : ℕ) → length (queue w i) ≡ waits w i
waits_queue w i = stream_length w.send _ _ (get_or w.connection.sending.starts i 0) (waits w i)

same_waits : (w w' : World) (i : ℕ) → queue w' i ≡ queue w i → waits w' i ≡ waits w i
same_waits w w' i e = sym (waits_queue w' i) ∙ ap {A = List ℕ} length e ∙ waits_queue w i

-- the byte with p bytes in front of it
abbrev byte_at : World → ℕ → ℕ → ℕ
byte_at w i p = get_or (queue w i) p 0

-- it stays where the queue grows
record Stays (w w' : World) (i p : ℕ) : Type 0 where
  there : p < waits w' i
  same : byte_at w' i p ≡ byte_at w i p

stays : (s : Settings) (w w' : World) (i p : ℕ) → Quiet s w w' → i < instances s.party.bundle → p < waits w i → Stays w w' i p
stays s w w' i p q l h =
    let (xs, e) = q.grows i l in
    record {
      there = omega (arith, waits_queue w i, waits_queue w' i, ap {A = List ℕ} length e, length-append (queue w i) xs);
      same = ap (λ (bs : List ℕ). get_or bs p 0) e ∙ get_or-append (queue w i) xs 0 p (omega (arith, waits_queue w i));
    }

-- ---- what a segment takes away

-- byte p of instance i leaves within k segments: m more of i's own after the one in hand, d steps from the turn to i, z of Handshake
record Due (s : Settings) (w : World) (i p k : ℕ) : Type 0 where
  m : ℕ
  d : ℕ
  z : ℕ
  there : p < waits w i
  turns : p < s.limit * suc m
  near : rounds (instances s.party.bundle) d w.connection.sending.turn ≡ i
  short : d + 2 ≤ instances s.party.bundle
  bit : z ≤ 1
  fit : z ≡ 0 → handshake s w ≡ 0
  budget : (instances s.party.bundle - 1) * m + d + z + 1 ≤ k

module _ (s : Settings) (w w' : World) (i : ℕ) (some : 1 ≤ i) (inside : i < instances s.party.bundle) where
  due_quiet : {p k : ℕ} → Quiet s w w' → Due s w i p k → Due s w' i p k
  due_quiet {p} q D =
      record {
        m = D.m;
        d = D.d;
        z = D.z;
        there = (stays s w w' i p q inside D.there).there;
        turns = D.turns;
        near = ap (rounds (instances s.party.bundle) D.d) q.turn ∙ D.near;
        short = D.short;
        bit = D.bit;
        fit = λ e. omega (arith, q.bound, D.fit e);
        budget = D.budget;
      }

  module _ (j : ℕ) (bs : List ℕ) (q : Served s w w' j bs) where
    put_same : to_put s w' ≡ to_put s w
    put_same = ap (λ (t : Talk). spare s.party.side (get_or t.states 0 0) s.limit) q.talk

    -- a segment of another instance that brings i nearer, or that is Handshake's
    due_other : (p k z d : ℕ) (D : Due s w i p (suc k)) → i ≢ j → z ≤ 1 → (z ≡ 0 → handshake s w' ≡ 0)
        → rounds (instances s.party.bundle) d (turn_after (instances s.party.bundle) j w.connection.sending.turn) ≡ i → d + z < D.d + D.z → d + 2 ≤ instances s.party.bundle
        → Due s w' i p k
    due_other p k z d D ne bit fit near less short =
        record {
          m = D.m;
          d = d;
          z = z;
          there = rw (same_waits w w' i (q.others i ne)) D.there;
          turns = D.turns;
          near = ap (rounds (instances s.party.bundle) d) q.turn ∙ near;
          short = short;
          bit = bit;
          fit = fit;
          budget = omega (arith, D.budget);
        }

    -- Handshake's one segment
    due_zero : (p k : ℕ) → Sound s w → j ≡ 0 → 0 < waits w 0 → Due s w i p (suc k) → Due s w' i p k
    due_zero p k sound e has D =
        let none : to_put s w ≡ 0 = spare_none s.party.side _ s.limit (omega (arith, sound.bound)) in
        let cut : length (queue w' 0) ≡ length (queue w 0) - share s w 0 =
        subst (λ (n : ℕ). length (queue w' n) ≡ length (queue w n) - share s w n) e
        (ap {A = List ℕ} length q.rest ∙ length-drop (share s w j) (queue w j)) in
        let gone : waits w' 0 ≡ 0 = omega (arith, waits_queue w 0, waits_queue w' 0, sound.bound) in
        let one : 1 ≤ D.z = by_bit D.z D.fit in
        due_other p k 0 D.d D (λ same. omega arith) (omega arith) (λ _. omega (arith, put_same))
        (ap (λ (n : ℕ). rounds (instances s.party.bundle) D.d (turn_after (instances s.party.bundle) n w.connection.sending.turn)) e ∙ D.near) (omega arith) D.short
      where
        by_bit : (z : ℕ) → (z ≡ 0 → handshake s w ≡ 0) → 1 ≤ z
        by_bit zero fit = absurd (omega (arith, fit refl))
        by_bit (suc z) fit = omega arith

    -- what may come of Handshake stays where another is served
    handshake_same : j ≢ 0 → handshake s w' ≡ handshake s w
    handshake_same ne = omega (arith, put_same, same_waits w w' 0 (q.others 0 (λ e. ne (sym e))))

-- a segment of i's own has the front of its queue
module _ (s : Settings) (w w' : World) (i : ℕ) (bs : List ℕ) (q : Served s w w' i bs) where
  own_long : length (payload bs) ≡ share s w i
  own_long = ap {A = List ℕ} length q.front ∙ length-take (share s w i) (queue w i) ∙ omega (arith, waits_queue w i)

  own_left : waits w' i ≡ waits w i - share s w i
  own_left =
      sym (waits_queue w' i) ∙ ap {A = List ℕ} length q.rest ∙ length-drop (share s w i) (queue w i) ∙ omega (arith, waits_queue w i)

  -- the byte is in it
  own_now : (p : ℕ) (ss : List (List ℕ)) → p < waits w i → p < s.limit → Sent s.party i p (byte_at w i p) (bs ∷ ss)
  own_now p ss there lt =
      let within : p < share s w i = omega arith in
      sent_now s.party i (byte_at w i p) bs ss p (of_same s.party i bs q.mode q.protocol) q.whole (rw own_long within)
      (ap (λ (l : List ℕ). get_or l p 0) q.front ∙ get_or-take (share s w i) (queue w i) p 0 within)

-- the rest of the segments has every byte of i that is due
abbrev Rest : Settings → World → ℕ → List (List ℕ) → Type 0
Rest s w i ss = (p k : ℕ) → Due s w i p k → k ≤ length ss → Sent s.party i p (byte_at w i p) (list.take k ss)

-- one segment, and the rest
module _ (s : Settings) (w w' : World) (i : ℕ) (some : 1 ≤ i) (inside : i < instances s.party.bundle) (sound : Sound s w) (sound' : Sound s w')
    (ss : List (List ℕ)) (rest : Rest s w' i ss) where
  other_step : (j p k : ℕ) (bs : List ℕ) → Served s w w' j bs → i ≢ j → Due s w' i p k → k ≤ length ss
      → Sent s.party i p (byte_at w i p) (bs ∷ list.take k ss)
  other_step j p k bs q ne D h =
      sent_other s.party i (byte_at w i p) bs (list.take k ss) p
      (of_other s.party i j bs inside (rw sound.reached.settings at (sending.chosen_waiting _ sound.reached.shaped j q.who).0) ne q.mode q.protocol)
      (subst (λ (b : ℕ). Sent s.party i p b (list.take k ss)) (ap (λ (l : List ℕ). get_or l p 0) (q.others i ne)) (rest p k D h))

  -- a segment of i's own
  module _ (bs : List ℕ) (q : Served s w w' i bs) where
    -- the byte is not in it, and S bytes fewer are in front of it
    due_own : (p k : ℕ) → s.limit ≤ p → Due s w i p (suc k) → Due s w' i (p - s.limit) k
    due_own p k h D = go D.m D.turns D.budget
      where
        go : (m : ℕ) → p < s.limit * suc m → (instances s.party.bundle - 1) * m + D.d + D.z + 1 ≤ suc k → Due s w' i (p - s.limit) k
        go zero t b = absurd (omega arith)
        go (suc m) t b =
            let turn = (ranged w'.connection sound'.reached.ranged).turn in
            let r = reach (instances s.party.bundle) w'.connection.sending.turn i turn.0 (rw sound'.reached.settings at turn.1) some inside in
            record {
              m = m;
              d = r.0;
              z = D.z;
              there = omega (arith, own_left s w w' i bs q, D.there);
              turns = omega arith;
              near = r.2;
              short = r.1;
              bit = D.bit;
              fit = λ e. handshake_same s w w' i some inside i bs q (λ z. omega arith) ∙ D.fit e;
              budget = omega (arith, r.1);
            }

    own_step : (p k : ℕ) → Due s w i p (suc k) → k ≤ length ss → Sent s.party i p (byte_at w i p) (bs ∷ list.take k ss)
    own_step p k D h =
        elim (dec_lt p s.limit) [
          | yes lt ↦ own_now s w w' i bs q p (list.take k ss) D.there lt
          | no ge ↦
              let all : share s w i ≡ s.limit = omega (arith, D.there) in
              let same : byte_at w' i (p - s.limit) ≡ byte_at w i p =
              ap (λ (l : List ℕ). get_or l (p - s.limit) 0) q.rest ∙ get_or-drop (share s w i) (queue w i) (p - s.limit) 0
              ∙ ap (λ (n : ℕ). get_or (queue w i) n 0) (omega arith) in
              let long : length (payload bs) ≡ s.limit = own_long s w w' i bs q ∙ all in
              sent_later s.party i (byte_at w i p) bs (list.take k ss) p (of_same s.party i bs q.mode q.protocol) (rw long (omega arith))
              (rw (long, ← same) (rest (p - s.limit) k (due_own p k (omega arith) D) h))
        ]

  serve_step : (j p k : ℕ) (bs : List ℕ) → Served s w w' j bs → Due s w i p (suc k) → k ≤ length ss
      → Sent s.party i p (byte_at w i p) (bs ∷ list.take k ss)
  serve_step j p k bs q D h =
      let ws = sending.counts w.connection in
      let turn = w.connection.sending.turn in
      let long : length ws ≡ instances s.party.bundle = sending.counts_long w.connection sound.reached.shaped ∙ ap (λ (x : Settings). instances x.party.bundle) sound.reached.settings in
      let at : (n : ℕ) → n < instances s.party.bundle → get_or ws n 0 ≡ waits w n = λ n l. sending.counts_at w.connection n (rw sound.reached.settings l) in
      elim (dec_lt 0 (waits w 0)) [
        | yes has ↦
            let e : j ≡ 0 = chosen_zero ws turn j (omega (arith, at 0 (omega arith))) q.who in
            other_step j p k bs q (λ same. omega arith) (due_zero s w w' i some inside j bs q p k sound e has D) h
        | no none ↦
            by_found bs q
            (chosen_found ws (instances s.party.bundle) turn i D.d j long (omega (arith, at 0 (omega arith)))
            (ranged w.connection sound.reached.ranged).turn.0 D.near D.short (omega (arith, D.there, at i inside)) q.who)
      ]
    where
      by_found : {j : ℕ} (bs : List ℕ) → Served s w w' j bs → Found (instances s.party.bundle) i D.d j → Sent s.party i p (byte_at w i p) (bs ∷ list.take k ss)
      by_found bs q it = own_step bs q p k D h
      by_found bs q (nearer j e one lt r) = elim (ℕ_discrete i j) [
        | yes same ↦ own_step bs (subst (λ (n : ℕ). Served s w w' n bs) (sym same) q) p k D h
        | no ne ↦
            let on : rounds (instances s.party.bundle) e (turn_after (instances s.party.bundle) j w.connection.sending.turn) ≡ i = rw (ne_eqb j 0 (λ z. omega arith)) r in
            let same : handshake s w' ≡ handshake s w = handshake_same s w w' i some inside j bs q (λ z. omega arith) in
            other_step j p k bs q ne
            (due_other s w w' i some inside j bs q p k D.z e D ne D.bit (λ z. same ∙ D.fit z) on (omega arith) (omega (arith, D.short))) h
      ]

-- ---- one call, and the rest

by_move : (s : Settings) (w : World) (i : ℕ) → 1 ≤ i → i < instances s.party.bundle → {w' : World} {made : List (List ℕ)} → Moves s w w' made
    → Sound s w → Sound s w' → (ss : List (List ℕ)) → Rest s w' i ss → Rest s w i (made ++ ss)
by_move s w i some inside {w'} (quiet q) k k' ss rest p n D h =
    subst (λ (b : ℕ). Sent s.party i p b (list.take n ss)) (stays s w w' i p q inside D.there).same
    (rest p n (due_quiet s w w' i some inside q D) h)
by_move s w i some inside (served j bs q) k k' ss rest p zero D h = absurd (omega (arith, D.budget))
by_move s w i some inside {w'} (served j bs q) k k' ss rest p (suc n) D h = serve_step s w w' i some inside k k' ss rest j p n bs q D (omega arith)

-- a byte of instance 0 is in the very next segment
abbrev Next : Settings → World → List (List ℕ) → Type 0
Next s w ss = (p k : ℕ) → p < waits w 0 → suc k ≤ length ss → Sent s.party 0 p (byte_at w 0 p) (list.take (suc k) ss)

-- every bundle has an instance 0
zeroth_of : (s : Settings) (w : World) → Reached s w → 0 < instances s.party.bundle
zeroth_of s w r =
    let h : 2 ≤ instances w.connection.settings.party.bundle = at_least _ (ranged w.connection r.ranged).set.bundle in
    let l : 2 ≤ instances s.party.bundle = rw r.settings at h in
    omega arith

by_next : (s : Settings) (w : World) {w' : World} {made : List (List ℕ)} → Moves s w w' made
    → Sound s w → (ss : List (List ℕ)) → Next s w' ss → Next s w (made ++ ss)
by_next s w {w'} (quiet q) k ss rest p n there h =
    let t = stays s w w' 0 p q (zeroth_of s w k.reached) there in
    subst (λ (b : ℕ). Sent s.party 0 p b (list.take (suc n) ss)) t.same (rest p n t.there h)
by_next s w {w'} (served j bs q) k ss rest p n there h =
    let at = sending.counts_at w.connection 0 (rw k.reached.settings (zeroth_of s w k.reached)) in
    let e : j ≡ 0 = chosen_zero (sending.counts w.connection) w.connection.sending.turn j (omega (arith, at)) q.who in
    own_now s w w' 0 bs (subst (λ (m : ℕ). Served s w w' m bs) e q) p (list.take n ss) there (omega (arith, k.reached.single))

-- ---- the theorems, by what every call keeps

serves_always : (s : Settings) (w : World) → Reached s w → Serves s w
unfolding step
serves_always s w r =
    record {
      made = λ i l has o time buf room.
          let (j, who) = somebody i (rw r.settings l) has (chosen_of w.connection) refl in
          (sending.exactly w.connection w.send time buf r.shaped 0).1
          (done (reached_sends r, o) who (omega (arith, ap (λ (x : Settings). x.limit) r.settings)));
      nothing = λ time buf.
          let q = sending.exactly w.connection w.send time buf r.shaped 4 in
          (λ e. empty (q.0 e), λ (o, none). q.1 (all_empty (reached_sends r, o) (λ i l. none i (rw r.settings at l))));
    }
  where
    empty : {buf : List ℕ} → When w.connection w.send buf 4 → (is_open w.connection.gate ≡ true) × ((i : ℕ) → i < instances s.party.bundle → waits w i ≡ 0)
    empty (all_empty (fit, o) none) = (o, λ i l. none i (rw r.settings l))

    somebody : (i : ℕ) → i < instances w.connection.settings.party.bundle → 0 < waits w i → (x : Option ℕ) → chosen_of w.connection ≡ x
        → (j : ℕ) × (chosen_of w.connection ≡ Some j)
    somebody i l has (Some j) e = (j, e)
    somebody i l has None e =
        let ws = sending.counts w.connection in
        let t = (ranged w.connection r.ranged).turn in
        let n = sending.counts_long w.connection r.shaped in
        absurd (omega (arith, (nobody_waits ws w.connection.sending.turn t.0 (omega (arith, t.1, n))).0 e i (omega (arith, n)), sending.counts_at w.connection i l))

due : (s : Settings) (i : ℕ) → 1 ≤ i → i < instances s.party.bundle → (cs : List Call) (w : World) → AllReal cs → Sound s w
    → Rest s w i (segments (did w cs))
unfolding segments did AllReal flat_map
due s i some inside [] w a k = λ p n D h. absurd (omega (arith, D.budget))
due s i some inside (c ∷ cs) w (b, a) k =
    let k' = sound_step s w c b k in
    by_move s w i some inside (moves s w k b (effects.done w (good k.reached) c).leaves) k k' (segments (did (step w c).world cs)) (due s i some inside cs (step w c).world a k')

zeroth : (s : Settings) (cs : List Call) (w : World) → AllReal cs → Sound s w → Next s w (segments (did w cs))
unfolding segments did AllReal flat_map
zeroth s [] w a k = λ p n there h. absurd (omega arith)
zeroth s (c ∷ cs) w (b, a) k =
    by_next s w (moves s w k b (effects.done w (good k.reached) c).leaves) k (segments (did (step w c).world cs))
    (zeroth s cs (step w c).world a (sound_step s w c b k))

-- m + 1 rounds of n segments are enough
enough_so : (n m d : ℕ) → d + 2 ≤ n → (n - 1) * m + d + 1 + 1 ≤ n * (m + 1)
enough_so zero m d h = absurd (omega arith)
enough_so (suc n) m d h =
    let one : suc n - 1 ≡ n = omega arith in
    let all : suc n * (m + 1) ≡ n * suc m + suc m = rw (add-one m) (suc-mul n (suc m)) in
    rw (one, all) (omega (arith, mul-suc n m))

fair_from : (s : Settings) (w : World) → Sound s w → FairFrom s w
fair_from s w k zero p l there cs a h =
    let n = enough s p in
    let ss = segments (did w cs) in
    let e : suc (n - 1) ≡ n = omega arith in
    subst (λ (m : ℕ). Sent s.party 0 p (byte_at w 0 p) (list.take m ss)) e (zeroth s cs w a k p (n - 1) there (omega arith))
fair_from s w k (suc i) p l there cs a h =
    let r = ranged w.connection k.reached.ranged in
    let (d, short, near) = reach (instances s.party.bundle) w.connection.sending.turn (suc i) r.turn.0 (rw k.reached.settings at r.turn.1) (omega arith) l in
    let pos : 1 ≤ s.limit = omega (arith, r.set.limit.0, ap (λ (x : Settings). x.limit) k.reached.settings) in
    due s (suc i) (omega arith) l cs w a k p (enough s p)
    (record {
      m = p / s.limit;
      d = d;
      z = 1;
      there = there;
      turns = rw (← add-one (p / s.limit)) (lt-mul-div-succ p pos);
      near = near;
      short = short;
      bit = omega arith;
      fit = λ e. absurd (omega arith);
      budget = enough_so (instances s.party.bundle) (p / s.limit) d short;
    })
    h

-- T12
pub fair : Fair
fair s receive send o cs a =
    let k = sound_run s (first s receive send) cs a (sound_first s receive send o) in
    (fair_from s (run (first s receive send) cs) k, serves_always s (run (first s receive send) cs) k.reached)
