-- Laws of feeding bytes: a run is fed whole or cut; payload bytes one after the other are kept as a run; the steps of
-- feed's loop.
-- Assumes nothing.
use Rattle.std.specs.Prelude.{Ok, Err}
use mathlib.Core.Path.{◌≡◌, refl, sym, ap, ◌∙◌, subst}
use mathlib.Core.Bool.{true, false}
use mathlib.Core.List.{List, [], ◌∷◌, ◌++◌}
use Prim.Native.Nat.{ℕ, suc, ◌+◌, ◌-◌, ◌≤◌, ◌<◌}
use native.Mathlib.Omega.{arith}
use native.Mathlib.Nat.{add-zero, zero-add}
use borrow.Author.Tests.{eq-eqb, ne_eqb, leb-true}
use lib.Dec.{eqb, leb}
use lib.ListN.{length, get_or, set, drop, length-set, take-append-drop, drop_of_length-le}
use lib.Seq.{get_or-set_same, set-set, drop-cons, drop-drop}
use Rattle.base.proofs.Conds.{by_test, cond_cases, and_equal}
use Rattle.ring.specs.Ring.{run, base_of, laid}
use Rattle.ring.proofs.Runs.{run_length}
use Rattle.ring.proofs.Stores.{laid_length}
use Rattle.ring.proofs.Areas.{area_in_store}
use Rattle.wire.specs.declared.segment.Header.{Header}
use Rattle.wire.specs.declared.instances.Party.{Party}
use Rattle.wire.specs.Instances.{Route}
use Rattle.wire.specs.Segments.{header_length, added, decoded}
use Rattle.wire.specs.Instances.{instances, most, route_of}
use Rattle.wire.specs.Inside.{Within}
use Rattle.wire.proofs.InstanceLaws.{at_most, route_within}
use Rattle.connection.specs.declared.Gate.{Gate}
use Rattle.connection.specs.declared.Gate.TheVariants.{Open, Closed}
use Rattle.connection.specs.declared.Connection.{Connection}
use Rattle.connection.specs.Areas.{laid_in}
use Rattle.connection.specs.Closings.{is_open}
use Rattle.range.specs.Ranges.{in_range, receives}
use Rattle.range.proofs.RangeLaws.{Ranged, ranged}
use Rattle.range.proofs.StoreLaws.{area_of}
use Rattle.admitting.specs.Admitting.{Admission}
use Rattle.admitting.specs.declared.Way.{Way}
use Rattle.admitting.specs.declared.Step.{Step}
use Rattle.feeding.specs.Feeding.{Reception, admitted, admission, instance_for, settled, headed, kept, step, fed, used}
use Rattle.feeding.specs.Feeding.{told, refused, given, answered, feed_open, feed_of}
use Rattle.admitting.specs.Inside.{reception, Heads}
use Rattle.feeding.specs.Inside.{Placed, Sound, Under, Lays, Steps}

pub open_is : (g : Gate) → is_open g ≡ true → g ≡ Open
open_is Open e = refl
open_is (Closed x) e = cc

-- ---- one byte

module _ (us : Party) (caps : List ℕ) where
  pub step_closed : (s : Reception) (x : ℕ) → is_open s.gate ≡ false → step us caps s x ≡ s
  unfolding step
  step_closed s x g = rw g

  pub step_headed : (s : Reception) (x : ℕ) → is_open s.gate ≡ true → s.receiving.rest ≡ 0 → step us caps s x ≡ headed us caps s x
  unfolding step
  step_headed s x g z = rw (g, eq-eqb s.receiving.rest 0 z)

  pub step_kept : (s : Reception) (x : ℕ) → is_open s.gate ≡ true → 0 < s.receiving.rest → step us caps s x ≡ kept caps s (x ∷ [])
  unfolding step
  step_kept s x g h = rw (g, ne_eqb s.receiving.rest 0 (λ e. omega arith))

  -- ---- a run

  -- a closed connection takes nothing
  pub fed_closed : (s : Reception) (xs : List ℕ) → is_open s.gate ≡ false → fed us caps s xs ≡ s
  unfolding fed
  fed_closed s [] g = refl
  fed_closed s (x ∷ xs) g = ap (λ (t : Reception). fed us caps t xs) (step_closed s x g) ∙ fed_closed s xs g

  pub used_closed : (s : Reception) (xs : List ℕ) → is_open s.gate ≡ false → used us caps s xs ≡ 0
  unfolding used
  used_closed s [] g = refl
  used_closed s (x ∷ xs) g = rw g

  -- the bytes of a run in two parts
  pub fed_append : (s : Reception) (xs ys : List ℕ) → fed us caps s (xs ++ ys) ≡ fed us caps (fed us caps s xs) ys
  unfolding fed
  fed_append s [] ys = refl
  fed_append s (x ∷ xs) ys = fed_append (step us caps s x) xs ys

  pub used_append : (s : Reception) (xs ys : List ℕ)
      → used us caps s (xs ++ ys) ≡ used us caps s xs + used us caps (fed us caps s xs) ys
  unfolding fed used
  used_append s [] ys = sym (zero-add (used us caps s ys))
  used_append s (x ∷ xs) ys =
      by_test (is_open s.gate) (λ g. rw g (omega (arith, used_append (step us caps s x) xs ys)))
      (λ g.
      let one : step us caps s x ≡ s = step_closed s x g in
      let stays : fed us caps (step us caps s x) xs ≡ s = fed_closed (step us caps s x) xs (rw one g) ∙ one in
      rw (g, stays, used_closed s ys g))

  -- ---- a payload

  kept_more : (s : Reception) (x : ℕ) (xs : List ℕ) → 1 < s.receiving.rest → s.receiving.instance < length s.receiving.held
      → kept caps (kept caps s (x ∷ [])) xs ≡ kept caps s (x ∷ xs)
  unfolding kept laid
  kept_more s x xs h l =
      let i = s.receiving.instance in
      let held = s.receiving.held in
      let rest = s.receiving.rest in
      let start = get_or s.receiving.starts i 0 in
      let more : eqb (rest - 1) 0 ≡ false = ne_eqb (rest - 1) 0 (λ e. omega arith) in
      let now : get_or (set held i (get_or held i 0 + 1)) i 0 ≡ get_or held i 0 + 1 = get_or-set_same held i (get_or held i 0 + 1) 0 l in
      let count : get_or held i 0 + 1 + length xs ≡ get_or held i 0 + suc (length xs) = omega arith in
      let less : rest - 1 - length xs ≡ rest - suc (length xs) = omega arith in
      let next : start + (get_or held i 0 + 1) ≡ suc (start + get_or held i 0) = omega arith in
      rw (more, now, set-set, count, less, next)

  kept_many : (s : Reception) (xs : List ℕ) → length (kept caps s xs).receiving.held ≡ length s.receiving.held
  unfolding kept
  kept_many s xs = simp length-set

  kept_on : (s : Reception) (xs : List ℕ) → length xs < s.receiving.rest
      → ((kept caps s xs).gate ≡ s.gate)
      × ((kept caps s xs).receiving.rest ≡ s.receiving.rest - length xs)
      × ((kept caps s xs).receiving.instance ≡ s.receiving.instance)
  unfolding kept
  kept_on s xs h = (refl, refl, rw (ne_eqb (s.receiving.rest - length xs) 0 (λ e. omega arith)))

  -- payload bytes fed one after the other are kept as a run
  pub fed_kept : (s : Reception) (xs ys : List ℕ) → is_open s.gate ≡ true → 0 < length xs → length xs ≤ s.receiving.rest
      → s.receiving.instance < length s.receiving.held
      → (fed us caps s (xs ++ ys) ≡ fed us caps (kept caps s xs) ys)
      × (used us caps s (xs ++ ys) ≡ length xs + used us caps (kept caps s xs) ys)
  unfolding fed used
  fed_kept s [] ys g p l h = absurd (omega arith)
  fed_kept s (x ∷ []) ys g p l h =
      let one : step us caps s x ≡ kept caps s (x ∷ []) = step_kept s x g (omega arith) in
      (ap (λ (t : Reception). fed us caps t ys) one, rw (g, one) (omega arith))
  fed_kept s (x ∷ y ∷ xs) ys g p l h =
      let s1 : Reception = kept caps s (x ∷ []) in
      let one : step us caps s x ≡ s1 = step_kept s x g (omega arith) in
      let on = kept_on s (x ∷ []) (omega arith) in
      let many : length s1.receiving.held ≡ length s.receiving.held = kept_many s (x ∷ []) in
      let h1 : s1.receiving.instance < length s1.receiving.held = rw (on.2, many) h in
      let l1 : length (y ∷ xs) ≤ s1.receiving.rest = omega (arith, on.1) in
      let rest = fed_kept s1 (y ∷ xs) ys (rw on.0 g) (omega arith) l1 h1 in
      let all : kept caps s1 (y ∷ xs) ≡ kept caps s (x ∷ y ∷ xs) = kept_more s x (y ∷ xs) (omega arith) h in
      let after : used us caps (kept caps s1 (y ∷ xs)) ys ≡ used us caps (kept caps s (x ∷ y ∷ xs)) ys =
      ap (λ (t : Reception). used us caps t ys) all in (
        ap (λ (t : Reception). fed us caps t (y ∷ xs ++ ys)) one ∙ rest.0 ∙ ap (λ (t : Reception). fed us caps t ys) all,
        rw (g, one) (omega (arith, rest.1, after)),
      )

-- ---- a run of payload bytes, as the code goes

pub lays : (caps starts held : List ℕ) (w : Way) (store store' xs : List ℕ) (at n i : ℕ) → 0 < n → at + n ≤ length xs → n ≤ w.rest
    → store' ≡ laid_in caps store w.instance (get_or starts w.instance 0 + get_or held w.instance 0) (run xs at n)
    → i ≡ instance_for (w.rest - n) w.instance
    → Lays caps starts held (set held w.instance (get_or held w.instance 0 + n)) w store store' xs at
    (record { way = record { header = w.header; instance = i; rest = w.rest - n }; gate = Open; used = n })
unfolding kept
lays caps starts held w store store' xs at n i more ends within e f =
    let long : length (run xs at n) ≡ n = run_length xs at n ends in
    record { some = more; ends = ends; within = within; leaves = rw (long, e, f) }

-- ---- what feeding rests on stays

sound_settled : (b : ℕ) (caps : List ℕ) (s : Reception) (n : ℕ) (r : Route) → Within b r → Sound b caps s
    → Sound b caps (settled s (admitted caps s.receiving.held n r))
sound_settled b caps s n (Err e) w r =
    record { areas = r.areas; many = r.many; under = r.under }
sound_settled b caps s n (Ok i) w r =
    cond_cases (λ (a : Admission). Sound b caps (settled s a)) (leb (get_or s.receiving.held i 0 + n) (get_or caps i 0))
    (λ e.
    record {
      areas = r.areas;
      many = r.many;
      under = λ more. rw (ne_eqb n 0 (λ z. omega arith)) (w, leb-true (get_or s.receiving.held i 0 + n) (get_or caps i 0) e);
    })
    (λ e. record { areas = r.areas; many = r.many; under = r.under })

pub sound_admission : (us : Party) (caps : List ℕ) (s : Reception) (h : Header) → Sound us.bundle caps s
    → Sound us.bundle caps (settled s (admission us caps s.receiving.held h))
unfolding admission
sound_admission us caps s h r =
    let d = decoded h.bytes in
    sound_settled us.bundle caps s d.len (route_of us d.protocol d.mode) (route_within us d.protocol d.mode) r

pub sound_headed : (us : Party) (caps : List ℕ) (s : Reception) (x : ℕ) → Sound us.bundle caps s → Sound us.bundle caps (headed us caps s x)
unfolding headed
sound_headed us caps s x r =
    let h = added s.receiving.header x in
    cond_cases (Sound us.bundle caps) (leb header_length h.count)
    (λ e. sound_admission us caps s h r)
    (λ e. record { areas = r.areas; many = r.many; under = r.under })

pub sound_kept : (b : ℕ) (caps : List ℕ) (s : Reception) (xs : List ℕ) → Sound b caps s → 0 < s.receiving.rest → length xs ≤ s.receiving.rest
    → Sound b caps (kept caps s xs)
unfolding kept
sound_kept b caps s xs r more l =
    let i = s.receiving.instance in
    let held = s.receiving.held in
    let u = r.under more in
    let now : get_or (set held i (get_or held i 0 + length xs)) i 0 ≡ get_or held i 0 + length xs =
    get_or-set_same held i (get_or held i 0 + length xs) 0 (omega (arith, u.0, at_most b, r.many)) in
    record {
      areas = laid_length s.store (base_of caps i) (get_or caps i 0) (get_or s.receiving.starts i 0 + get_or held i 0) xs ∙ r.areas;
      many = length-set held i (get_or held i 0 + length xs) ∙ r.many;
      under = λ still. rw (ne_eqb (s.receiving.rest - length xs) 0 (λ z. omega arith)) (u.0, omega (arith, u.1, now));
    }

-- a payload under way has its area, and room there
pub sound_under : {b : ℕ} {caps starts held : List ℕ} {w : Way} {store : List ℕ} → Placed b caps starts
    → Sound b caps (reception starts held w Open store) → 0 < w.rest
    → Under b caps held w (length store)
sound_under {b} {caps} {w = w} {store} p r more =
    let u = r.under more in
    let e = p w.instance u.0 in
    record {
      inside = u.0;
      area = area_of caps (length store) w.instance (omega (arith, e.0)) (area_in_store store caps _ (instances b) r.areas u.0);
      more = more;
      room = u.1;
    }

-- ---- the steps of feed's loop

module _ {us : Party} {caps starts held : List ℕ} {w : Way} {store xs : List ℕ} {at : ℕ} {t : Step}
    (r : Sound us.bundle caps (reception starts held w Open store)) where
  -- a header byte
  pub steps_header : at < length xs → w.rest ≡ 0 → Heads us caps held w (get_or xs at 0) t
      → Steps us caps starts held held w store store xs at t
  unfolding fed used
  steps_header h z k =
      let s : Reception = reception starts held w Open store in
      let n : Reception = reception starts held t.way t.gate store in
      let leads : step us caps s (get_or xs at 0) ≡ n = step_headed us caps s (get_or xs at 0) refl z ∙ sym (k.leaves starts store) in
      let e : suc at ≡ at + t.used = omega (arith, k.one) in
      record {
        some = omega (arith, k.one);
        ends = omega (arith, k.one);
        leaves =
            ap (λ (l : List ℕ). fed us caps s l) (drop-cons xs at 0 h)
            ∙ ap (λ (m : Reception). fed us caps m (drop (suc at) xs)) leads
            ∙ ap (λ (m : ℕ). fed us caps n (drop m xs)) e;
        counts =
            ap (λ (l : List ℕ). used us caps s l) (drop-cons xs at 0 h)
            ∙ ap (λ (m : Reception). suc (used us caps m (drop (suc at) xs))) leads
            ∙ ap (λ (m : ℕ). suc (used us caps n (drop m xs))) e
            ∙ omega (arith, k.one);
        sound = subst (Sound us.bundle caps) (sym (k.leaves starts store)) (sound_headed us caps s (get_or xs at 0) r);
      }

  -- a run of bytes whose law says to which reception it leads
  pub steps_run : {held' store' : List ℕ} (m : Reception) → 0 < t.used → at + t.used ≤ length xs
      → reception starts held' t.way t.gate store' ≡ m → Sound us.bundle caps m
      → ((ys : List ℕ)
      → (fed us caps (reception starts held w Open store) (run xs at t.used ++ ys) ≡ fed us caps m ys)
      × (used us caps (reception starts held w Open store) (run xs at t.used ++ ys) ≡ length (run xs at t.used) + used us caps m ys))
      → Steps us caps starts held held' w store store' xs at t
  steps_run {held'} {store'} m more ends leads ready law =
      let s : Reception = reception starts held w Open store in
      let p : List ℕ = run xs at t.used in
      let behind : List ℕ = drop (at + t.used) xs in
      let long : length p ≡ t.used = run_length xs at t.used ends in
      let cut : drop at xs ≡ p ++ behind = sym (take-append-drop t.used (drop at xs)) ∙ ap (λ (l : List ℕ). p ++ l) (drop-drop t.used at xs) in
      let all = law behind in
      record {
        some = more;
        ends = ends;
        leaves = ap (λ (l : List ℕ). fed us caps s l) cut ∙ all.0 ∙ ap (λ (n : Reception). fed us caps n behind) (sym leads);
        counts =
            ap (λ (l : List ℕ). used us caps s l) cut ∙ all.1
            ∙ ap (λ (n : Reception). length p + used us caps n behind) (sym leads)
            ∙ ap (λ (n : ℕ). n + used us caps (reception starts held' t.way t.gate store') behind) long;
        sound = subst (Sound us.bundle caps) (sym leads) ready;
      }

  -- a run of payload bytes
  pub steps_kept : {held' store' : List ℕ} → 0 < w.rest → Lays caps starts held held' w store store' xs at t
      → Steps us caps starts held held' w store store' xs at t
  steps_kept more k =
      let s : Reception = reception starts held w Open store in
      let p : List ℕ = run xs at t.used in
      let long : length p ≡ t.used = run_length xs at t.used k.ends in
      steps_run (kept caps s p) k.some k.ends k.leaves (sound_kept us.bundle caps s p r more (omega (arith, k.within)))
      (λ ys. fed_kept us caps s p ys refl (omega (arith, k.some)) (omega (arith, k.within)) (omega (arith, (r.under more).0, at_most us.bundle, r.many)))

-- the loop: what is left to feed leaves what all of it does
pub record Running (us : Party) (caps : List ℕ) (s₀ : Reception) (xs : List ℕ) (s : Reception) (at : ℕ) : Type 0 where
  pub ends : at ≤ length xs
  pub long : length s.store ≡ length s₀.store
  pub sound : Sound us.bundle caps s
  pub leaves : fed us caps s₀ xs ≡ fed us caps s (drop at xs)
  pub counts : used us caps s₀ xs ≡ at + used us caps s (drop at xs)

module _ {us : Party} {caps : List ℕ} {s₀ : Reception} {xs starts held : List ℕ} {w : Way} {store : List ℕ} {at : ℕ}
    (v : Running us caps s₀ xs (reception starts held w Open store) at) where
  pub run_more : {held' store' : List ℕ} {t : Step} → Steps us caps starts held held' w store store' xs at t → is_open t.gate ≡ true
      → Running us caps s₀ xs (reception starts held' t.way Open store') (at + t.used)
  run_more {held'} {store'} {t} k g =
      subst (λ (o : Gate). Running us caps s₀ xs (reception starts held' t.way o store') (at + t.used)) (open_is t.gate g)
      (record {
        ends = k.ends;
        long = k.sound.areas ∙ sym v.sound.areas ∙ v.long;
        sound = k.sound;
        leaves = v.leaves ∙ k.leaves;
        counts = omega (arith, v.counts, k.counts);
      })

  -- at the byte that closes
  pub run_shut : {held' store' : List ℕ} {t : Step} → Steps us caps starts held held' w store store' xs at t → is_open t.gate ≡ false
      → (reception starts held' t.way t.gate store' ≡ fed us caps s₀ xs) × (at + t.used ≡ used us caps s₀ xs)
  run_shut {held'} {store'} {t} k g =
      let n : Reception = reception starts held' t.way t.gate store' in
      let behind : List ℕ = drop (at + t.used) xs in (
        sym (v.leaves ∙ k.leaves ∙ fed_closed us caps n behind g),
        omega (arith, v.counts, k.counts, used_closed us caps n behind g),
      )

  -- at the end of the run
  pub run_end : length xs ≤ at → (reception starts held w Open store ≡ fed us caps s₀ xs) × (at ≡ used us caps s₀ xs)
  unfolding fed used
  run_end h =
      let e : drop at xs ≡ [] = drop_of_length-le xs h in
      let s : Reception = reception starts held w Open store in (
        sym (v.leaves ∙ ap (λ (l : List ℕ). fed us caps s l) e),
        sym (v.counts ∙ ap (λ (l : List ℕ). at + used us caps s l) e ∙ add-zero at),
      )

-- ---- a call, as the code goes

-- a record in range and its store are ready
pub sound_given : (c : Connection) (st : List ℕ) → receives c (length st) ≡ true → length c.receiving.held ≡ most
    → Sound c.settings.party.bundle c.settings.receive (given c st)
sound_given c st e many =
    let p = and_equal {a = in_range c} e in
    let k : Ranged c = ranged c p.0 in
    record {
      areas = p.1;
      many = many;
      under = λ more. let (none, inside, fit) = k.under_way more in (inside, fit);
    }

pub placed_given : (c : Connection) → in_range c ≡ true → Placed c.settings.party.bundle c.settings.receive c.receiving.starts
placed_given c e = let k : Ranged c = ranged c e in λ i h. ((k.receiving i h).0, (k.set.receive i h).1)

-- the parts of a record that is open
pub open_parts : (c : Connection) (st : List ℕ) → c.gate ≡ Open
    → let r = c.receiving in
    let w : Way = record { header = r.header; instance = r.instance; rest = r.rest } in
    reception r.starts r.held w Open st ≡ given c st
open_parts c st o = ap (λ (g : Gate). record { receiving = c.receiving; gate = g; store = st }) (sym o)

pub open_by : (c : Connection) (st xs : List ℕ) (n : ℕ) (s s₀ : Reception) → s₀ ≡ given c st
    → s ≡ fed c.settings.party c.settings.receive s₀ xs
    → n ≡ used c.settings.party c.settings.receive s₀ xs → answered c n s ≡ feed_open c st xs
unfolding feed_open
open_by c st xs n s s₀ e f g = rw (f, g, e)

-- the ways out
module _ (c : Connection) (st xs : List ℕ) where
  pub feed_range : receives c (length st) ≡ false → feed_of c st xs ≡ told (refused c 23) st
  unfolding feed_of
  feed_range e = rw e

  pub feed_closed : receives c (length st) ≡ true → is_open c.gate ≡ false → feed_of c st xs ≡ told (refused c 20) st
  unfolding feed_of
  feed_closed e g = rw (e, g)

  pub feed_open_lem : receives c (length st) ≡ true → is_open c.gate ≡ true → feed_of c st xs ≡ feed_open c st xs
  unfolding feed_of
  feed_open_lem e g = rw (e, g)
