-- T9 (c), by the history of each end (T11): what was put is what was sent and what waits, what was sent is what came and what is on the way, and
-- what came is what was dropped and what is held. So a message that is next at the other end is first among what is held, and is shown and dropped.
-- Assumes nothing.
use mathlib.Core.Path.{◌≡◌, refl, sym, ap, subst, ◌∙◌}
use mathlib.Core.Bool.{Bool}
use mathlib.Core.List.{List, [], ◌∷◌, ◌++◌, append_assoc, flat_map, flatten}
use Prim.Native.Nat.{ℕ, ◌≤◌, ◌<◌}
use native.Mathlib.Omega.{arith}
use lib.Dec.{T, ltb, ltb→lt}
use lib.ListN.{length, take, drop}
use lib.Seq.{take_at, drop_at, take-append-le}
use Rattle.base.proofs.Table.{every}
use Rattle.wire.specs.declared.instances.Party.{Party}
use Rattle.wire.specs.declared.instances.Side.TheVariants.{Dialler}
use Rattle.wire.specs.declared.instances.Role.TheVariants.{Initiator}
use Rattle.wire.specs.Instances.{Instance, bundles, bundle_of, instances, protocol_of, mode_of, find}
use Rattle.wire.specs.Besides.Instances.{other_of, pair_of}
use Rattle.wire.proofs.InstanceLaws.{of_instances, one_way}
use Rattle.rows.specs.declared.Protocol.{Protocol}
use Rattle.rows.specs.Spoken.{spoken, speaks}
use Rattle.messages.specs.Reading.{message_of, said_in}
use Rattle.judging.specs.Besides.Judging.{leads_to}
use Rattle.hearing.specs.Hearing.{seen}
use Rattle.promises.specs.Effects.{gave, acts, segments}
use Rattle.promises.specs.Fairness.{queue}
use Rattle.promises.specs.History.{put_by, put_for, received_in, Spelled}
use Rattle.connection.specs.declared.Settings.{Settings}
use Rattle.promises.specs.Besides.Arrival.{End, facing, past_of, world_of, holding, Arrives, Glued, AllThere, Journey}
use Rattle.promises.proofs.Reached.{in_range_for_ever}
use Rattle.promises.proofs.HistoryLaws.{flat_append}
use Rattle.promises.proofs.HistoryItems.{spelled_long}
use Rattle.promises.proofs.History.{history}
use Rattle.promises.proofs.ArrivalSegments.{all_made, came}
use Rattle.promises.proofs.ArrivalBuilt.{built_arrives}

-- ---- the instance that one talks with

within : ℕ → ℕ → Instance → Bool
within bundle i x = ltb (pair_of bundle i) (instances bundle)

all_within : T (every [] (λ b xs. every (record { protocol = 0; role = Initiator }) (within b) 0 xs) 0 bundles)
unfolding within find pair_of bundle_of instances
all_within = tt

pair_within : (bundle i : ℕ) → i < instances bundle → pair_of bundle i < instances bundle
unfolding within
pair_within bundle i l = ltb→lt (pair_of bundle i) (instances bundle) (of_instances within all_within bundle i l)

-- it speaks the same protocol
pair_speaks : (bundle i : ℕ) → i < instances bundle → speaks bundle (pair_of bundle i) ≡ speaks bundle i
unfolding speaks
pair_speaks bundle i l =
    let us : Party = record { bundle = bundle; side = Dialler } in
    ap spoken (sym ((one_way (other_of us)).only (protocol_of bundle i) (mode_of us i) (pair_of bundle i) ((one_way us).arrives i l)).0)

-- ---- what was put is there, in flight, or waits

pub glued : Glued
glued a b way j i l =
    let put-so = (history a.settings a.receive a.send a.opened a.calls a.real).0.sends.put i l in
    let r = (history b.settings b.receive b.send b.opened b.calls b.real).0.receives in
    let us = a.settings.party in
    let k = came us i l r.divided (segments (past_of a)) way (all_made a.opened a.calls a.real) j.bytes in
    let m = r.messages (facing a i) (rw j.parties (pair_within us.bundle i l)) in
    let there : received_in (other_of us) (facing a i) r.carried r.left ≡ flatten m.messages ++ holding (world_of b) (facing a i) =
    ap (λ (them : Party). received_in them (facing a i) r.carried r.left) (sym j.parties) ∙ m.split in
    let same : speaks b.settings.party.bundle (facing a i) ≡ speaks us.bundle i =
    ap (λ (them : Party). speaks them.bundle (facing a i)) j.parties ∙ pair_speaks us.bundle i l in (
      k.flight,
      record {
        messages = m.messages;
        spelled = subst (λ (p : Protocol). Spelled p (acts (facing a i) (past_of b)) m.messages) same m.spelled;
        put = put-so ∙ ap (λ (xs : List ℕ). xs ++ queue (world_of a) i) (k.sent ∙ ap (λ (xs : List ℕ). xs ++ k.flight) there);
      },
      k.few,
    )

pub all_there : AllThere
all_there a b j i l =
    let (flight, k, few) = glued a b [] j i l in subst (Arrives a b i) (none flight few) k
  where
    none : (xs : List ℕ) → length xs ≤ 0 → xs ≡ []
    none [] h = refl
    none (x ∷ xs) h = absurd (omega arith)

-- ---- the journey

-- the bundle is that of open
settled : (e : End) → (world_of e).connection.settings.party.bundle ≡ e.settings.party.bundle
settled e = ap (λ (s : Settings). s.party.bundle) (in_range_for_ever e.settings e.receive e.send e.opened e.calls e.real).settings

pub journey : Journey
unfolding put_for flat_map
journey a b way i p bs d =
    let (flight, k, few) = glued a b way d.joined i d.within in
    let front : List ℕ = flat_map put_by d.before in
    let dropped : List ℕ = flatten k.messages in
    let held : List ℕ = holding (world_of b) (facing a i) in
    let more : List ℕ = flat_map put_by d.behind in
    let rest : List ℕ = flight ++ queue (world_of a) i in
    let put : put_for i (past_of a) ≡ front ++ (bs ++ more) = ap (flat_map put_by) d.put ∙ flat_append put_by d.before (gave bs ∷ d.behind) in
    let both : front ++ (bs ++ more) ≡ dropped ++ (held ++ rest) =
    sym put ∙ k.put ∙ append_assoc (dropped ++ held) flight (queue (world_of a) i) ∙ append_assoc dropped held rest in
    let long : length dropped ≡ length front = sym (d.dropped ∙ spelled_long k.spelled) in
    let same : bs ++ more ≡ held ++ rest =
    sym (drop_at front (bs ++ more) (length front) refl) ∙ ap (drop (length front)) both ∙ drop_at dropped (held ++ rest) (length front) long in
    let bundle = a.settings.party.bundle in
    let speaks-so : speaks (world_of b).connection.settings.party.bundle (pair_of bundle i) ≡ speaks bundle i =
    ap (λ (n : ℕ). speaks n (pair_of bundle i)) (settled b ∙ ap (λ (them : Party). them.bundle) d.joined.parties) ∙ pair_speaks bundle i d.within in
    built_arrives bundle i p bs d.built (world_of b) (pair_of bundle i) speaks-so
    (record {
      asked = d.asked;
      awaited = d.awaited;
      held =
          sym (take-append-le (length bs) held rest (omega (arith, d.come))) ∙ ap (take (length bs)) (sym same) ∙ take_at bs more (length bs) refl;
      next = d.next;
      row =
          ap (λ (q : Protocol). leads_to (seen (world_of b).connection (world_of b).receive (pair_of bundle i)) (said_in (message_of q bs))) speaks-so ∙ d.row;
    })
