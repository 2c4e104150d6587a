-- What comes of the segments that one end made is, at the other end, what was sent: each reads back whole, and its mode and protocol number lead to
-- the instance that its own talks with. So the one division of the bytes that came finds them one after the other, and the rest is on the way.
-- Assumes nothing.
use Rattle.std.specs.Prelude.{Ok}
use mathlib.Core.Path.{◌≡◌, refl, sym, ap, ◌∙◌}
use mathlib.Core.Bool.{Bool, true, false, cond}
use mathlib.Core.List.{List, [], ◌∷◌, ◌++◌, append_assoc, flat_map, flatten}
use Prim.Native.Nat.{ℕ, ◌≤◌, ◌<◌, min}
use native.Mathlib.Omega.{arith}
use borrow.Author.Tests.{eq-eqb, ne_eqb, eqb-true, eqb-false}
use lib.Dec.{eqb}
use lib.ListN.{length, take, drop, length-append, length-drop, take-append-drop}
use lib.Seq.{length-take-le, take_at, drop_at, take-append-le, drop-append-le}
use Rattle.base.proofs.Conds.{by_test}
use Rattle.ring.proofs.Stores.{stream_length}
use Rattle.wire.specs.declared.segment.Segment.{Segment}
use Rattle.wire.specs.declared.instances.Party.{Party}
use Rattle.wire.specs.Instances.{Route}
use Rattle.wire.specs.Segments.{header_length, decoded, Carried, Divided, in_header, in_payload, whole}
use Rattle.wire.specs.Instances.{instances, protocol_of, mode_of, route_of}
use Rattle.wire.specs.Besides.Instances.{other_of, pair_of}
use Rattle.wire.proofs.InstanceLaws.{one_way}
use Rattle.connection.specs.declared.Settings.{Settings}
use Rattle.promises.specs.Calls.{Call, World, All, AllReal, Opened, first}
use Rattle.promises.specs.Effects.{Effect, did, segment_of, segments}
use Rattle.promises.specs.Reached.{waits}
use Rattle.promises.specs.Fairness.{queue, header, payload, is_of, sent_by}
use Rattle.promises.specs.History.{is_for, payload_for, received_in, Segmented}
use Rattle.promises.proofs.FairSent.{of_same, of_other}
use Rattle.promises.proofs.HistoryLaws.{all_append, segments_next}
use Rattle.promises.proofs.HistoryLayout.{for_append, received_head, received_in_lem}
use Rattle.promises.proofs.HistoryRuns.{along}
use Rattle.promises.proofs.Effects.{Good, Leaves, still, shut, feeds, faults, drops, queues, serves}
use Rattle.promises.proofs.HistorySends.{segmented_by}

-- ---- segments as they are made

-- a header and the payload that it tells, of one of a side's instances
pub record Made (us : Party) (bs : List ℕ) : Type 0 where
  pub instance : ℕ
  pub within : instance < instances us.bundle
  pub mode : (header bs).mode ≡ mode_of us instance
  pub protocol : (header bs).protocol ≡ protocol_of us.bundle instance
  pub long : header_length ≤ length bs
  pub told : length (payload bs) ≡ (header bs).len

made_of : (s : Settings) (w : World) (time : ℕ) (bs : List ℕ) → Segmented s w time bs → Made s.party bs
made_of s w time bs k =
    let n : ℕ = min s.limit (waits w k.instance) in
    let many : length (queue w k.instance) ≡ waits w k.instance = stream_length _ _ _ _ _ in
    let told : length (payload bs) ≡ n = ap length k.carries ∙ length-take-le n (queue w k.instance) (omega arith) in
    record {
      instance = k.instance;
      within = k.within;
      mode = ap (λ (h : Segment). h.mode) k.reads;
      protocol = ap (λ (h : Segment). h.protocol) k.reads;
      long = omega (arith, length-drop header_length bs, k.some);
      told = told ∙ sym (ap (λ (h : Segment). h.len) k.reads);
    }

made_by : (w : World) → Good w → {real : Type 0} {e : Effect} {w' : World} → real → Leaves w real e w'
    → All (Made w.connection.settings.party) (segment_of e)
made_by w g real still = tt
made_by w g real (shut o) = tt
made_by w g real (feeds xs o spelt) = tt
made_by w g real (faults n i) = tt
made_by w g real (drops i n to m q fits reads) = tt
made_by w g real (queues i to m xs q o free short room) = tt
made_by w g real (serves i time bs o who q) =
    (made_of w.connection.settings w time bs (segmented_by w g real (serves i time bs o who q)), tt)

pub all_made : {s : Settings} {receive send : List ℕ} → Opened s receive send → (cs : List Call) → AllReal cs
    → All (Made s.party) (segments (did (first s receive send) cs))
unfolding segments flat_map
all_made opened cs real =
    along (λ s past w. All (Made s.party) (segments past))
    (λ past w g real e w' r l t. rw (segments_next past e) (all_append (Made w.connection.settings.party) (segments past) _ t (made_by w g r l))) opened cs real tt

-- ---- where they lead

-- what the other end finds for the instance that i talks with is what is i's
for_pair : (us : Party) (i : ℕ) (bs xs : List ℕ) → i < instances us.bundle → Made us bs
    → payload_for (other_of us) (pair_of us.bundle i) (header bs) xs ≡ cond (is_of us i bs) xs []
for_pair us i bs xs l m =
    let j : ℕ = m.instance in
    let route : route_of (other_of us) (header bs).protocol (header bs).mode ≡ Ok (pair_of us.bundle j) =
    ap (λ (p : ℕ). route_of (other_of us) p (header bs).mode) m.protocol
    ∙ ap (route_of (other_of us) (protocol_of us.bundle j)) m.mode ∙ (one_way us).arrives j m.within in
    ap (λ (r : Route). cond (is_for (pair_of us.bundle i) r) xs []) route
    ∙ ap (λ (b : Bool). cond b xs [])
    (by_test (eqb j i)
    (λ t.
    let e : j ≡ i = eqb-true j i t in
    eq-eqb (pair_of us.bundle j) (pair_of us.bundle i) (ap (pair_of us.bundle) e) ∙ sym (of_same us i bs (m.mode ∙ ap (mode_of us) e) (m.protocol ∙ ap (protocol_of us.bundle) e)))
    (λ t.
    ne_eqb (pair_of us.bundle j) (pair_of us.bundle i) (λ e. eqb-false j i t (sym ((one_way us).paired j m.within) ∙ ap (pair_of us.bundle) e ∙ (one_way us).paired i l))
    ∙ sym (of_other us i j bs l m.within (λ e. eqb-false j i t (sym e)) m.mode m.protocol)))

-- ---- bytes that came, and bytes on the way

-- the payloads are among the segments' bytes
if_few : (b : Bool) (xs : List ℕ) → length (cond b xs []) ≤ length xs
if_few true xs = omega arith
if_few false xs = omega arith

sent_few : (us : Party) (i : ℕ) (ss : List (List ℕ)) → length (sent_by us i ss) ≤ length (flatten ss)
unfolding sent_by flat_map flatten
sent_few us i [] = omega arith
sent_few us i (bs ∷ ss) =
    let now : List ℕ = cond (is_of us i bs) (payload bs) [] in
    omega (
      arith,
      length-append now (sent_by us i ss),
      length-append bs (flatten ss),
      if_few (is_of us i bs) (payload bs),
      length-drop header_length bs,
      sent_few us i ss,
    )

-- with less than a header come, all that was sent is on the way
none_come : (us : Party) (i : ℕ) (ss : List (List ℕ)) (xs zs : List ℕ) → All (Made us) ss → length xs < header_length → flatten ss ≡ xs ++ zs
    → length (sent_by us i ss) ≤ length zs
unfolding sent_by flat_map flatten
none_come us i [] xs zs m h e = omega arith
none_come us i (bs ∷ ss) xs zs (b, m) h e =
    let now : List ℕ = cond (is_of us i bs) (payload bs) [] in
    omega (
      arith,
      length-append now (sent_by us i ss),
      length-append bs (flatten ss),
      if_few (is_of us i bs) (payload bs),
      length-drop header_length bs,
      sent_few us i ss,
      b.long,
      ap length e,
      length-append xs zs,
    )

-- what was sent of i is what came of it, and what is in flight among the bytes on the way
pub record Came (us : Party) (i : ℕ) (ss : List (List ℕ)) (cs : List Carried) (left way : List ℕ) : Type 0 where
  pub flight : List ℕ
  pub sent : sent_by us i ss ≡ received_in (other_of us) (pair_of us.bundle i) cs left ++ flight
  pub few : length flight ≤ length way

-- the first segment's header, and what follows it
first_of : (bs h more r : List ℕ) → header_length ≤ length bs → length h ≡ header_length → bs ++ more ≡ h ++ r
    → (take header_length bs ≡ h) × (payload bs ++ more ≡ r)
first_of bs h more r l n e = (
  sym (take-append-le header_length bs more l) ∙ ap (take header_length) e ∙ take_at h r header_length n,
  sym (drop-append-le header_length bs more l) ∙ ap (drop header_length) e ∙ drop_at h r header_length n,
)

-- of a first whole segment, and of what follows it
received_first : (us : Party) (i : ℕ) (c : Carried) (cs : List Carried) (left : List ℕ)
    → received_in us i (c ∷ cs) left ≡ payload_for us i c.header c.payload ++ received_in us i cs left
unfolding received_in flat_map
received_first us i c cs left = append_assoc (payload_for us i c.header c.payload) _ _

-- no segment, and yet a header
no_bytes : (h r : List ℕ) → length h ≡ header_length → [] ≡ h ++ r → ⊥
no_bytes h r n e = omega (arith, ap length e, length-append h r)

module _ (us : Party) (i : ℕ) (l : i < instances us.bundle) where
  -- the first segment has come in part
  came_part : (bs h p way : List ℕ) (ss : List (List ℕ)) → Made us bs → length h ≡ header_length → length p < (decoded h).len
      → bs ++ flatten ss ≡ (h ++ p) ++ way → Came us i (bs ∷ ss) [] (h ++ p) way
  unfolding sent_by flat_map
  came_part bs h p way ss m e n q =
      let f = first_of bs h (flatten ss) (p ++ way) m.long e (q ∙ append_assoc h p way) in
      let body : List ℕ = payload bs in
      let rest : List ℕ = drop (length p) body in
      let short : length p ≤ length body = omega (arith, ap (λ (x : List ℕ). (decoded x).len) f.0, m.told) in
      let begun : take (length p) body ≡ p =
      sym (take-append-le (length p) body (flatten ss) short) ∙ ap (take (length p)) f.1 ∙ take_at p way (length p) refl in
      let split : body ≡ p ++ rest = sym (take-append-drop (length p) body) ∙ ap (λ (x : List ℕ). x ++ rest) begun in
      let behind : rest ++ flatten ss ≡ way =
      sym (drop-append-le (length p) body (flatten ss) short) ∙ ap (drop (length p)) f.1 ∙ drop_at p way (length p) refl in
      let to : List ℕ → List ℕ = payload_for (other_of us) (pair_of us.bundle i) (header bs) in
      let now : cond (is_of us i bs) body [] ≡ to p ++ to rest =
      sym (for_pair us i bs body l m) ∙ ap to split ∙ for_append (other_of us) (pair_of us.bundle i) (header bs) p rest in
      let here : received_in (other_of us) (pair_of us.bundle i) [] (h ++ p) ≡ to p =
      received_in_lem (other_of us) (pair_of us.bundle i) [] h p e ∙ ap (λ (x : List ℕ). payload_for (other_of us) (pair_of us.bundle i) (decoded x) p) (sym f.0) in
      record {
        flight = to rest ++ sent_by us i ss;
        sent =
            ap (λ (x : List ℕ). x ++ sent_by us i ss) now
            ∙ append_assoc (to p) (to rest) (sent_by us i ss)
            ∙ ap (λ (x : List ℕ). x ++ (to rest ++ sent_by us i ss)) (sym here);
        few =
            omega (
              arith,
              length-append (to rest) (sent_by us i ss),
              if_few (is_for (pair_of us.bundle i) (route_of (other_of us) (header bs).protocol (header bs).mode)) rest,
              sent_few us i ss,
              ap length behind,
              length-append rest (flatten ss),
            );
      }

  -- the first segment has come, and what came behind it is of the others
  came_whole : (bs h p ys way left : List ℕ) (ss : List (List ℕ)) (cs : List Carried) → Made us bs → length h ≡ header_length
      → length p ≡ (decoded h).len → bs ++ flatten ss ≡ (h ++ (p ++ ys)) ++ way → (flatten ss ≡ ys ++ way → Came us i ss cs left way)
      → Came us i (bs ∷ ss) (record { header = decoded h; payload = p } ∷ cs) left way
  unfolding sent_by flat_map
  came_whole bs h p ys way left ss cs m e n q others =
      let f = first_of bs h (flatten ss) (p ++ (ys ++ way)) m.long e
      (q ∙ append_assoc h (p ++ ys) way ∙ ap (λ (x : List ℕ). h ++ x) (append_assoc p ys way)) in
      let body : List ℕ = payload bs in
      let long : length body ≡ length p = m.told ∙ ap (λ (x : List ℕ). (decoded x).len) f.0 ∙ sym n in
      let same : body ≡ p =
      sym (take_at body (flatten ss) (length p) long) ∙ ap (take (length p)) f.1 ∙ take_at p (ys ++ way) (length p) refl in
      let behind : flatten ss ≡ ys ++ way =
      sym (drop_at body (flatten ss) (length p) long) ∙ ap (drop (length p)) f.1 ∙ drop_at p (ys ++ way) (length p) refl in
      let k = others behind in
      let now : cond (is_of us i bs) body [] ≡ payload_for (other_of us) (pair_of us.bundle i) (decoded h) p =
      sym (for_pair us i bs body l m)
      ∙ ap (λ (x : List ℕ). payload_for (other_of us) (pair_of us.bundle i) (decoded x) body) f.0
      ∙ ap (payload_for (other_of us) (pair_of us.bundle i) (decoded h)) same in
      record {
        flight = k.flight;
        sent =
            rw (now, k.sent, received_first (other_of us) (pair_of us.bundle i) (record { header = decoded h; payload = p }) cs left)
            (sym (append_assoc (payload_for (other_of us) (pair_of us.bundle i) (decoded h) p) (received_in (other_of us) (pair_of us.bundle i) cs left) k.flight));
        few = k.few;
      }

  pub came : {xs left : List ℕ} {cs : List Carried} → Divided xs cs left → (ss : List (List ℕ)) (way : List ℕ) → All (Made us) ss
      → flatten ss ≡ xs ++ way → Came us i ss cs left way
  unfolding flat_map flatten
  came (in_header {bs} h) ss way m q =
      record {
        flight = sent_by us i ss;
        sent = rw (received_head (other_of us) (pair_of us.bundle i) [] bs (omega arith));
        few = none_come us i ss bs way m h q;
      }
  came (in_payload h p e n) [] way m q = absurd (no_bytes h (p ++ way) e (q ∙ append_assoc h p way))
  came (in_payload h p e n) (bs ∷ ss) way (b, m) q = came_part bs h p way ss b e n q
  came (whole h p {bs = ys} e n d) [] way m q = absurd (no_bytes h ((p ++ ys) ++ way) e (q ∙ append_assoc h (p ++ ys) way))
  came (whole h p {bs = ys} {left} {cs} e n d) (bs ∷ ss) way (b, m) q = came_whole bs h p ys way left ss cs b e n q (λ r. came d ss way m r)
