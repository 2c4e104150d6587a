-- The closing (T11 e): each effect keeps that the gate is closed by the first fault answered.
-- Assumes nothing.
use mathlib.Core.Path.{◌≡◌, refl, sym, ap, ◌∙◌, subst}
use mathlib.Core.Bool.{true, cond, ◌&&◌}
use mathlib.Core.List.{List, [], ◌∷◌, ◌++◌, append_assoc, flat_map, flatten}
use mathlib.Core.Option.{Option, none, some, or_else}
use Prim.Native.Nat.{ℕ, ◌+◌, ◌-◌, ◌≤◌, ◌<◌}
use native.Mathlib.Omega.{arith}
use lib.Dec.{leb}
use lib.ListN as lists
use lib.ListN.{length, get_or, length-append}
use lib.Seq.{take-append-add, take-length, drop_at}
use Rattle.ring.specs.Ring.{base_of}
use Rattle.wire.specs.declared.segment.Header.{Header}
use Rattle.wire.specs.declared.instances.Party.{Party}
use Rattle.wire.specs.Instances.{Route}
use Rattle.wire.specs.Segments.{header_length, added, decoded}
use Rattle.wire.specs.Instances.{instances, route_of}
use Rattle.wire.proofs.SegmentLaws.{part, add_part, part_whole, divided_ends}
use Rattle.connection.specs.declared.Settings.{Settings}
use Rattle.connection.specs.declared.Closing.{Closing}
use Rattle.connection.specs.declared.Closing.TheVariants.{Of}
use Rattle.connection.specs.declared.Gate.{Gate}
use Rattle.connection.specs.declared.Gate.TheVariants.{Open, Closed}
use Rattle.connection.specs.Closings as closings
use Rattle.connection.specs.Closings.{closing_of, is_open}
use Rattle.connection.proofs.ClosingLaws.{closed_or, open_or}
use Rattle.feeding.specs.Feeding as feeding
use Rattle.feeding.specs.Feeding.{Reception, used, left, given}
use Rattle.feeding.specs.Besides.Numbers.{Eighth}
use Rattle.feeding.proofs.Keeping.{Kept, kept_given}
use Rattle.feeding.proofs.Faults.{Cause, unknown, wrong, overflow, cause, Refuses, fault_found, fault_leaves, used_all}
use Rattle.promises.specs.Calls.{World, Opened, first}
use Rattle.promises.specs.Effects.{Effect, came, Past, used_by, bytes_in}
use Rattle.promises.specs.History.{last_route, routed, fault_by, first_fault, Closes}
use Rattle.promises.proofs.ReachedFeed.{ends, uses}
use Rattle.promises.proofs.Effects.{Good, receive_some, Leaves, still, shut, feeds, faults, drops, queues, serves}
use Rattle.promises.proofs.Reached.{opens_fresh}
use Rattle.promises.proofs.HistoryBytes.{Reading, in_head, in_pay, Tied, tied_fed}
use Rattle.promises.proofs.HistoryReceives.{Held}

-- ---- the header that is refused

last_at : (us : Party) (front h : List ℕ) → length h ≡ header_length
    → last_route us (front ++ h) ≡ route_of us (decoded h).protocol (decoded h).mode
last_at us front h e =
    let n : length (front ++ h) - header_length ≡ length front = omega (arith, length-append front h) in
    rw (n, drop_at front h (length front) refl)

module _ (us : Party) (caps : List ℕ) (dropped : ℕ → List ℕ)
    (some : (i : ℕ) → i < instances us.bundle → 0 < get_or caps i 0) where
  -- a byte that makes a header whole
  header_last : (bs : List ℕ) (b : ℕ) (m : Reception) (t : Tied us caps dropped bs m) → Reading us m.receiving t.left → m.receiving.rest ≡ 0
      → header_length ≤ (added m.receiving.header b).count
      → let d = decoded (added m.receiving.header b).bytes in last_route us (bs ++ (b ∷ [])) ≡ route_of us d.protocol d.mode
  header_last bs b m t (in_head z short e) idle enough =
      let h : List ℕ = t.left ++ (b ∷ []) in
      let f : added m.receiving.header b ≡ part h = ap (λ (x : Header). added x b) e ∙ add_part t.left b short in
      let n : header_length ≤ length h = rw f at enough in
      let eight : length h ≡ header_length = omega (arith, length-append t.left (b ∷ [])) in
      let q = divided_ends t.divided in
      let all : bs ++ (b ∷ []) ≡ q.0 ++ h = ap (λ (l : List ℕ). l ++ (b ∷ [])) q.1 ∙ append_assoc q.0 t.left (b ∷ []) in
      rw (f, part_whole h eight) (ap (last_route us) all ∙ last_at us q.0 h eight)
  header_last bs b m t (in_pay h p e eight more n z to) idle enough = absurd (omega arith)

  -- it stands at the end of the bytes that were used
  refused_last : (xs bs : List ℕ) (s : Reception) (starts : List ℕ) (n : ℕ) (x : Closing) → Tied us caps dropped bs s
      → Kept us.bundle caps starts n s → n ≡ base_of caps (instances us.bundle)
      → is_open s.gate ≡ true → (feeding.fed us caps s xs).gate ≡ Closed x
      → (held : List ℕ) × (m : ℕ) × Cause caps held m (last_route us (bs ++ lists.take (used us caps s xs) xs)) x
  refused_last xs bs s starts n x t k long o e =
      let f : Eighth us caps s xs (Refuses caps x) = fault_found us caps s xs x o e in
      let front : List ℕ = f.front in
      let m : Reception = feeding.fed us caps s front in
      let all : used us caps s front ≡ length front = used_all us caps s front f.reached in
      let t' : Tied us caps dropped (bs ++ front) m =
      rw (all, take-length) at (tied_fed us caps dropped some front bs s starts n t k long) in
      let count : used us caps s xs ≡ length front + 1 = omega (arith, (fault_leaves us caps s xs x f).1) in
      let these : lists.take (used us caps s xs) xs ≡ front ++ (f.byte ∷ []) =
      ap (λ (j : ℕ). lists.take j xs) count ∙ ap (lists.take (length front + 1)) f.run ∙ take-append-add front (f.byte ∷ f.back) 1 in
      let bytes : (bs ++ front) ++ (f.byte ∷ []) ≡ bs ++ lists.take (used us caps s xs) xs =
      append_assoc bs front (f.byte ∷ []) ∙ ap (λ (l : List ℕ). bs ++ l) (sym these) in
      let d = decoded (added m.receiving.header f.byte).bytes in
      let last : last_route us (bs ++ lists.take (used us caps s xs) xs) ≡ route_of us d.protocol d.mode =
      ap (last_route us) (sym bytes) ∙ header_last (bs ++ front) f.byte m t' (t'.reading f.reached) f.idle f.whole in (
        m.receiving.held,
        d.len,
        subst (λ (r : Route). Cause caps m.receiving.held d.len r x) (sym last)
            (cause caps m.receiving.held d.len (route_of us d.protocol d.mode) x f.says),
      )

-- ---- the first fault

or-none : (a : Option (ℕ × Option ℕ)) → or_else a none ≡ a
unfolding or_else
or-none none = refl
or-none (some x) = refl

or_or : (a b c : Option (ℕ × Option ℕ)) → or_else (or_else a b) c ≡ or_else a (or_else b c)
unfolding or_else
or_or none b c = refl
or_or (some x) b c = refl

-- a fault more is the first only if there was none
first_next : (us : Party) (bs : List ℕ) (past : Past) (e : Effect)
    → first_fault us bs (past ++ (e ∷ [])) ≡ or_else (first_fault us bs past) (fault_by us (bs ++ (bytes_in past ++ used_by e)) e)
unfolding first_fault bytes_in flat_map or_else
first_next us bs [] e = or-none (fault_by us (bs ++ used_by e) e)
first_next us bs (d ∷ past) e =
    let now : List ℕ = bs ++ used_by d in
    let rest : List ℕ = bytes_in past ++ used_by e in
    let long : bs ++ ((used_by d ++ bytes_in past) ++ used_by e) ≡ now ++ rest =
    ap (λ (l : List ℕ). bs ++ l) (append_assoc (used_by d) (bytes_in past) (used_by e)) ∙ sym (append_assoc bs (used_by d) rest) in
    rw (first_next us now past e, long) (sym (or_or (fault_by us now d) (first_fault us now past) (fault_by us (now ++ rest) e)))

-- ---- an effect

-- the closing that feed leaves, by its number and the last header
cause_tells : {caps held : List ℕ} {n : ℕ} {r : Route} {x : Closing} → Cause caps held n r x
    → closing_of (Closed x) ≡ cond (leb 11 (closings.closing_number x) && leb (closings.closing_number x) 13) (some (closings.closing_number x, routed r)) none
cause_tells unknown = refl
cause_tells (wrong i) = refl
cause_tells (overflow i h) = refl

module _ (w : World) (g : Good w) (past : Past) (t : Held w.connection.settings past w) where
  abbrev us : Party
  us = w.connection.settings.party

  -- the closing after an effect
  abbrev Gated : Effect → World → Type 0
  Gated e w' = closing_of w'.connection.gate ≡ or_else (closing_of w.connection.gate) (fault_by us (bytes_in past ++ used_by e) e)

  same : closing_of w.connection.gate ≡ or_else (closing_of w.connection.gate) none
  same = sym (or-none (closing_of w.connection.gate))

  gated : {real : Type 0} {e : Effect} {w' : World} → Leaves w real e w' → Gated e w'
  gated still = same
  gated (shut o) = same
  gated (feeds xs o spelt) = of (ends w.connection w.receive xs).gate refl ∙ sym (open_or w.connection.gate _ o)
    where
      of : (q : Gate) → (ends w.connection w.receive xs).gate ≡ q
          → let bs = lists.take (uses w.connection w.receive xs) xs in closing_of q ≡ fault_by us (bytes_in past ++ bs) (came (left q) bs)
      of Open e = refl
      of (Closed x) e =
          cause_tells
          (refused_last us w.connection.settings.receive (λ i. flatten (t.messages i))
          (receive_some g) xs (bytes_in past)
          (given w.connection w.receive) w.connection.receiving.starts (length w.receive) x t.tied
          (kept_given w.connection w.receive g.ranged) g.receive o e).2
  gated (faults n i) = closed_or w.connection.gate (Of n i)
  gated (drops j n to m q fits reads) = same
  gated (queues j to m xs q o free short room) = same
  gated (serves j time bs o who q) = same

  pub closes_by : {real : Type 0} {e : Effect} {w' : World} → Leaves w real e w' → Closes w.connection.settings past w
      → Closes w.connection.settings (past ++ (e ∷ [])) w'
  closes_by {e = e} l f =
      gated l ∙ ap (λ (q : Option (ℕ × Option ℕ)). or_else q (fault_by us (bytes_in past ++ used_by e) e)) f ∙ sym (first_next us [] past e)

pub closes_first : {s : Settings} {receive send : List ℕ} → Opened s receive send → Closes s [] (first s receive send)
unfolding first_fault
closes_first o = rw (opens_fresh o)
