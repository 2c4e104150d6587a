-- What of the payload of divided bytes is for an instance, with bytes more.
-- Assumes nothing.
use mathlib.Core.Path.{◌≡◌, refl, ◌∙◌}
use mathlib.Core.Bool.{Bool, true, false, cond}
use mathlib.Core.List.{List, [], ◌∷◌, ◌++◌, append-nil, flat_map}
use Prim.Native.Nat.{ℕ, ◌≤◌}
use native.Mathlib.Omega.{arith}
use lib.ListN.{length, drop_of_length-le}
use lib.Seq.{take_at, drop_at}
use Rattle.wire.specs.declared.segment.Segment.{Segment}
use Rattle.wire.specs.declared.instances.Party.{Party}
use Rattle.wire.specs.Segments.{header_length, decoded, Carried}
use Rattle.wire.specs.Instances.{route_of}
use Rattle.promises.specs.History.{is_for, payload_for, received_in}
use Rattle.promises.proofs.HistoryLaws.{flat_next}

module _ (us : Party) (i : ℕ) where
  pub none_for : (h : Segment) → payload_for us i h [] ≡ []
  none_for h = of (is_for i (route_of us h.protocol h.mode))
    where
      of : (b : Bool) → ◌≡◌ {A = List ℕ} (cond b [] []) []
      of true = refl
      of false = refl

  pub for_append : (h : Segment) (xs ys : List ℕ) → payload_for us i h (xs ++ ys) ≡ payload_for us i h xs ++ payload_for us i h ys
  for_append h xs ys = of (is_for i (route_of us h.protocol h.mode))
    where
      of : (b : Bool) → cond b (xs ++ ys) [] ≡ cond b xs [] ++ cond b ys []
      of true = refl
      of false = refl

  -- in front of a payload nothing has come of it
  pub received_head : (cs : List Carried) (left : List ℕ) → length left ≤ header_length
      → received_in us i cs left ≡ flat_map (λ (c : Carried). payload_for us i c.header c.payload) cs
  unfolding received_in
  received_head cs left h = rw (drop_of_length-le left {i = header_length} h, none_for, append-nil)

  -- in a payload
  pub received_in_lem : (cs : List Carried) (h p : List ℕ) → length h ≡ header_length
      → received_in us i cs (h ++ p) ≡ flat_map (λ (c : Carried). payload_for us i c.header c.payload) cs ++ payload_for us i (decoded h) p
  unfolding received_in
  received_in_lem cs h p e = rw (take_at h p header_length e, drop_at h p header_length e)

  -- behind a whole segment
  pub received_whole : (cs : List Carried) (h p : List ℕ)
      → received_in us i (cs ++ (record { header = decoded h; payload = p } ∷ [])) []
      ≡ flat_map (λ (c : Carried). payload_for us i c.header c.payload) cs ++ payload_for us i (decoded h) p
  received_whole cs h p =
      received_head (cs ++ (record { header = decoded h; payload = p } ∷ [])) [] (omega arith)
      ∙ flat_next (λ (c : Carried). payload_for us i c.header c.payload) cs (record { header = decoded h; payload = p })
