-- What feeding leaves of a record besides its range, byte by byte: its shape, and that what has not come is 0.
-- Assumes nothing.
use mathlib.Core.Path.{◌≡◌, ◌∙◌}
use mathlib.Core.Bool.{cond}
use mathlib.Core.List.{List, [], ◌∷◌}
use Prim.Native.Nat.{ℕ, ◌+◌, ◌-◌, ◌≤◌}
use native.Mathlib.Omega.{arith}
use lib.Dec.{eqb, leb, ltb}
use lib.ListN.{length, get_or, length-set}
use lib.Seq.{get_or-set_other}
use borrow.Author.Tests.{eq-eqb}
use Rattle.base.proofs.Conds.{cond_cases}
use Rattle.base.proofs.ListLaws.{zeros}
use Rattle.wire.specs.declared.segment.Header.{Header}
use Rattle.wire.specs.declared.instances.Party.{Party}
use Rattle.wire.specs.Segments.{header_length, empty, added}
use Rattle.wire.specs.Instances.{most}
use Rattle.connection.specs.declared.Connection.{Connection}
use Rattle.connection.specs.Closings.{is_open}
use Rattle.admitting.specs.Admitting.{Admission}
use Rattle.std.specs.Prelude.{Ok, Err}
use Rattle.feeding.specs.Feeding.{Reception, admission, settled, headed, kept, step, fed, used, given}

abbrev pub Blank : Header → Type 0
Blank h = (k : ℕ) → h.count ≤ k → get_or h.bytes k 0 ≡ 0

-- what feeding keeps
pub record Tidy (starts : List ℕ) (s : Reception) : Type 0 where
  pub places : s.receiving.starts ≡ starts
  pub many : length s.receiving.held ≡ most
  pub blank : Blank s.receiving.header
  pub idle : s.receiving.rest ≡ 0 → s.receiving.instance ≡ 0

pub blank_empty : Blank empty
blank_empty k h = zeros header_length k

blank_added : (h : Header) (b : ℕ) → Blank h → Blank (added h b)
unfolding added
blank_added h b q =
    cond_cases Blank (ltb h.count header_length)
    (λ t k l. get_or-set_other h.bytes h.count k b 0 (λ e. omega arith) ∙ q k (omega arith)) (λ t. q)

-- nothing to come: no instance
idle_for : (n i : ℕ) → n ≡ 0 → cond (eqb n 0) 0 i ≡ 0
idle_for n i z = rw (eq-eqb n 0 z)

module _ (us : Party) (caps starts : List ℕ) where
  tidy_settled : (s : Reception) (a : Admission) → Tidy starts s → Tidy starts (settled s a)
  tidy_settled s (Err x) t = record { places = t.places; many = t.many; blank = blank_empty; idle = t.idle }
  tidy_settled s (Ok p) t = record { places = t.places; many = t.many; blank = blank_empty; idle = idle_for p.len p.instance }

  tidy_step : (s : Reception) (b : ℕ) → Tidy starts s → Tidy starts (step us caps s b)
  unfolding step headed kept
  tidy_step s b t =
      let r = s.receiving in
      let h = added r.header b in
      cond_cases (Tidy starts) (is_open s.gate)
      (λ o.
      cond_cases (Tidy starts) (eqb r.rest 0)
      (λ z.
      cond_cases (Tidy starts) (leb header_length h.count) (λ w. tidy_settled s (admission us caps r.held h) t)
      (λ w. record { places = t.places; many = t.many; blank = blank_added r.header b t.blank; idle = t.idle }))
      (λ z.
      record {
        places = t.places;
        many = length-set r.held r.instance (get_or r.held r.instance 0 + 1) ∙ t.many;
        blank = t.blank;
        idle = idle_for (r.rest - 1) r.instance;
      }))
      (λ o. t)

  pub tidy_fed : (s : Reception) (xs : List ℕ) → Tidy starts s → Tidy starts (fed us caps s xs)
  unfolding fed
  tidy_fed s [] t = t
  tidy_fed s (x ∷ xs) t = tidy_fed (step us caps s x) xs (tidy_step s x t)

-- ---- a call

-- the state that a run leaves, and how many of its bytes are used
abbrev pub ends : Connection → List ℕ → List ℕ → Reception
ends c st xs = fed c.settings.party c.settings.receive (given c st) xs

abbrev pub uses : Connection → List ℕ → List ℕ → ℕ
uses c st xs = used c.settings.party c.settings.receive (given c st) xs
