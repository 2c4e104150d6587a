-- T11 and T13, by what every reached world is (T10): each effect keeps the ties between history and world, and so every list of calls does.
-- Assumes nothing.
use mathlib.Core.Path.{◌≡◌, refl, sym, ap, ◌∙◌, subst}
use mathlib.Core.List.{List, [], ◌∷◌, ◌++◌}
use Prim.Native.Nat.{ℕ, zero, suc, ◌+◌, ◌<◌}
use native.Mathlib.Omega.{arith}
use lib.ListN.{length, get_or}
use Rattle.wire.specs.Instances.{instances}
use Rattle.wire.proofs.SegmentLaws.{divided_once}
use Rattle.ready.specs.Ready.{bit_of}
use Rattle.ready.proofs.ReadyLaws.{bit_by_bit, no_more, ones_ready, word_none, lowest_at, lowest_none}
use Rattle.connection.specs.declared.Settings.{Settings}
use Rattle.telling.specs.Statuses.{up_to, status_of}
use Rattle.telling.proofs.ShownLaws.{shown_at, shown_above}
use Rattle.sending.proofs.NumberLaws.{counts, counts_long, counts_at}
use Rattle.promises.specs.Calls.{Call, World, step, run, AllReal, Opened, first}
use Rattle.promises.specs.Effects.{Effect, Past, did, bytes_in}
use Rattle.promises.specs.Reached.{Reached}
use Rattle.promises.specs.History.{dropped_for, sent_for, Talks, Closes, Tells, History, Reports, StatusTells}
use Rattle.promises.proofs.Effects.{Good, good, Leaves}
use Rattle.promises.proofs.Reached.{in_range_for_ever}
use Rattle.promises.proofs.HistoryRuns.{along}
use Rattle.promises.proofs.HistoryTalks.{talks_first, talks_by}
use Rattle.promises.proofs.HistoryReceives.{Held, held_first, held_by, receives_of}
use Rattle.promises.proofs.HistoryCloses.{closes_first, closes_by}
use Rattle.promises.proofs.HistorySends.{Waits, waits_first, waits_by, sends_of, makes}
use Rattle.promises.proofs.HistoryLooks.{looks}

-- all that each effect keeps
record Ties (s : Settings) (past : Past) (w : World) : Type 0 where
  held : Held s past w
  waits : Waits s past w
  talks : Talks s past w
  closes : Closes s past w

ties_next : (past : Past) (w : World) → Good w → (real : Type 0) (e : Effect) (w' : World) → real → Leaves w real e w'
    → Ties w.connection.settings past w → Ties w.connection.settings (past ++ (e ∷ [])) w'
ties_next past w g real e w' r l t =
    record {
      held = held_by w g past t.held l;
      waits = waits_by w g past t.waits r l;
      talks = talks_by w g past t.talks l;
      closes = closes_by w g past t.held l t.closes;
    }

tells_of : (past : Past) (w : World) → Ties w.connection.settings past w → Tells w.connection.settings past w
tells_of past w t =
    record { receives = receives_of past w t.held; sends = sends_of past w t.waits; talks = t.talks; closes = t.closes }

-- ---- status

-- an array is shown with as many entries as it has
shown_long : (n : ℕ) (a : List ℕ) → length (up_to n a) ≡ length a
unfolding up_to
shown_long n [] = refl
shown_long zero (x ∷ a) = ap suc (shown_long zero a)
shown_long (suc n) (x ∷ a) = ap suc (shown_long n a)

-- what status tells of a record in range
reports_of : (past : Past) (w : World) → Good w → Tells w.connection.settings past w → Reports w.connection.settings past (status_of w.connection)
unfolding status_of
reports_of past w k t =
    let c = w.connection in
    let n = instances c.settings.party.bundle in
    let ws = counts c in
    let many : length ws ≡ n = counts_long c k.shaped in
    let shown : (i : ℕ) → i < n → get_or ws i 0 ≡ get_or (up_to n c.sending.waiting) i 0 =
    λ i l. counts_at c i l ∙ sym (shown_at n c.sending.waiting i l) in
    rw k.ranged
    (record {
      number = refl;
      held = λ cs left d i l.
          let q = divided_once (bytes_in past) left t.receives.left cs t.receives.carried d t.receives.divided in
          rw (q.0, q.1) (t.receives.held i l ∙ ap (λ (m : ℕ). dropped_for i past + m) (sym (shown_at n c.receiving.held i l)));
      waiting = λ i l.
          t.sends.waiting i l
          ∙ ap (λ (m : ℕ). length (sent_for c.settings.party i past) + m) (sym (shown_at n c.sending.waiting i l));
      many = (shown_long n c.receiving.held ∙ k.shaped.held, shown_long n c.sending.waiting ∙ k.shaped.waiting);
      above = λ i l. (shown_above n c.receiving.held i l, shown_above n c.sending.waiting i l);
      bits = λ i l. bit_by_bit ws i (rw many l) ∙ ap bit_of (shown i l);
      small = rw many at (no_more ws);
      count = sym (ones_ready ws);
      lowest = λ i l some h. lowest_at 0 ws i (rw many l) (rw (shown i l) some) (λ j p. shown j (omega arith) ∙ h j p) ∙ omega arith;
      none = λ h. lowest_none 0 ws (word_none ws (λ j l. let p = rw many at l in shown j p ∙ h j p));
      closing = t.closes;
    })

module _ (s : Settings) (receive send : List ℕ) (opened : Opened s receive send) (cs : List Call) (real : AllReal cs) where
  abbrev w : World
  w = run (first s receive send) cs

  abbrev past : Past
  past = did (first s receive send) cs

  reached : Reached s w
  reached = in_range_for_ever s receive send opened cs real

  ties : Ties s past w
  ties =
      along Ties ties_next opened cs real
      (record { held = held_first opened; waits = waits_first opened; talks = talks_first opened; closes = closes_first opened })

  told_so : Tells s past w
  told_so = subst (λ (u : Settings). Ties u past w → Tells u past w) reached.settings (tells_of past w) ties

  reports : Reports s past (status_of w.connection)
  reports = subst (λ (u : Settings). Tells u past w → Reports u past (status_of w.connection)) reached.settings (reports_of past w (good reached)) told_so

-- T11
pub history : History
history s receive send o cs real =
    let w : World = run (first s receive send) cs in
    let k = reached s receive send o cs real in
    (told_so s receive send o cs real, makes s w k, looks s w k)

-- T13
pub status_tells : StatusTells
unfolding step
status_tells = reports
