-- The segment that next segment makes: a header read back is the one written, and the payload behind it is the front of a queue.
-- Assumes nothing.
use mathlib.Core.Path.{◌≡◌, sym, ap, subst, ◌∙◌}
use mathlib.Core.List.{List, ◌++◌}
use Prim.Native.Nat.{ℕ, ◌+◌, ◌^◌, ◌≤◌, ◌<◌}
use native.Mathlib.Omega.{arith}
use lib.ListN.{length, get_or, take, length-append}
use lib.Seq.{sets, take_at, drop_at}
use Rattle.ring.specs.Ring.{base_of}
use Rattle.ring.proofs.Stores.{stream_length, stream_take}
use Rattle.wire.specs.declared.segment.Segment.{Segment}
use Rattle.wire.specs.Segments.{header_length, decoded, encoded}
use Rattle.wire.specs.Instances.{instances}
use Rattle.wire.proofs.SegmentLaws.{round_trip}
use Rattle.std.specs.Prelude.{Some}
use Rattle.connection.specs.declared.Settings.{Settings}
use Rattle.connection.specs.declared.Connection.{Connection}
use Rattle.range.proofs.RangeLaws.{ranged}
use Rattle.sending.specs.NextSegment.{much, headed, payload_of, chosen_of}
use Rattle.sending.proofs.SendingLaws.{header_long, header_fits}
use Rattle.promises.specs.Calls.{World}
use Rattle.promises.specs.Reached.{waits, Reached}
use Rattle.promises.specs.Fairness.{queue, header, payload}
use Rattle.sending.proofs.NumberLaws.{chosen_waiting}
use Rattle.promises.proofs.HistoryLaws.{front}

-- bytes that are a segment of instance j
pub record Made (w : World) (time j : ℕ) (bs : List ℕ) : Type 0 where
  pub within : j < instances w.connection.settings.party.bundle
  pub some : 0 < waits w j
  pub reads : header bs ≡ headed w.connection.settings.party time j (much w.connection j)
  pub carries : payload bs ≡ payload_of w.connection w.send j
  pub first : payload bs ≡ take (much w.connection j) (queue w j)

-- what the lent buffer has in front
pub made_of : {s : Settings} {w : World} → Reached s w → (time : ℕ) (buf : List ℕ) (j : ℕ) → time < 2 ^ 32
    → chosen_of w.connection ≡ Some j → header_length + much w.connection j ≤ length buf
    → let n = much w.connection j in
    let bs = encoded (headed w.connection.settings.party time j n) ++ payload_of w.connection w.send j in
    Made w time j (take (header_length + n) (sets buf 0 bs))
made_of {w = w} r time buf j small who room =
    let c : Connection = w.connection in
    let n : ℕ = much c j in
    let h : Segment = headed c.settings.party time j n in
    let xs : List ℕ = payload_of c w.send j in
    let caps : List ℕ = c.settings.send in
    let inside : j < instances c.settings.party.bundle = (chosen_waiting c r.shaped j who).0 in
    let limit = (ranged c r.ranged).set.limit in
    let long : length (encoded h ++ xs) ≡ header_length + n = length-append (encoded h) xs ∙ rw (header_long h, stream_length) in
    let behind : payload (encoded h ++ xs) ≡ xs = drop_at (encoded h) xs header_length (header_long h) in
    subst (Made w time j) (sym (front buf (encoded h ++ xs) (header_length + n) long room))
    (record {
      within = inside;
      some = (chosen_waiting c r.shaped j who).1;
      reads =
          ap decoded (take_at (encoded h) xs header_length (header_long h))
          ∙ round_trip.read_written h (header_fits c.settings.party j time n inside small (omega arith));
      carries = behind;
      first =
          behind ∙ sym (stream_take w.send (base_of caps j) (get_or caps j 0) (get_or c.sending.starts j 0) n (waits w j) (omega arith));
    })
