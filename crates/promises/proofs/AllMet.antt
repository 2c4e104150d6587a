-- What the promises suppose is met: one run, the same in each bundle but for a protocol number, and it computes.
-- Assumes nothing.
use Rattle.std.specs.Prelude as prelude
use Rattle.std.specs.Prelude.{Some}
use Prim.Native.Nat.{ℕ, zero, suc, ◌*◌, ◌<◌}
use mathlib.Core.Path.{◌≡◌, refl, sym, ap, ◌∙◌}
use mathlib.Core.Bool.{Bool, true, false}
use mathlib.Core.List.{List, [], ◌∷◌, ◌++◌, append-nil, flat_map, flatten}
use mathlib.Core.Option.{Option, none, some}
use native.Mathlib.Omega.{arith}
use lib.ListN as lists
use lib.ListN.{length, replicate}
use lib.Dec.{ltb}
use borrow.Author.Tests.{ltb-true, eqb-false}
use Rattle.base.proofs.NumberLaws.{bytes_append, octets_bytes, bytes_take, bytes_drop, bytes_zeros}
use Rattle.base.specs.Below.{all_below}
use Rattle.base.specs.Numbers.{Bytes, spelled, octets}
use Rattle.ring.specs.Ring.{base_of, laid, stream}
use Rattle.head.specs.Initial.{initial}
use Rattle.head.specs.Read.{head_at, head_by, long_at, simple_at}
use Rattle.head.specs.Write.{shortest}
use Rattle.item.specs.Grammar.{nest, indefinite, enter, alike, enter_chunk}
use Rattle.item.specs.Verdict as item
use Rattle.wire.specs.Segments.{added, decoded, encoded}
use Rattle.wire.specs.Instances.{bundles, known, bundle_of, instances, most, protocol_of, find, route_of}
use Rattle.wire.specs.Besides.Instances.{pair_of}
use Rattle.wire.proofs.InstanceLaws.{at_most}
use Rattle.wire.specs.declared.instances.Side.{Side}
use Rattle.wire.specs.declared.instances.Side.TheVariants.{Dialler, Accepter}
use Rattle.rows.specs.Rows.{place_in, next_in, agency_in}
use Rattle.rows.specs.Spoken.{speaks}
use Rattle.messages.specs.Forms.{form_in}
use Rattle.elements.specs.Reading.{unsigned_at, opens_at, item_end, key_at, version_at, element_at, walk, part_of}
use Rattle.messages.specs.Reading.{said_in, fields_of, numbered_of, message_of, flag_of}
use Rattle.build.specs.Made as build
use Rattle.build.specs.Building.{given, bytes_of, build_of}
use Rattle.ready.specs.Ready.{word_of, count_of, lowest_from, seek}
use Rattle.connection.specs.declared.Settings.{Settings}
use Rattle.connection.specs.Closings.{closing_of}
use Rattle.range.specs.Ranges.{settings_ok, in_range, receives}
use Rattle.opening.specs.Openings.{open_of}
use Rattle.feeding.specs.Feeding as feeding
use Rattle.judging.specs.Judging.{ours, judged_of, said, heard, barred, at_done, ours_now}
use Rattle.judging.specs.Besides.Judging.{leads_to}
use Rattle.hearing.specs.Hearing.{seen, hear_of}
use Rattle.dropping.specs.Dropping.{drop_of}
use Rattle.putting.specs.Putting as putting
use Rattle.sending.specs.NextSegment.{serve, next_of}
use Rattle.promises.specs.Calls.{Call, feed, drop, put, next, World, step, run, AllReal, Opened, first}
use Rattle.promises.specs.Effects.{Act, gave, did, bytes_in, acts, segments}
use Rattle.promises.specs.Reached.{waits}
use Rattle.promises.specs.History.{dropped, dropped_for}
use Rattle.promises.specs.Besides.Arrival.{End, Parts, build_with, Due, holding}
use Rattle.promises.specs.Besides.Met.{AllMet}

-- ---- the calls

-- a Propose of no version, an Accept, and a FindIntersect of one point, of 33 bytes: nine segments of at most four
abbrev propose : List ℕ
propose = 0x82 ∷ 0x00 ∷ 0xa0 ∷ []

abbrev accept : List ℕ
accept = 0x83 ∷ 0x01 ∷ 0x00 ∷ 0x00 ∷ []

abbrev find_intersect : Parts
find_intersect = record { kind = 4; asked = false; numbers = []; runs = 1; one = 0x58 ∷ 0x1c ∷ replicate 28 0; two = [] }

abbrev message : List ℕ
message = 0x82 ∷ 0x04 ∷ 0x81 ∷ find_intersect.one

-- a segment at time 0
segment : ℕ → ℕ → List ℕ → List ℕ
segment mode protocol xs = encoded (record { time = 0; mode = mode; protocol = protocol; len = length xs }) ++ xs

-- bytes in k segments of at most four
pieces : ℕ → ℕ → List ℕ → List ℕ
pieces protocol zero xs = []
pieces protocol (suc k) xs = segment 0 protocol (lists.take 4 xs) ++ pieces protocol k (lists.drop 4 xs)

abbrev buffer : List ℕ
buffer = replicate 12 0

abbrev before : List Call
before = put 0 propose ∷ next 0 buffer ∷ feed (segment 1 0 accept) ∷ drop 0 ∷ put 1 message ∷ []

abbrev behind : List Call
behind = replicate 9 (next 0 buffer)

abbrev answering : ℕ → List Call
answering b = feed (segment 0 0 propose) ∷ drop 0 ∷ put 0 accept ∷ feed (pieces (protocol_of b 1) 9 message) ∷ []

-- of no protocol
abbrev fault : List ℕ
fault = segment 0 9 []

-- ---- their bytes are bytes

bytes_segment : (mode protocol : ℕ) (xs : List ℕ) → Bytes xs → Bytes (segment mode protocol xs)
unfolding segment encoded
bytes_segment mode protocol xs b =
    bytes_append _ xs (bytes_append (octets 4 0) _ (octets_bytes 4 0) (bytes_append (octets 2 _) _ (octets_bytes 2 _) (octets_bytes 2 (length xs)))) b

bytes_pieces : (protocol k : ℕ) (xs : List ℕ) → Bytes xs → Bytes (pieces protocol k xs)
unfolding Bytes pieces
bytes_pieces protocol zero xs b = tt
bytes_pieces protocol (suc k) xs b =
    bytes_append (segment 0 protocol (lists.take 4 xs)) _ (bytes_segment 0 protocol (lists.take 4 xs) (bytes_take 4 xs b))
    (bytes_pieces protocol k (lists.drop 4 xs) (bytes_drop 4 xs b))

bytes_propose : Bytes propose
unfolding Bytes
bytes_propose = omega arith

bytes_accept : Bytes accept
unfolding Bytes
bytes_accept = omega arith

bytes_message : Bytes message
unfolding Bytes
bytes_message = (omega arith, (omega arith, (omega arith, (omega arith, (omega arith, bytes_zeros 28)))))

real_nexts : (k : ℕ) → AllReal (replicate k (next 0 buffer))
unfolding AllReal
real_nexts zero = tt
real_nexts (suc k) = ((omega arith, bytes_zeros 12), real_nexts k)

real_dialler : AllReal (before ++ behind)
unfolding AllReal
real_dialler =
    (bytes_propose, ((omega arith, bytes_zeros 12), (bytes_segment 1 0 accept bytes_accept, (tt, (bytes_message, real_nexts 9)))))

real_accepter : (b : ℕ) → AllReal (answering b)
unfolding AllReal
real_accepter b = (
  bytes_segment 0 0 propose bytes_propose,
  (tt, (bytes_accept, (bytes_pieces (protocol_of b 1) 9 message bytes_message, tt))),
)

-- ---- what they come to

-- S = 4, and as much room for each instance as the message has bytes
abbrev settings_of : ℕ → Side → Settings
settings_of b side = record { party = record { bundle = b; side = side }; limit = 4; receive = replicate most 33; send = replicate most 33 }

abbrev store_of : ℕ → List ℕ
store_of b = replicate (instances b * 33) 0

abbrev first_of : ℕ → Side → World
first_of b side = first (settings_of b side) (store_of b) (store_of b)

record Facts : Type 0 where
  dials : ℕ
  accepts : ℕ
  sent : List ℕ
  used : List ℕ
  put : List Act
  dropped : ℕ
  held : ℕ
  within : Bool
  inside : Bool
  receives : Bool
  barred : Bool
  done : Bool
  ours : Bool
  row : prelude.Option ℕ
  built : ℕ
  front : List ℕ
  waits : ℕ
  made : ℕ
  closing : Option (ℕ × Option ℕ)

abbrev facts : ℕ → Facts
facts b =
    let n = length (store_of b) in
    let d = first_of b Dialler in
    let past = did d (before ++ behind) in
    let w = run d before in
    let there = did (first_of b Accepter) (answering b) in
    let v = run (first_of b Accepter) (answering b) in
    let j = pair_of b 1 in
    let view = seen v.connection v.receive j in
    let r = build_with b 1 find_intersect (replicate 33 0) in
    record {
      dials = (open_of (settings_of b Dialler) n n).number;
      accepts = (open_of (settings_of b Accepter) n n).number;
      sent = flatten (segments past);
      used = bytes_in there;
      put = acts 1 past;
      dropped = dropped_for j there;
      held = length (holding v j);
      within = ltb 1 (instances b);
      inside = ltb j (instances v.connection.settings.party.bundle);
      receives = receives v.connection (length v.receive);
      barred = barred view;
      done = at_done view;
      ours = ours_now view;
      row = leads_to view (said_in (message_of (speaks b 1) message));
      built = r.answer.number;
      front = lists.take r.answer.len r.buffer;
      waits = waits w 1;
      made = length (segments (did w behind));
      closing = closing_of (run d ((before ++ behind) ++ (feed fault ∷ []))).connection.gate;
    }

abbrev wire : ℕ → List ℕ
wire b = segment 0 0 propose ++ pieces (protocol_of b 1) 9 message

abbrev expected : ℕ → Facts
expected b =
    record {
      dials = 0;
      accepts = 0;
      sent = wire b;
      used = wire b;
      put = gave message ∷ [];
      dropped = 0;
      held = 33;
      within = true;
      inside = true;
      receives = true;
      barred = false;
      done = false;
      ours = false;
      row = Some 3;
      built = 0;
      front = message;
      waits = 33;
      made = 9;
      closing = some (11, none);
    }

computed : (b : ℕ) → known b ≡ true → facts b ≡ expected b
unfolding segment pieces all_below spelled octets base_of laid stream head_at head_by long_at simple_at initial shortest nest indefinite enter
    alike enter_chunk item.step item.met item.judge added decoded encoded find bundle_of instances route_of pair_of place_in next_in agency_in speaks form_in unsigned_at
    opens_at item_end key_at version_at element_at walk part_of fields_of numbered_of message_of flag_of build.made build.encoded given bytes_of build_of
    word_of count_of lowest_from seek settings_ok in_range open_of ours judged_of said heard hear_of drop_of putting.queue putting.put_of serve next_of
    feeding.feed_of feeding.feed_open feeding.used feeding.fed feeding.step feeding.kept feeding.headed feeding.admission
    run did step segments bytes_in acts dropped flat_map flatten
computed zero k = refl
computed (suc zero) k = refl
computed (suc (suc b)) k = absurd (let h : suc (suc b) < length bundles = ltb-true (suc (suc b)) (length bundles) k in omega arith)

-- ---- so they meet what is supposed

module _ (b : ℕ) (k : known b ≡ true) where
  fact : {A : Type 0} (f : Facts → A) → f (facts b) ≡ f (expected b)
  fact f = ap f (computed b k)

  opened : (side : Side) → Opened (settings_of b side) (store_of b) (store_of b)
  opened Dialler = record { receives = refl; sends = refl; done = fact (λ f. f.dials) }
  opened Accepter = record { receives = refl; sends = refl; done = fact (λ f. f.accepts) }

  abbrev end : (side : Side) (cs : List Call) → AllReal cs → End
  end side cs real = record { settings = settings_of b side; receive = store_of b; send = store_of b; opened = opened side; calls = cs; real = real }

  due : Due (end Dialler (before ++ behind) real_dialler) (end Accepter (answering b) (real_accepter b)) [] 1 find_intersect message
  unfolding flat_map
  due =
      record {
        joined = record { parties = refl; bytes = fact (λ f. f.sent) ∙ sym (fact (λ f. f.used)) ∙ sym (append-nil _) };
        within = ltb-true 1 (instances b) (fact (λ f. f.within));
        built = record { slices = (omega arith, omega arith); lent = replicate 33 0; done = fact (λ f. f.built); front = fact (λ f. f.front) };
        before = [];
        behind = [];
        put = fact (λ f. f.put);
        dropped = sym (fact (λ f. f.dropped));
        come = omega (arith, fact (λ f. f.held));
        asked = (fact (λ f. f.receives), ltb-true _ _ (fact (λ f. f.inside)));
        awaited = record { allowed = fact (λ f. f.barred); going = eqb-false _ _ (fact (λ f. f.done)); theirs = fact (λ f. f.ours) };
        next = 3;
        row = fact (λ f. f.row);
      }

pub all_met : AllMet
all_met b k =
    record {
      dialler = end b k Dialler (before ++ behind) real_dialler;
      accepter = end b k Accepter (answering b) (real_accepter b);
      party = refl;
      parts = find_intersect;
      message = message;
      due = due b k;
      before = before;
      behind = behind;
      calls = refl;
      waiting = omega (arith, fact b k (λ f. f.waits));
      made = omega (arith, fact b k (λ f. f.made), at_most b);
      fault = fault;
      real = bytes_segment 0 9 [] (unfold Bytes in tt);
      closes = fact b k (λ f. f.closing);
    }
