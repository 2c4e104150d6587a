-- Laws of headers: the record filled by bytes, and what a whole one leads to, as the code goes.
-- Assumes nothing.
use Rattle.std.specs.Prelude.{Ok, Err}
use mathlib.Core.Path.{◌≡◌, refl, sym, ap, ◌∙◌}
use mathlib.Core.Bool.{Bool, true, false}
use mathlib.Core.List.{List, [], ◌∷◌, ◌++◌, append-nil}
use Prim.Native.Nat.{ℕ, suc, ◌+◌, ◌≤◌, ◌<◌}
use native.Mathlib.Omega.{arith}
use native.Mathlib.Nat.{add-zero}
use borrow.Author.Tests.{lt-ltb}
use lib.Dec.{leb}
use lib.ListN.{length, get_or, set, drop_of_length-le}
use lib.Seq.{sets, sets-eq}
use Rattle.ring.specs.Ring.{run}
use Rattle.ring.proofs.Runs.{run_more}
use Rattle.wire.specs.declared.segment.Header.{Header}
use Rattle.wire.specs.declared.segment.Segment.{Segment}
use Rattle.wire.specs.declared.instances.Party.{Party}
use Rattle.wire.specs.Instances.{Route}
use Rattle.wire.specs.Segments.{header_length, added, decoded, empty}
use Rattle.wire.specs.Instances.{route_of}
use Rattle.connection.specs.declared.Closing.TheVariants.{Of}
use Rattle.connection.specs.declared.Gate.TheVariants.{Open}
use Rattle.admitting.specs.declared.Way.{Way}
use Rattle.admitting.specs.declared.Step.{Step}
use Rattle.admitting.specs.Admitting.{Reception, Admission, payload, admitted, admission, settled, headed, with_header}
use Rattle.admitting.specs.Inside.{Settles, Heads, filled}

-- ---- the record

filled_snoc : (h : Header) (xs : List ℕ) (b : ℕ) → filled h (xs ++ (b ∷ [])) ≡ added (filled h xs) b
unfolding filled
filled_snoc h [] b = refl
filled_snoc h (x ∷ xs) b = filled_snoc (added h x) xs b

-- one byte more of those from a place on
pub filled_next : (h : Header) (xs : List ℕ) (at j : ℕ) {k n : Header} → at + j < length xs
    → k ≡ filled h (run xs at j) → n ≡ added k (get_or xs (at + j) 0) → n ≡ filled h (run xs at (j + 1))
filled_next h xs at j l e f = f ∙ rw (e, run_more xs at j l, filled_snoc)

-- bytes that there is room for lie in the record from its count on
filled_room : (h : Header) (xs : List ℕ) → h.count + length xs ≤ header_length
    → filled h xs ≡ record { bytes = sets h.bytes h.count xs; count = h.count + length xs }
unfolding filled added
filled_room h [] l = rw (add-zero h.count)
filled_room h (x ∷ xs) l =
    let n : Header = record { bytes = set h.bytes h.count x; count = suc h.count } in
    let up : h.count + 1 ≡ suc h.count = omega arith in
    let one : added h x ≡ n = rw (lt-ltb h.count header_length (omega arith), up) in
    let more : suc h.count + length xs ≡ h.count + suc (length xs) = omega arith in
    ap (λ (k : Header). filled k xs) one ∙ filled_room n xs (omega arith)
    ∙ ap (λ (k : ℕ). record { bytes = sets n.bytes (suc h.count) xs; count = k }) more

-- so eight bytes leave nothing of what lay in a record without one
pub filled_whole : (h : Header) (xs : List ℕ) → h.count ≡ 0 → length h.bytes ≡ header_length → length xs ≡ header_length
    → filled h xs ≡ filled empty xs
filled_whole h xs none wide long = alone h none wide ∙ sym (alone empty refl refl)
  where
    alone : (h : Header) → h.count ≡ 0 → length h.bytes ≡ header_length → filled h xs ≡ record { bytes = xs; count = header_length }
    alone h none wide =
        let all : sets h.bytes 0 xs ≡ xs =
        sets-eq xs h.bytes 0 (omega arith) ∙ rw (drop_of_length-le h.bytes {i = 0 + length xs} (omega arith)) (append-nil xs) in
        filled_room h xs (omega arith) ∙ rw (none, all, long)

-- a whole header leads on whatever was in the record before
pub settled_anew : (s : Reception) (h : Header) (a : Admission)
    → settled (record { receiving = with_header s.receiving h; gate = s.gate; store = s.store }) a ≡ settled s a
settled_anew s h (Err x) = refl
settled_anew s h (Ok p) = refl

pub added_count : (h : Header) (b : ℕ) → h.count < header_length → (added h b).count ≡ suc h.count
unfolding added
added_count h b l = rw (lt-ltb h.count header_length l) (omega arith)

-- ---- a header byte, as the code goes

-- by the test of the room
pub room_enough : (caps held : List ℕ) (n i : ℕ) (t : Bool) → t ≡ leb (get_or held i 0 + n) (get_or caps i 0) → t ≡ true
    → Ok (payload i n) ≡ admitted caps held n (Ok i)
room_enough caps held n i t e y = let q : leb (get_or held i 0 + n) (get_or caps i 0) ≡ true = sym e ∙ y in rw q

pub room_short : (caps held : List ℕ) (n i : ℕ) (t : Bool) → t ≡ leb (get_or held i 0 + n) (get_or caps i 0) → t ≡ false
    → Err (Of 13 i) ≡ admitted caps held n (Ok i)
room_short caps held n i t e y = let q : leb (get_or held i 0 + n) (get_or caps i 0) ≡ false = sym e ∙ y in rw q

-- by what the header says
pub admission_by : (us : Party) (caps held : List ℕ) (h : Header) (d : Segment) (r : Route) → d ≡ decoded h.bytes
    → r ≡ route_of us d.protocol d.mode → admitted caps held d.len r ≡ admission us caps held h
unfolding admission
admission_by us caps held h d r e f = rw (f, e)

pub heads_whole : (us : Party) (caps held : List ℕ) (w : Way) (x : ℕ) (h : Header) (a : Admission) (t : Step) → h ≡ added w.header x
    → leb header_length h.count ≡ true → a ≡ admission us caps held h → Settles w a 1 t → Heads us caps held w x t
unfolding headed
heads_whole us caps held w x h a t e q f k =
    record { one = k.uses; leaves = λ starts store. k.leaves starts held store ∙ rw (← e, q, f) }

pub heads_part : (us : Party) (caps held : List ℕ) (w : Way) (x : ℕ) (h : Header) → h ≡ added w.header x
    → leb header_length h.count ≡ false → Heads us caps held w x (record { way = record { header = h; instance = w.instance; rest = w.rest }; gate = Open; used = 1 })
unfolding headed
heads_part us caps held w x h e q = record { one = refl; leaves = λ starts store. rw (← e, q) }
