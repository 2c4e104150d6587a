-- Laws of the lister. T17 is `lister`; that a step's contract leaves one answer is `once`.
-- Assumes nothing.
use Rattle.std.proofs.Common.{◌≡◌, ℕ, zero, suc, ◌+◌, ◌-◌, ◌%◌, ◌^◌, ◌<◌, ◌≤◌, min, Bool, true, false, cond, eqb, ltb, leb, List, [], ◌∷◌, ◌++◌, map, length, get_or, take, drop, sym, refl, ap, ◌∙◌, subst, append_assoc, append-nil, le_refl, add-zero, add_assoc, zero-add, arith, length-append, length-drop, take-append-drop, drop_of_length-le, length-take-le, take_all, drop-cons, take-suc, drop-drop, ltb-false, ltb-true, le-ltb, lt-ltb, ne_eqb}
use Rattle.std.specs.Prelude.{Option, None, Some}
use native.Mathlib.Nat.{sub-zero, mod-add-mod, min-zero}
use borrow.Author.Tests.{lt-leb}
use Rattle.base.proofs.Conds.{by_test, cond_cases}
use Rattle.wire.specs.declared.segment.Header.{Header}
use Rattle.wire.specs.declared.segment.Segment.{Segment}
use Rattle.wire.specs.Segments.{header_length, added, decoded, Carried, Divided, in_header, in_payload, whole}
use Rattle.wire.proofs.SegmentLaws.{part, add_part}
use Rattle.lister_core.specs.declared.Listing.{Listing}
use Rattle.lister_core.specs.declared.Step.{Step}
use Rattle.lister_core.specs.Lister.{Listed, plus, going, ending, after, head_byte, byte, then, fed, ended, lines_of, told, used_of, Stepped}
use Rattle.lister_core.specs.Besides.Lister.{Lists, Lister, Once}

-- ---- runs

cuts : (l : Listing) (xs ys : List ℕ) → fed l (xs ++ ys) ≡ then (fed l xs) (fed (fed l xs).listing ys)
unfolding fed
cuts l [] ys = refl
cuts l (b ∷ xs) ys = rw (cuts (byte l b).listing xs ys, append_assoc)

-- counts in 64 bits, one after the other
pub plus_plus : (n j k : ℕ) → plus (plus n j) k ≡ plus n (j + k)
plus_plus n j k = mod-add-mod (n + j) (2 ^ 64) k ∙ rw (add_assoc n j k)

pub fed_one : (l : Listing) (b : ℕ) → fed l (b ∷ []) ≡ byte l b
unfolding fed
fed_one l b = rw append-nil

-- ---- the ways out of a header byte

module _ (l : Listing) (b : ℕ) (h : Header) (e : h ≡ added l.header b) where
  pub head_whole : leb header_length h.count ≡ true → head_byte l b ≡ after l h (decoded h.bytes).len 1
  unfolding head_byte
  head_whole t = rw (← e, t)

  pub head_part : leb header_length h.count ≡ false → head_byte l b ≡ going l h 0 1
  unfolding head_byte
  head_part t = rw (← e, t)

-- ---- a payload

abbrev shorter : Listing → Listing
shorter l = record { header = l.header; rest = l.rest - 1; segments = l.segments; bytes = plus l.bytes 1 }

after_shorter : (l : Listing) (k : ℕ) → after (shorter l) l.header (l.rest - 1 - k) k ≡ after l l.header (l.rest - suc k) (suc k)
unfolding after
after_shorter l k =
    let e : l.rest - 1 - k ≡ l.rest - suc k = omega arith in
    let p : plus (plus l.bytes 1) k ≡ plus l.bytes (suc k) = plus_plus l.bytes 1 k ∙ ap (plus l.bytes) (omega arith) in
    rw (e, p)

-- a payload byte
paid : (l : Listing) (b : ℕ) → 0 < l.rest → byte l b ≡ after l l.header (l.rest - 1) 1
unfolding byte
paid l b h = rw (lt-ltb 0 l.rest h)

paid_more : (l : Listing) (b : ℕ) → 1 < l.rest → byte l b ≡ record { listing = shorter l; lines = [] }
unfolding after
paid_more l b h =
    paid l b (omega arith)
    ∙ ap (λ (t : Bool). cond t (going l l.header (l.rest - 1) 1) (ending l l.header 1)) (lt-ltb 0 (l.rest - 1) (omega arith))

-- some payload bytes, as many as are to come at the most
pub fed_payload : (l : Listing) (xs : List ℕ) → 0 < length xs → length xs ≤ l.rest
    → fed l xs ≡ after l l.header (l.rest - length xs) (length xs)
unfolding fed
fed_payload l [] some few = absurd (omega arith)
fed_payload l (b ∷ []) some few = fed_one l b ∙ paid l b (omega arith)
fed_payload l (b ∷ c ∷ xs) some few =
    next ∙ fed_payload (shorter l) (c ∷ xs) (omega arith) (omega arith) ∙ after_shorter l (length (c ∷ xs))
  where
    next : fed l (b ∷ c ∷ xs) ≡ fed (shorter l) (c ∷ xs)
    next = rw (paid_more l b (omega arith))

-- ---- the ways out of a step

-- past the end of the run
pub stepped_none : (l : Listing) (run : List ℕ) (from : ℕ) → length run ≤ from → Stepped l (drop from run) (record { listing = l; used = 0; line = None })
unfolding used_of fed
stepped_none l run from h = rw (drop_of_length-le run {i = from} h) (record { used = sym (min-zero (cond (ltb 0 l.rest) l.rest 1)); comes = refl })

-- in a payload
pub stepped_payload : (l : Listing) (bs : List ℕ) (r : Step) → 0 < l.rest → 0 < length bs → r.used ≡ min l.rest (length bs)
    → told r ≡ after l l.header (l.rest - min l.rest (length bs)) (min l.rest (length bs)) → Stepped l bs r
unfolding used_of
stepped_payload l bs r some more u e =
    let k = min l.rest (length bs) in
    let n : length (take k bs) ≡ k = length-take-le k bs (omega arith) in
    record {
      used = rw (lt-ltb 0 l.rest some) u;
      comes = e ∙ sym (ap (λ (j : ℕ). fed l (take j bs)) u ∙ fed_payload l (take k bs) (omega arith) (omega arith) ∙ rw n);
    }

-- in a header
pub stepped_header : (l : Listing) (run : List ℕ) (from : ℕ) (r : Step) → l.rest ≡ 0 → from < length run → r.used ≡ 1
    → told r ≡ head_byte l (get_or run from 0) → Stepped l (drop from run) r
unfolding used_of byte
stepped_header l run from r none more u e =
    let n : min 1 (length (drop from run)) ≡ 1 = omega (arith, length-drop from run) in
    record {
      used = rw (le-ltb 0 l.rest (omega arith)) (u ∙ sym n);
      comes = rw (u, drop-cons run from 0 more, fed_one) (e ∙ rw (le-ltb 0 l.rest (omega arith)));
    }

-- ---- step after step

-- a step uses some bytes where there are some, and the rest come to what all of them did
pub record Onward (l : Listing) (run : List ℕ) (from : ℕ) (r : Step) : Type 0 where
  pub some : 0 < r.used
  pub few : from + r.used ≤ length run
  pub same : (fed r.listing (drop (from + r.used) run)).listing ≡ (fed l (drop from run)).listing

pub onward : (l : Listing) (run : List ℕ) (from : ℕ) (r : Step) → from < length run → Stepped l (drop from run) r → Onward l run from r
unfolding used_of
onward l run from r more t =
    let bs = drop from run in
    let n : length bs ≡ length run - from = length-drop from run in
    let one : 0 < cond (ltb 0 l.rest) l.rest 1 = cond_cases (λ (k : ℕ). 0 < k) (ltb 0 l.rest) (λ q. ltb-true 0 l.rest q) (λ q. omega arith) in
    let u = t.used in
    record {
      some = omega arith;
      few = omega arith;
      same =
          ap (λ (m : Listed). (fed m.listing (drop (from + r.used) run)).listing) t.comes
          ∙ rw (← drop-drop r.used from run)
          (sym (ap (λ (xs : List ℕ). (fed l xs).listing) (sym (take-append-drop r.used bs)) ∙ ap (λ (m : Listed). m.listing) (cuts l (take r.used bs) (drop r.used bs))));
    }

-- ---- a header

-- so far s segments and x bytes, and of the next header the bytes hs
abbrev here : List ℕ → ℕ → ℕ → Listing
here hs s x = record { header = part hs; rest = 0; segments = s % 2 ^ 64; bytes = x % 2 ^ 64 }

-- what k bytes more make of x
further : (x k : ℕ) → plus (x % 2 ^ 64) k ≡ (x + k) % 2 ^ 64
further x k = mod-add-mod x (2 ^ 64) k

byte_part : (hs : List ℕ) (s x b : ℕ) → suc (length hs) < header_length
    → byte (here hs s x) b ≡ record { listing = here (hs ++ (b ∷ [])) s (x + 1); lines = [] }
unfolding byte head_byte
byte_part hs s x b h =
    let l : length (hs ++ (b ∷ [])) ≡ suc (length hs) = length-append hs (b ∷ []) ∙ omega arith in
    rw (add_part hs b (omega arith), lt-leb header_length (length (hs ++ (b ∷ []))) (omega arith), further x 1)

-- bytes of a header that is not whole with them
gather : (hs xs : List ℕ) (s x : ℕ) → length hs + length xs < header_length
    → fed (here hs s x) xs ≡ record { listing = here (hs ++ xs) s (x + length xs); lines = [] }
unfolding fed
gather hs [] s x h = rw (append-nil, add-zero)
gather hs (b ∷ xs) s x h =
    let l : length (hs ++ (b ∷ [])) ≡ suc (length hs) = length-append hs (b ∷ []) ∙ omega arith in
    let e : x + 1 + length xs ≡ x + suc (length xs) = omega arith in
    rw (byte_part hs s x b (omega arith), gather (hs ++ (b ∷ [])) xs s (x + 1) (omega arith), append_assoc hs (b ∷ []) xs, e)

-- the whole header h, with what it says
abbrev full : List ℕ → Header
full h = record { bytes = h; count = header_length }

byte_whole : (hs : List ℕ) (s x b : ℕ) → suc (length hs) ≡ header_length
    → byte (here hs s x) b ≡ after (here hs s x) (full (hs ++ (b ∷ []))) (decoded (hs ++ (b ∷ []))).len 1
unfolding byte head_byte
byte_whole hs s x b h =
    let l : length (hs ++ (b ∷ [])) ≡ header_length = length-append hs (b ∷ []) ∙ omega arith in
    let n : header_length - length (hs ++ (b ∷ [])) ≡ 0 = omega arith in
    rw (add_part hs b (omega arith), n, append-nil, l)

-- a step's way on counts its bytes, wherever the header's bytes are held
after_here : (hs : List ℕ) (s x k j n : ℕ) (h : Header) → after (here hs s (x + k)) h n j ≡ after (here [] s x) h n (k + j)
unfolding after
after_here hs s x k j n h = rw (further (x + k) j, further x (k + j), add_assoc)

last_byte : (h : List ℕ) → length h ≡ header_length → h ≡ take 7 h ++ (get_or h 7 0 ∷ [])
last_byte h e = sym (take_all 8 h (omega arith)) ∙ take-suc h 7 0 (omega arith)

fed_header : (h : List ℕ) (s x : ℕ) → length h ≡ header_length → fed (here [] s x) h ≡ after (here [] s x) (full h) (decoded h).len header_length
fed_header h s x e =
    let hs = take 7 h in
    let b = get_or h 7 0 in
    let n : length hs ≡ 7 = length-take-le 7 h (omega arith) in
    let q : fed (here [] s x) hs ≡ record { listing = here hs s (x + 7); lines = [] } =
    gather [] hs s x (omega arith) ∙ ap {B = Listed} (λ (k : ℕ). record { listing = here hs s (x + k); lines = [] }) n in
    rw (last_byte h e)
    (cuts (here [] s x) hs (b ∷ [])
    ∙ rw q (fed_one (here hs s (x + 7)) b ∙ byte_whole hs s (x + 7) b (omega arith) ∙ after_here hs s x 7 1 (decoded (hs ++ (b ∷ []))).len (full (hs ++ (b ∷ [])))))

-- the header h is in, and n payload bytes are to come
abbrev opened : List ℕ → ℕ → ℕ → Listing
opened h s x = record { header = full h; rest = (decoded h).len; segments = s % 2 ^ 64; bytes = (x + header_length) % 2 ^ 64 }

-- a header and some bytes after it
fed_after : (h p : List ℕ) (s x : ℕ) → length h ≡ header_length → 0 < (decoded h).len → fed (here [] s x) (h ++ p) ≡ fed (opened h s x) p
unfolding after
fed_after h p s x e some =
    let q : fed (here [] s x) h ≡ record { listing = opened h s x; lines = [] } =
    fed_header h s x e ∙ rw (lt-ltb 0 (decoded h).len some, further x header_length) in
    cuts (here [] s x) h p ∙ rw q

-- what a whole segment comes to
abbrev Ends : List ℕ → List ℕ → ℕ → ℕ → Type 0
Ends h p s x = fed (here [] s x) (h ++ p) ≡ record { listing = here [] (s + 1) (x + length (h ++ p)); lines = decoded h ∷ [] }

fed_none : (h : List ℕ) (s x : ℕ) → length h ≡ header_length → (decoded h).len ≡ 0 → Ends h [] s x
unfolding after
fed_none h s x e z =
    rw (append-nil h, e)
    (fed_header h s x e ∙ rw (le-ltb 0 (decoded h).len (omega arith), further x header_length, further s 1))

fed_some : (h p : List ℕ) (s x : ℕ) → length h ≡ header_length → length p ≡ (decoded h).len → 0 < (decoded h).len → Ends h p s x
unfolding after
fed_some h p s x e n some =
    let z : (decoded h).len - length p ≡ 0 = omega arith in
    let l : x + header_length + length p ≡ x + length (h ++ p) = omega (arith, length-append h p) in
    fed_after h p s x e some ∙ fed_payload (opened h s x) p (omega arith) (omega arith)
    ∙ rw (z, further s 1, further (x + header_length) (length p), l)

fed_segment : (h p : List ℕ) (s x : ℕ) → length h ≡ header_length → length p ≡ (decoded h).len → Ends h p s x
fed_segment h [] s x e n = fed_none h s x e (sym n)
fed_segment h (b ∷ p) s x e n = fed_some h (b ∷ p) s x e n (omega arith)

-- a payload of which n bytes are there, and not all
abbrev within : List ℕ → ℕ → ℕ → ℕ → Listed
within h s x n =
    record {
      listing = record { header = full h; rest = (decoded h).len - n; segments = s % 2 ^ 64; bytes = (x + header_length + n) % 2 ^ 64 };
      lines = [];
    }

fed_within : (h p : List ℕ) (s x : ℕ) → length p < (decoded h).len → fed (opened h s x) p ≡ within h s x (length p)
unfolding fed after
fed_within h [] s x few = rw (add-zero, sub-zero)
fed_within h (b ∷ p) s x few =
    let n = length (b ∷ p) in
    fed_payload (opened h s x) (b ∷ p) (omega arith) (omega arith)
    ∙ rw (lt-ltb 0 ((decoded h).len - n) (omega arith), further (x + header_length) n)

-- ---- T17

-- what bytes come to from s segments and x bytes on, by their whole segments and what is left of them
record Comes (r : Listed) (s x : ℕ) (xs : List ℕ) (cs : List Carried) (left : List ℕ) : Type 0 where
  lines : r.lines ≡ map (λ (c : Carried). c.header) cs
  ending : ended r.listing ≡ eqb (length left) 0
  segments : r.listing.segments ≡ (s + length cs) % 2 ^ 64
  bytes : r.listing.bytes ≡ (x + length xs) % 2 ^ 64

lists_from : (s x : ℕ) {xs left : List ℕ} {cs : List Carried} → Divided xs cs left → Comes (fed (here [] s x) xs) s x xs cs left
lists_from s x (in_header {bs} h) =
    rw (gather [] bs s x (omega arith)) (record { lines = refl; ending = refl; segments = rw add-zero; bytes = refl })
lists_from s x (in_payload h p e few) =
    let l : length (h ++ p) ≡ header_length + length p = length-append h p ∙ rw e in
    let q : x + header_length + length p ≡ x + length (h ++ p) = omega arith in
    rw (fed_after h p s x e (omega arith) ∙ fed_within h p s x few)
    (record { lines = refl; ending = sym (ne_eqb (length (h ++ p)) 0 (λ z. omega arith)); segments = rw add-zero; bytes = rw q })
lists_from s x (whole h p {bs} {left} {cs} e n d) =
    let f = lists_from (s + 1) (x + length (h ++ p)) d in
    let k : s + 1 + length cs ≡ s + suc (length cs) = omega arith in
    let l : x + length (h ++ p) + length bs ≡ x + length (h ++ p ++ bs) = omega (arith, length-append (h ++ p) bs) in
    rw (← append_assoc h p bs, cuts (here [] s x) (h ++ p) bs, fed_segment h p s x e n)
    (record {
      lines = ap (λ (ss : List Segment). decoded h ∷ ss) f.lines;
      ending = f.ending;
      segments = f.segments ∙ rw k;
      bytes = f.bytes ∙ rw l;
    })

lists : (xs left : List ℕ) (cs : List Carried) → Divided xs cs left → Lists xs cs left
lists xs left cs d =
    let f = lists_from 0 0 d in
    record {
      lines = f.lines;
      ending = f.ending;
      segments = f.segments ∙ rw zero-add;
      bytes = f.bytes ∙ rw zero-add;
    }

-- the whole segments of a run, and what is left of it
abbrev Division : List ℕ → Type 0
Division xs = (cs : List Carried) × (left : List ℕ) × Divided xs cs left

-- one segment more in front
more : (h p bs : List ℕ) → length h ≡ header_length → length p ≡ (decoded h).len → Division bs → Division (h ++ (p ++ bs))
more h p bs e n (cs, left, d) = (record { header = decoded h; payload = p } ∷ cs, left, whole h p e n d)

-- a run that begins with a header, given the division of what stands behind its payload
headed : (h r : List ℕ) → length h ≡ header_length → ((decoded h).len ≤ length r → Division (drop (decoded h).len r)) → Division (h ++ r)
headed h r e rest = by_test (ltb (length r) n) (λ t. ([], h ++ r, in_payload h r e (ltb-true (length r) n t))) (λ t. long (ltb-false (length r) n t))
  where
    n : ℕ
    n = (decoded h).len

    long : n ≤ length r → Division (h ++ r)
    long k = subst (λ (q : List ℕ). Division (h ++ q)) (take-append-drop n r) (more h (take n r) (drop n r) e (length-take-le n r k) (rest k))

divides_by : (n : ℕ) (xs : List ℕ) → length xs ≤ n → Division xs
divides_by zero xs few = ([], xs, in_header {bs = xs} (omega arith))
divides_by (suc n) xs few = by_test (ltb (length xs) header_length) (λ t. ([], xs, in_header (ltb-true (length xs) header_length t)))
    (λ t.
    let h = take header_length xs in
    let r = drop header_length xs in
    let enough : header_length ≤ length xs = ltb-false (length xs) header_length t in
    subst Division (take-append-drop header_length xs)
    (headed h r (length-take-le header_length xs enough)
    (λ k. divides_by n (drop (decoded h).len r) (omega (arith, length-drop (decoded h).len r, length-drop header_length xs)))))

divides : (xs : List ℕ) → Division xs
divides xs = divides_by (length xs) xs (le_refl (length xs))

pub lister : Lister
lister = record { divides = divides; lists = lists; cuts = cuts }

-- ---- one answer

same_lines : (l k : Option Segment) → lines_of l ≡ lines_of k → l ≡ k
same_lines None None e = refl
same_lines None (Some s) e = cc
same_lines (Some s) None e = cc
same_lines (Some s) (Some q) e = cc

abbrev step_of : Listing → ℕ → Option Segment → Step
step_of l n k = record { listing = l; used = n; line = k }

pub once : Once
once l bs r q x y =
    let u : r.used ≡ q.used = x.used ∙ sym y.used in
    let e : told r ≡ told q = x.comes ∙ ap (λ (k : ℕ). fed l (take k bs)) u ∙ sym y.comes in
    let i : r.listing ≡ q.listing = ap (λ (m : Listed). m.listing) e in
    let j : r.line ≡ q.line = same_lines r.line q.line (ap (λ (m : Listed). m.lines) e) in
    let k : step_of r.listing r.used r.line ≡ step_of q.listing q.used q.line = rw (i, j, u) in
    k
