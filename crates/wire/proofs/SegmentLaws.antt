-- Laws of segments. T5, the round trip of the header, is `round_trip`.
-- Assumes nothing.
use mathlib.Core.Path.{◌≡◌, refl, sym, ap, ◌∙◌}
use mathlib.Core.List.{List, [], ◌∷◌, ◌++◌, append-nil, append_assoc}
use Prim.Native.Nat.{ℕ, suc, ◌+◌, ◌-◌, ◌*◌, ◌/◌, ◌%◌, ◌^◌, ◌<◌, ◌≤◌}
use native.Mathlib.Omega.{arith}
use native.Mathlib.Numerals.{add-one}
use lib.ListN.{length, take, drop, set, replicate, length-append, length-drop, take-append-drop}
use lib.Seq.{sets, set_at, take_at, drop_at, take_all, take-add, take-suc-set, drop-drop, length-take-le}
use borrow.Author.Tests.{lt-ltb}
use Rattle.base.specs.Numbers.{Bytes, number, octets}
use Rattle.base.proofs.ListLaws.{sets_append}
use Rattle.base.proofs.NumberLaws.{length_octets, number_octets, octets_number, number_below, bytes_take, bytes_drop}
use Rattle.wire.specs.declared.segment.Segment.{Segment}
use Rattle.wire.specs.declared.segment.Header.{Header}
use Rattle.wire.specs.Segments.{header_length, decoded, encoded, added, Carried, Divided, in_header, in_payload, whole}
use Rattle.wire.specs.Inside.{Fits}
use Rattle.wire.specs.Besides.Segments.{RoundTrip, Adds, DividedOnce}

-- the three fields stored one after the other are the header
pub stored : (l : List ℕ) (s : Segment)
    → sets (sets (sets l 0 (octets 4 s.time)) 4 (octets 2 (s.mode * 2 ^ 15 + s.protocol))) 6 (octets 2 s.len) ≡ sets l 0 (encoded s)
unfolding encoded
stored l s =
    let t : List ℕ = octets 4 s.time in
    let w : List ℕ = octets 2 (s.mode * 2 ^ 15 + s.protocol) in
    sym (sets_append l 0 t (w ++ octets 2 s.len) ∙ rw (sets_append, length_octets 4, length_octets 2))

-- the parts of a header
module _ (s : Segment) where
  abbrev word : ℕ
  word = s.mode * 2 ^ 15 + s.protocol

  time_part : take 4 (encoded s) ≡ octets 4 s.time
  unfolding encoded
  time_part = take_at (octets 4 s.time) (octets 2 word ++ octets 2 s.len) 4 (length_octets 4 s.time)

  word_part : take 2 (drop 4 (encoded s)) ≡ octets 2 word
  unfolding encoded
  word_part =
      ap (take 2) (drop_at (octets 4 s.time) (octets 2 word ++ octets 2 s.len) 4 (length_octets 4 s.time))
      ∙ take_at (octets 2 word) (octets 2 s.len) 2 (length_octets 2 word)

  len_part : take 2 (drop 6 (encoded s)) ≡ octets 2 s.len
  unfolding encoded
  len_part =
      ap (take 2)
      (sym (drop-drop 2 4 (encoded s))
      ∙ ap (drop 2) (drop_at (octets 4 s.time) (octets 2 word ++ octets 2 s.len) 4 (length_octets 4 s.time))
      ∙ drop_at (octets 2 word) (octets 2 s.len) 2 (length_octets 2 word))
      ∙ take_all 2 (octets 2 s.len) (omega (arith, length_octets 2 s.len))

  read_written : Fits s → decoded (encoded s) ≡ s
  unfolding decoded
  read_written f =
      let t : number (take 4 (encoded s)) ≡ s.time = ap number time_part ∙ number_octets 4 s.time f.time in
      let w : number (take 2 (drop 4 (encoded s))) ≡ word = ap number word_part ∙ number_octets 2 word (omega arith) in
      let l : number (take 2 (drop 6 (encoded s))) ≡ s.len = ap number len_part ∙ number_octets 2 s.len f.len in
      let m : word / 2 ^ 15 ≡ s.mode = omega arith in
      let p : word % 2 ^ 15 ≡ s.protocol = omega arith in
      rw (t, w, l, m, p)

module _ (bs : List ℕ) (eight : length bs ≡ header_length) (bytes : Bytes bs) where
  piece : (k at : ℕ) → k + at ≤ 8 → (length (take k (drop at bs)) ≡ k) × Bytes (take k (drop at bs))
  piece k at h =
      (length-take-le k (drop at bs) (omega (arith, length-drop at bs)), bytes_take k (drop at bs) (bytes_drop at bs bytes))

  below : (k at : ℕ) → k + at ≤ 8 → number (take k (drop at bs)) < 256 ^ k
  below k at h = let p = piece k at h in rw p.0 at (number_below (take k (drop at bs)) p.1)

  again : (k at : ℕ) → k + at ≤ 8 → octets k (number (take k (drop at bs))) ≡ take k (drop at bs)
  again k at h = let p = piece k at h in rw p.0 at (octets_number (take k (drop at bs)) p.1)

  written_read : Fits (decoded bs) × (encoded (decoded bs) ≡ bs)
  unfolding decoded encoded
  written_read =
      let w = number (take 2 (drop 4 bs)) in
      let fits : w < 2 ^ 16 = below 2 4 (omega arith) in
      let back : w / 2 ^ 15 * 2 ^ 15 + w % 2 ^ 15 ≡ w = omega arith in (
        record { time = below 4 0 (omega arith); mode = omega arith; protocol = omega arith; len = below 2 6 (omega arith) },
        rw (again 4 0 (omega arith), back, again 2 4 (omega arith), again 2 6 (omega arith), ← drop-drop 2 4 bs, ← take-add 2 2 (drop 4 bs))
            (ap (λ (r : List ℕ). take 4 bs ++ r) (take_all 4 (drop 4 bs) (omega (arith, length-drop 4 bs))) ∙ take-append-drop 4 bs),
      )

pub round_trip : RoundTrip
round_trip = record { read_written = read_written; written_read = written_read }

-- ---- the header record

-- the header record with the bytes hs, of which there are eight at the most
abbrev pub part : List ℕ → Header
part hs = record { bytes = hs ++ replicate (header_length - length hs) 0; count = length hs }

pub add_part : (hs : List ℕ) (b : ℕ) → length hs < header_length → added (part hs) b ≡ part (hs ++ (b ∷ []))
unfolding added
add_part hs b h =
    let n = length hs in
    let e : header_length - n ≡ suc (header_length - suc n) = omega arith in
    let l : length (hs ++ (b ∷ [])) ≡ suc n = length-append hs (b ∷ []) ∙ omega arith in
    let s : set (hs ++ replicate (header_length - n) 0) n b ≡ hs ++ (b ∷ replicate (header_length - suc n) 0) =
    ap (λ (k : ℕ). set (hs ++ replicate k 0) n b) e ∙ set_at hs 0 (replicate (header_length - suc n) 0) b n refl in
    rw (lt-ltb n header_length h, s, l, append_assoc)
    (ap (λ (k : ℕ). record { bytes = hs ++ (b ∷ replicate (header_length - suc n) 0); count = k }) (omega arith))

-- a whole header has its bytes and no others
pub part_whole : (hs : List ℕ) → length hs ≡ header_length → (part hs).bytes ≡ hs
part_whole hs e =
    let z : header_length - length hs ≡ 0 = omega arith in
    ap (λ (k : ℕ). hs ++ replicate k 0) z ∙ append-nil hs

pub adds : Adds
unfolding added
adds h b eight some = rw (lt-ltb h.count header_length some, add-one) (take-suc-set h.bytes h.count b (omega arith))

-- ---- one division

-- fronts of the same length, and what is behind them
fronts : (a a' b b' : List ℕ) → length a ≡ length a' → a ++ b ≡ a' ++ b' → (a ≡ a') × (b ≡ b')
fronts a a' b b' n e = (
  sym (take_at a b (length a) refl) ∙ ap (take (length a)) e ∙ take_at a' b' (length a) (sym n),
  sym (drop_at a b (length a) refl) ∙ ap (drop (length a)) e ∙ drop_at a' b' (length a) (sym n),
)

-- too few bytes for a header
too_few : (bs h r : List ℕ) → length bs < header_length → length h ≡ header_length → bs ≡ h ++ r → ⊥
too_few bs h r few e q = omega (arith, ap length q ∙ length-append h r)

-- too few bytes for a payload
too_short : (h p h' p' bs : List ℕ) → length h ≡ header_length → length h' ≡ header_length → length p < (decoded h).len
    → length p' ≡ (decoded h').len → h ++ p ≡ h' ++ (p' ++ bs) → ⊥
too_short h p h' p' bs e e' few n q =
    let f = fronts h h' p (p' ++ bs) (e ∙ sym e') q in
    let l : (decoded h).len ≡ (decoded h').len = ap (λ (x : List ℕ). (decoded x).len) f.0 in
    omega (arith, ap length f.1 ∙ length-append p' bs)

once : {xs ys left left' : List ℕ} {cs cs' : List Carried} → Divided xs cs left → Divided ys cs' left' → xs ≡ ys → (cs ≡ cs') × (left ≡ left')
once (in_header h) (in_header k) q = (refl, q)
once (in_header {bs} few) (in_payload h p e n) q = absurd (too_few bs h p few e q)
once (in_header {bs} few) (whole h p {bs = r} e n d) q = absurd (too_few bs h (p ++ r) few e q)
once (in_payload h p e n) (in_header {bs} few) q = absurd (too_few bs h p few e (sym q))
once (in_payload h p e n) (in_payload h' p' e' n') q = (refl, q)
once (in_payload h p e few) (whole h' p' {bs} e' n d) q = absurd (too_short h p h' p' bs e e' few n q)
once (whole h p {bs = r} e n d) (in_header {bs} few) q = absurd (too_few bs h (p ++ r) few e (sym q))
once (whole h p {bs} e n d) (in_payload h' p' e' few) q = absurd (too_short h' p' h p bs e' e few n (sym q))
once (whole h p {bs} e n d) (whole h' p' {bs = bs'} e' n' d') q =
    let f = fronts h h' (p ++ bs) (p' ++ bs') (e ∙ sym e') q in
    let l : length p ≡ length p' = n ∙ ap (λ (x : List ℕ). (decoded x).len) f.0 ∙ sym n' in
    let g = fronts p p' bs bs' l f.1 in
    let r = once d d' g.1 in
    (rw (f.0, g.0, r.0), r.1)

pub divided_once : DividedOnce
divided_once xs left left' cs cs' d d' = once d d' refl

-- ---- a division with more behind it, and its end

-- bytes more are divided with those that were left
pub divided_on : {bs left left' : List ℕ} {cs cs' : List Carried} (zs : List ℕ) → Divided bs cs left → Divided (left ++ zs) cs' left'
    → Divided (bs ++ zs) (cs ++ cs') left'
divided_on zs (in_header h) d = d
divided_on zs (in_payload h p e n) d = d
divided_on zs (whole h p {bs = bs} e n k) d = rw (append_assoc h (p ++ bs) zs, append_assoc p bs zs) (whole h p e n (divided_on zs k d))

-- a header with its payload, and nothing behind it
pub divided_whole : (h p : List ℕ) → length h ≡ header_length → length p ≡ (decoded h).len
    → Divided (h ++ p) (record { header = decoded h; payload = p } ∷ []) []
divided_whole h p e n = rw append-nil at (whole h p {bs = []} e n (in_header {bs = []} (omega arith)))

-- what is left stands at the end of the bytes
pub divided_ends : {bs left : List ℕ} {cs : List Carried} → Divided bs cs left → (front : List ℕ) × (bs ≡ front ++ left)
divided_ends (in_header h) = ([], refl)
divided_ends (in_payload h p e n) = ([], refl)
divided_ends (whole h p {left = left} e n d) =
    let q = divided_ends d in
    let inner : (p ++ q.0) ++ left ≡ p ++ (q.0 ++ left) = append_assoc p q.0 left in
    (h ++ (p ++ q.0), ap (λ (l : List ℕ). h ++ (p ++ l)) q.1 ∙ sym (append_assoc h (p ++ q.0) left ∙ ap (λ (l : List ℕ). h ++ l) inner))
