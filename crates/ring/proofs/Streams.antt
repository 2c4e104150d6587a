-- Laws of streams, of which the first bytes are gone and the others lie in an area: of one, and of every instance's, where bytes of one instance go
-- or come.
-- Assumes nothing.
use mathlib.Core.Path.{◌≡◌, refl, sym, ap, ◌∙◌}
use mathlib.Core.Bool.{cond}
use mathlib.Core.List.{List, [], ◌++◌, append-nil}
use mathlib.Core.Logic.{◌≢◌}
use Prim.Native.Nat.{ℕ, ◌+◌, ◌-◌, ◌%◌, ◌≤◌, ◌<◌}
use native.Mathlib.Omega.{arith}
use native.Mathlib.Nat.{mod-mod, mod-add-mod}
use borrow.Author.Tests.{eq-eqb, ne_eqb, eqb-true, eqb-false}
use lib.Dec.{eqb}
use lib.ListN.{length, get_or, set, length-append}
use lib.Seq.{get_or-append-add, get_or-set_same, get_or-set_other}
use Rattle.base.proofs.Conds.{by_test}
use Rattle.base.proofs.ListLaws.{at_set}
use Rattle.ring.specs.Ring.{base_of, place, laid, stream}
use Rattle.ring.proofs.Stores.{stream_length, stream_append, stream_same, stream_at, stream_behind}
use Rattle.ring.proofs.Areas.{area_in_store, stream_stays}

module _ (store : List ℕ) (base cap start count : ℕ) where
  -- n bytes go, and the others stay
  stream_freed : (n : ℕ) → n ≤ count
      → stream store base cap start count ≡ stream store base cap start n ++ stream store base cap ((start + n) % cap) (count - n)
  stream_freed n l =
      let e : count ≡ n + (count - n) = omega arith in
      ap (λ (m : ℕ). stream store base cap start m) e
      ∙ stream_append store base cap start n (count - n)
      ∙ ap (λ (r : List ℕ). stream store base cap start n ++ r)
      (stream_same store base cap (start + n) ((start + n) % cap) (count - n) (sym (mod-mod (start + n) cap)))

  module _ (all gone : List ℕ) (e : all ≡ gone ++ stream store base cap start count) where
    -- how many there are
    pub stream_count : length all ≡ length gone + count
    stream_count = ap length e ∙ length-append gone (stream store base cap start count) ∙ rw stream_length

    -- byte n lies at place n mod capacity
    pub stream_place : start ≡ length gone % cap → (n : ℕ) → length gone ≤ n → n < length all → get_or store (place base cap n) 0 ≡ get_or all n 0
    stream_place s n low high =
        let k : ℕ = n - length gone in
        let q : length gone + k ≡ n = omega arith in
        let here : (start + k) % cap ≡ n % cap = rw (s, mod-add-mod, q) in
        sym
        (ap (λ (xs : List ℕ). get_or xs n 0) e
        ∙ ap (λ (m : ℕ). get_or (gone ++ stream store base cap start count) m 0) (sym q)
        ∙ get_or-append-add gone (stream store base cap start count) k 0
        ∙ stream_at store base cap start count k (omega (arith, stream_count))
        ∙ ap (λ (m : ℕ). get_or store (base + m) 0) here)

-- ---- of every instance

-- the bytes of instance i in a store, by capacities, start places and counts
abbrev pub queue_at : List ℕ → List ℕ → List ℕ → List ℕ → ℕ → List ℕ
queue_at store caps starts counts i = stream store (base_of caps i) (get_or caps i 0) (get_or starts i 0) (get_or counts i 0)

module _ (store caps starts counts : List ℕ) (j : ℕ) where
  -- n bytes of instance j go
  module _ (n : ℕ) (in-starts : j < length starts) where
    abbrev pub later : List ℕ
    later = set starts j ((get_or starts j 0 + n) % get_or caps j 0)

    pub queue_freed : j < length counts → n ≤ get_or counts j 0 → (i : ℕ)
        → queue_at store caps starts counts i
        ≡ cond (eqb j i) (stream store (base_of caps j) (get_or caps j 0) (get_or starts j 0) n) []
        ++ queue_at store caps later (set counts j (get_or counts j 0 - n)) i
    queue_freed in-counts few i =
        by_test (eqb j i)
        (λ q.
        let e : j ≡ i = eqb-true j i q in
        rw (
          q,
          ← e,
          get_or-set_same starts j ((get_or starts j 0 + n) % get_or caps j 0) 0 in-starts,
          get_or-set_same counts j (get_or counts j 0 - n) 0 in-counts,
        )
        (stream_freed store (base_of caps j) (get_or caps j 0) (get_or starts j 0) (get_or counts j 0) n few))
        (λ q.
        let ne : i ≢ j = λ e. eqb-false j i q (sym e) in
        rw (
          q,
          get_or-set_other starts j i ((get_or starts j 0 + n) % get_or caps j 0) 0 ne,
          get_or-set_other counts j i (get_or counts j 0 - n) 0 ne,
        ))

    -- and each start place is as many bytes on as are gone
    pub starts_freed : (gone xs : List ℕ) → length xs ≡ n → (i : ℕ) → get_or starts i 0 ≡ length gone % get_or caps i 0
        → get_or later i 0 ≡ length (gone ++ cond (eqb j i) xs []) % get_or caps i 0
    starts_freed gone xs long =
        at_set (λ i m. get_or starts i 0 ≡ length gone % get_or caps i 0 → m ≡ length (gone ++ cond (eqb j i) xs []) % get_or caps i 0) starts j
        ((get_or starts j 0 + n) % get_or caps j 0) in-starts (λ at. rw (eq-eqb j j refl, length-append, long, at, mod-add-mod))
        (λ i ne at. rw (ne_eqb j i (λ e. ne (sym e)), append-nil) at)

  -- bytes xs are laid behind those of instance j, one of m
  pub queue_laid : (m : ℕ) (xs : List ℕ) → length store ≡ base_of caps m → ((i : ℕ) → i < m → 0 < get_or caps i 0)
      → j < m → j < length counts → get_or counts j 0 + length xs ≤ get_or caps j 0 → (i : ℕ) → i < m
      → queue_at (laid store (base_of caps j) (get_or caps j 0) (get_or starts j 0 + get_or counts j 0) xs) caps starts
      (set counts j (get_or counts j 0 + length xs)) i
      ≡ queue_at store caps starts counts i ++ cond (eqb j i) xs []
  queue_laid m xs all some in-caps in-counts fit =
      at_set
      (λ i n.
      i < m
      → stream (laid store (base_of caps j) (get_or caps j 0) (get_or starts j 0 + get_or counts j 0) xs) (base_of caps i) (get_or caps i 0) (get_or starts i 0) n
      ≡ queue_at store caps starts counts i ++ cond (eqb j i) xs [])
      counts j (get_or counts j 0 + length xs) in-counts
      (λ l.
      rw (eq-eqb j j refl)
      (stream_behind store (base_of caps j) (get_or caps j 0) (get_or starts j 0) (get_or counts j 0) xs fit (area_in_store store caps j m all in-caps)))
      (λ i ne l.
      rw (ne_eqb j i (λ e. ne (sym e)), append-nil)
      (stream_stays store caps i j (get_or starts i 0) (get_or counts i 0) (get_or starts j 0 + get_or counts j 0) xs ne (some i l) (some j in-caps)))
