-- Which number build answers, and what it leaves: `exactly`, `not_a_message`, `untouched`, `stands`; what it makes reads back and is made
-- again of its own parts: `reads_back`, `givable`, `rebuilds`.
-- Assumes nothing.
use Rattle.std.proofs.Common.{Option, Some, None}
use Prim.Native.Nat.{ℕ, zero, suc, ◌+◌, ◌^◌, ◌<◌, ◌≤◌}
use mathlib.Core.Path.{◌≡◌, refl, sym, ap, subst, subst⁻¹, ◌∙◌}
use mathlib.Core.Bool.{Bool, true, false, true≢false}
use mathlib.Core.List.{List, [], ◌∷◌, ◌++◌}
use mathlib.Core.Logic.{◌↔◌}
use native.Mathlib.Omega.{arith}
use lib.Dec.{ltb}
use lib.ListN.{length, take, drop}
use lib.Seq.{sets, sets-eq, take_at}
use borrow.Author.Tests.{lt-ltb, le-ltb, ltb-true, ltb-false}
use Rattle.base.specs.Numbers.{Bytes}
use Rattle.base.proofs.Conds.{by_test, cond_cases, exactly_when}
use Rattle.wire.specs.Instances.{bundles, known, instances}
use Rattle.wire.proofs.InstanceLaws.{known_some}
use Rattle.rows.specs.Spoken.{speaks}
use Rattle.elements.specs.Besides.Matching.{Value}
use Rattle.messages.specs.Besides.Matching.{Matches}
use Rattle.parts.specs.Given.{all_given}
use Rattle.parts.specs.Counting.{on_some}
use Rattle.parts.proofs.Counting.{Found}
use Rattle.build.specs.declared.Built.{Built}
use Rattle.build.specs.Made.{encoded}
use Rattle.build.specs.Building.{Told, told, refused, given, bytes_of, handed, build_of}
use Rattle.build.specs.Besides.Theorem.{numbers_of, runs_of, Slices, OwnLeast}
use Rattle.build.specs.Besides.Numbers.{When, unknown_bundle, no_instance, makes_none, no_room, done, Exactly, NoMessage, Untouched, Stands, ReadsBack, Givable, Rebuilds}
use Rattle.build.proofs.Few.{form_few, runs_counted}
use Rattle.build.proofs.MadeBytes.{AllBytes, encoded_bytes}
use Rattle.build.proofs.Pieces.{message_made}
use Rattle.build.proofs.Theorem.{read_back}
use Rattle.build.proofs.Rebuilt.{rebuilds as made-again-of}

-- what holds of no runs, of the first and of both holds of those given
given_each : (P : List (List ℕ) → Type 0) (runs : ℕ) (first second : List ℕ) → P [] → P (first ∷ []) → P (first ∷ second ∷ [])
    → Found P (given runs first second)
unfolding given
given_each P runs first second x y z = cond_cases (Found P) (all_given runs first second) (λ _. of runs) (λ _. tt)
  where
    of : (n : ℕ) → P (take n (first ∷ second ∷ []))
    of zero = x
    of (suc zero) = y
    of (suc (suc zero)) = z
    of (suc (suc (suc n))) = z

-- a lent slice is as long as a number of 64 bits says
given_slices : (runs : ℕ) (first second : List ℕ) → length first < 2 ^ 64 → length second < 2 ^ 64 → Found Slices (given runs first second)
given_slices runs first second h l = given_each Slices runs first second tt (h, tt) (h, (l, tt))

given_bytes : (runs : ℕ) (first second : List ℕ) → Bytes first → Bytes second → Found AllBytes (given runs first second)
given_bytes runs first second h l = given_each AllBytes runs first second tt (h, tt) (h, (l, tt))

-- two runs can be given
two_given : (rs : List (List ℕ)) → length rs ≤ 2 → (runs : ℕ) × (first : List ℕ) × (second : List ℕ) × (given runs first second ≡ Some rs)
unfolding given
two_given [] h = (0, [], [], refl)
two_given (r ∷ []) h = (1, r, [], refl)
two_given (r ∷ (s ∷ [])) h = (2, r, s, refl)
two_given (r ∷ (s ∷ (t ∷ rs))) h = absurd (omega arith)

module _ (bundle i kind : ℕ) (asked : Bool) (ns : List ℕ) (runs : ℕ) (first second buf : List ℕ) where
  abbrev out : Told
  out = build_of bundle i kind asked ns runs first second buf

  abbrev message : Option (List ℕ)
  message = bytes_of (speaks bundle i) kind asked ns runs first second

  abbrev number : ℕ
  number = out.answer.number

  -- the five ways that build can go
  data Way : Type 0 where
    foreign : known bundle ≡ false → out ≡ refused buf 23 → Way
    above : known bundle ≡ true → instances bundle ≤ i → out ≡ refused buf 10 → Way
    unmade : i < instances bundle → message ≡ None → out ≡ refused buf 15 → Way
    short : i < instances bundle → (bs : List ℕ) → message ≡ Some bs → length buf < length bs → out ≡ refused buf 18 → Way
    made : i < instances bundle → (bs : List ℕ) → message ≡ Some bs → length bs ≤ length buf
        → out ≡ told (record { number = 0; len = length bs }) (sets buf 0 bs) → Way

  by_message : i < instances bundle → (o : Option (List ℕ)) → message ≡ o → out ≡ handed buf o → Way
  by_message low None e q = unmade low e q
  by_message low (Some bs) e q =
      by_test (ltb (length buf) (length bs)) (λ t. short low bs e (ltb-true (length buf) (length bs) t) (q ∙ rw t))
      (λ t. made low bs e (ltb-false (length buf) (length bs) t) (q ∙ rw t))

  way : Way
  unfolding build_of
  way =
      by_test (known bundle)
      (λ k.
      by_test (ltb i (instances bundle)) (λ t. by_message (ltb-true i (instances bundle) t) message refl (rw (k, t)))
      (λ t. above k (ltb-false i (instances bundle) t) (rw (k, t))))
      (λ k. foreign k (rw k))

  -- a bundle that has an instance is known
  has : i < instances bundle → known bundle ≡ true
  has low = lt-ltb bundle (length bundles) (known_some bundle i low)

  never : i < instances bundle → known bundle ≡ false → ⊥
  never low k = true≢false (sym (has low) ∙ k)

  numbered : (n : ℕ) → out ≡ refused buf n → number ≡ n
  numbered n e = ap (λ (x : Told). x.answer.number) e

  zeroed : (bs : List ℕ) → out ≡ told (record { number = 0; len = length bs }) (sets buf 0 bs) → number ≡ 0
  zeroed bs e = ap (λ (x : Told). x.answer.number) e

  apart : (bs : List ℕ) → message ≡ Some bs → message ≡ None → ⊥
  apart bs e q = let z : ◌≡◌ {A = ℕ} 0 1 = cc in omega arith

  -- where the "when" of a number holds, it is answered; and one holds
  answered : {n : ℕ} → When bundle i kind asked ns runs first second buf n → number ≡ n
  unfolding build_of
  answered (unknown_bundle k) = numbered 23 (rw k)
  answered (no_instance k h) = numbered 10 (rw (k, le-ltb i (instances bundle) h))
  answered (makes_none h e) = numbered 15 (rw (has h, lt-ltb i (instances bundle) h, e))
  answered (no_room {bs = bs} h e l) = numbered 18 (rw (has h, lt-ltb i (instances bundle) h, e, lt-ltb (length buf) (length bs) l))
  answered (done {bs = bs} h e l) = zeroed bs (rw (has h, lt-ltb i (instances bundle) h, e, le-ltb (length buf) (length bs) l))

  when : Way → (n : ℕ) × When bundle i kind asked ns runs first second buf n
  when (foreign k e) = (23, unknown_bundle k)
  when (above k h e) = (10, no_instance k h)
  when (unmade h m e) = (15, makes_none h m)
  when (short h bs m l e) = (18, no_room h m l)
  when (made h bs m l e) = (0, done h m l)

  -- the bytes are a message that says these parts, with own heads as short as can be
  abbrev Back : List ℕ → Option (List (List ℕ)) → Type 0
  Back bs o = (xs : List Value) × (m : Matches (speaks bundle i) bs kind xs) × (numbers_of xs ≡ ns) × (o ≡ Some (runs_of bs xs)) × OwnLeast asked m

  -- the message that was made of these runs
  back_by : (o : Option (List (List ℕ))) (bs : List ℕ) → Found Slices o → on_some o (λ rs. encoded (speaks bundle i) kind asked ns rs) ≡ Some bs → Back bs o
  back_by None bs fit e = absurd (let z : ◌≡◌ {A = ℕ} 0 1 = cc in omega arith)
  back_by (Some rs) bs fit e = let r = read_back (speaks bundle i) kind asked ns rs bs fit e in (r.0, r.1, r.2, ap Some (sym r.3), r.4)

  bytes_by : (o : Option (List (List ℕ))) (bs : List ℕ) → Found AllBytes o → on_some o (λ rs. encoded (speaks bundle i) kind asked ns rs) ≡ Some bs → Bytes bs
  bytes_by None bs fit e = absurd (let z : ◌≡◌ {A = ℕ} 0 1 = cc in omega arith)
  bytes_by (Some rs) bs fit e = subst (Found Bytes) e (encoded_bytes (speaks bundle i) kind asked ns rs fit)

  -- no bytes are a message that says these parts
  abbrev Nothing : Type 0
  Nothing =
      (bs : List ℕ) (xs : List Value) → Bytes bs → Matches (speaks bundle i) bs kind xs → numbers_of xs ≡ ns
      → given runs first second ≡ Some (runs_of bs xs) → ⊥

  none_made : message ≡ None → Nothing
  unfolding bytes_of
  none_made e bs xs bytes m n g =
      let again = message_made bs asked (speaks bundle i) bytes m in
      let same : message ≡ Some again.0 = rw (g, ← n) again.1 in
      apart again.0 same e

  module _ (bf : Bytes first) (bs : Bytes second) (h : length first < 2 ^ 64) (l : length second < 2 ^ 64) where
    something : (cs : List ℕ) → message ≡ Some cs → Nothing → ⊥
    unfolding bytes_of
    something cs e nowhere =
        let r = back_by (given runs first second) cs (given_slices runs first second h l) e in
        nowhere cs r.0 (bytes_by (given runs first second) cs (given_bytes runs first second bf bs) e) r.1 r.2 r.3

    fifteen : Way → (number ≡ 15) ↔ ((i < instances bundle) × Nothing)
    fifteen (foreign k e) = (λ q. absurd (omega (arith, numbered 23 e)), λ q. absurd (never q.0 k))
    fifteen (above k h e) = (λ q. absurd (omega (arith, numbered 10 e)), λ q. absurd (omega (arith, q.0)))
    fifteen (unmade h m e) = (λ q. (h, none_made m), λ q. numbered 15 e)
    fifteen (short h cs m l e) = (λ q. absurd (omega (arith, numbered 18 e)), λ q. absurd (something cs m q.1))
    fifteen (made h cs m l e) = (λ q. absurd (omega (arith, zeroed cs e)), λ q. absurd (something cs m q.1))

  module _ (b : Built) (after : List ℕ) (is : told b after ≡ out) where
    as_was : (n : ℕ) → out ≡ refused buf n → (b.len ≡ 0) × (after ≡ buf)
    as_was n e = (ap (λ (x : Told). x.answer.len) (is ∙ e), ap (λ (x : Told). x.buffer) (is ∙ e))

    number_is : (n : ℕ) → out ≡ refused buf n → b.number ≡ n
    number_is n e = ap (λ (x : Told). x.answer.number) (is ∙ e)

    untouched_by : Way → (b.number ≡ 0 → ⊥) → (b.len ≡ 0) × (after ≡ buf)
    untouched_by (foreign k e) z = as_was 23 e
    untouched_by (above k h e) z = as_was 10 e
    untouched_by (unmade h m e) z = as_was 15 e
    untouched_by (short h bs m l e) z = as_was 18 e
    untouched_by (made h bs m l e) z = absurd (z (ap (λ (x : Told). x.answer.number) (is ∙ e)))

    stands_by : Way → b.number ≡ 0 → (bs : List ℕ) × (message ≡ Some bs) × (b.len ≡ length bs) × (after ≡ bs ++ drop (length bs) buf)
    stands_by (foreign k e) z = absurd (omega (arith, number_is 23 e))
    stands_by (above k h e) z = absurd (omega (arith, number_is 10 e))
    stands_by (unmade h m e) z = absurd (omega (arith, number_is 15 e))
    stands_by (short h bs m l e) z = absurd (omega (arith, number_is 18 e))
    stands_by (made h bs m l e) z =
        let at : 0 + length bs ≡ length bs = omega arith in (
          bs,
          m,
          ap (λ (x : Told). x.answer.len) (is ∙ e),
          ap (λ (x : Told). x.buffer) (is ∙ e) ∙ sets-eq bs buf 0 (omega arith) ∙ ap (λ (n : ℕ). bs ++ drop n buf) at,
        )

    reads_by : length first < 2 ^ 64 → length second < 2 ^ 64 → b.number ≡ 0 → Back (take b.len after) (given runs first second)
    unfolding bytes_of
    reads_by h l z =
        let s = stands_by way z in
        let bs : List ℕ = s.0 in
        let front : take b.len after ≡ bs = ap (take b.len) s.3 ∙ take_at bs (drop (length bs) buf) b.len (sym s.2) in
        subst⁻¹ (λ (cs : List ℕ). Back cs (given runs first second)) front
        (back_by (given runs first second) bs (given_slices runs first second h l) s.1)

    -- the message cs is made, and there is room
    made_again : (cs : List ℕ) → i < instances bundle → message ≡ Some cs → length cs ≤ length buf
        → (b.number ≡ 0) × (b.len ≡ length cs) × (take b.len after ≡ cs)
    unfolding build_of
    made_again cs low e room =
        let q : told b after ≡ told (record { number = 0; len = length cs }) (sets buf 0 cs) =
        is ∙ rw (has low, lt-ltb i (instances bundle) low, e, le-ltb (length buf) (length cs) room) in
        let n : b.len ≡ length cs = ap (λ (x : Told). x.answer.len) q in (
          ap (λ (x : Told). x.answer.number) q,
          n,
          ap (take b.len) (ap (λ (x : Told). x.buffer) q ∙ sets-eq cs buf 0 (omega arith))
              ∙ take_at cs (drop (0 + length cs) buf) b.len (sym n),
        )

pub exactly : Exactly
exactly bundle i kind asked ns runs first second buf n =
    let (k, w) = when bundle i kind asked ns runs first second buf (way bundle i kind asked ns runs first second buf) in
    let is : (n : ℕ) → When bundle i kind asked ns runs first second buf n → (build_of bundle i kind asked ns runs first second buf).answer.number ≡ n =
    λ n v. answered bundle i kind asked ns runs first second buf v in
    exactly_when (When bundle i kind asked ns runs first second buf) (is k w) w (is n)

pub untouched : Untouched
untouched bundle i kind asked ns runs first second buf b after q z = untouched_by bundle i kind asked ns runs first second buf b after q (way bundle i kind asked ns runs first second buf) z

pub stands : Stands
stands bundle i kind asked ns runs first second buf b after q z = stands_by bundle i kind asked ns runs first second buf b after q (way bundle i kind asked ns runs first second buf) z

pub reads_back : ReadsBack
reads_back bundle i kind asked ns runs first second buf b after h l q z = reads_by bundle i kind asked ns runs first second buf b after q h l z

pub not_a_message : NoMessage
not_a_message bundle i kind asked ns runs first second buf bf bs h l =
    fifteen bundle i kind asked ns runs first second buf bf bs h l (way bundle i kind asked ns runs first second buf)

pub givable : Givable
givable p bs kind xs m = two_given (runs_of bs xs) (omega (arith, runs_counted bs m.matched, (form_few p kind m.form).runs))

pub rebuilds : Rebuilds
unfolding bytes_of
rebuilds bundle i kind asked bs xs runs first second buf b after low bytes small m asks brief g room q =
    let again = made-again-of (speaks bundle i) bs kind xs asked bytes small m in
    let cs : List ℕ = again.message in
    let e : bytes_of (speaks bundle i) kind asked (numbers_of xs) runs first second ≡ Some cs = rw g again.made in
    let shorter : length cs ≤ length bs = again.no_longer asks brief in
    let r = made_again bundle i kind asked (numbers_of xs) runs first second buf b after q cs low e (omega arith) in
    (r.0, omega (arith, r.1), (λ e. again.same.0 (sym r.2 ∙ e), λ s. r.2 ∙ again.same.1 s))
