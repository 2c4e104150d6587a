-- What `write` and `read` leave: one straight copy, or two. r is the place of byte n in the area.
-- Assumes nothing.
use mathlib.Core.Path.{◌≡◌, sym, ap, ◌∙◌}
use mathlib.Core.List.{List, ◌++◌}
use Prim.Native.Nat.{ℕ, ◌+◌, ◌-◌, ◌%◌, ◌<◌, ◌≤◌}
use native.Mathlib.Omega.{arith}
use lib.ListN.{length}
use lib.Seq.{sets}
use Rattle.base.proofs.ListLaws.{sets_append}
use Rattle.ring.specs.Ring.{stream, laid, run}
use Rattle.ring.proofs.Runs.{run_length, run-append}
use Rattle.ring.proofs.Stores.{stream_straight, stream_wraps, laid_straight, laid_wraps}

module _ (s : List ℕ) (b c n r : ℕ) (at : r ≡ n % c) (src : List ℕ) (i k : ℕ) (in_src : i + k ≤ length src) where
  pub written_straight : {t : List ℕ} → r + k ≤ c → t ≡ sets s (b + r) (run src i k) → t ≡ laid s b c n (run src i k)
  written_straight h e =
      e ∙ rw (at, laid_straight s b c n (run src i k) (omega (arith, run_length src i k in_src)))

  pub written_wraps : {t u : List ℕ} → r < c → c - r < k → k ≤ c
      → t ≡ sets s (b + r) (run src i (c - r)) → u ≡ sets t b (run src (i + (c - r)) (k - (c - r)))
      → u ≡ laid s b c n (run src i k)
  written_wraps low more h e e' =
      let j : ℕ = c - r in
      let front : List ℕ = run src i j in
      let rest : List ℕ = run src (i + j) (k - j) in
      let whole : j + (k - j) ≡ k = omega arith in
      let to_end : n % c + length front ≡ c = omega (arith, run_length src i j (omega arith)) in
      let fits : length rest ≤ c = omega (arith, run_length src (i + j) (k - j) (omega arith)) in
      e'
      ∙ ap (λ (l : List ℕ). sets l b rest) (e ∙ ap (λ (m : ℕ). sets s (b + m) front) at)
      ∙ sym (laid_wraps s b c n front rest to_end fits)
      ∙ ap (laid s b c n) (sym (run-append src i j (k - j)) ∙ ap (run src i) whole)

module _ (d : List ℕ) (to : ℕ) (s : List ℕ) (b c n r : ℕ) (at : r ≡ n % c) (k : ℕ) (in_store : b + c ≤ length s) where
  pub read_straight : {t : List ℕ} → r + k ≤ c → t ≡ sets d to (run s (b + r) k) → t ≡ sets d to (stream s b c n k)
  read_straight h e = e ∙ rw (at, stream_straight s b c n k (omega arith) in_store)

  pub read_wraps : {t u : List ℕ} → r < c → c - r < k → k ≤ c
      → t ≡ sets d to (run s (b + r) (c - r)) → u ≡ sets t (to + (c - r)) (run s b (k - (c - r)))
      → u ≡ sets d to (stream s b c n k)
  read_wraps low more h e e' =
      let j : ℕ = c - r in
      let front : List ℕ = run s (b + r) j in
      let rest : List ℕ = run s b (k - j) in
      let whole : j + (k - j) ≡ k = omega arith in
      let long : length front ≡ j = run_length s (b + r) j (omega arith) in
      e'
      ∙ ap (λ (l : List ℕ). sets l (to + j) rest) e
      ∙ ap (λ (m : ℕ). sets (sets d to front) (to + m) rest) (sym long)
      ∙ sym (sets_append d to front rest)
      ∙ ap (λ (m : ℕ). sets d to (run s (b + m) j ++ rest)) at
      ∙ ap (sets d to) (sym (stream_wraps s b c n j (k - j) (omega arith) (omega arith) in_store) ∙ ap (stream s b c n) whole)
