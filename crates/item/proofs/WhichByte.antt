-- Which byte is bad: `which_byte`, from what each verdict says.
-- Assumes nothing.
use Prim.Native.Nat.{ℕ, suc, ◌<◌}
use mathlib.Core.List.{List, ◌++◌}
use mathlib.Core.Path.{◌≡◌, sym, ap, subst, ◌∙◌}
use native.Mathlib.Omega.{arith}
use lib.ListN.{take, drop, take-append-drop, length-take}
use lib.Seq.{take-take, length-take-le}
use Rattle.std.specs.Prelude.{Err}
use Rattle.item.specs.declared.NotWhole.TheVariants.{Bad, Incomplete}
use Rattle.item.specs.Grammar.{Item}
use Rattle.item.specs.Verdict.{judge, start, Verdict}
use Rattle.item.specs.Besides.Theorem.{Begun, WhichByte}
use Rattle.item.proofs.Theorem.{exactly}
use Rattle.item.proofs.Continue.{settled}

not_both : {n : ℕ} → ◌≡◌ {A = Verdict} (Err (Bad n)) (Err Incomplete) → ⊥
not_both e = let z : ◌≡◌ {A = ℕ} 0 1 = cc in omega arith

module _ (d : ℕ) where
  abbrev verdict_on : List ℕ → Verdict
  verdict_on bs = judge bs 0 (start d)

  -- what begins with bad bytes is bad
  stays_bad : (bs : List ℕ) (k n : ℕ) → verdict_on (take k bs) ≡ Err (Bad n) → verdict_on bs ≡ Err (Bad n)
  stays_bad bs k n e =
      ap verdict_on (sym (take-append-drop k bs)) ∙ (settled (take k bs) (drop k bs) 0 (start d) (Err (Bad n)) e (λ z. not_both z)).0

  shown : (bs : List ℕ) (n : ℕ) → verdict_on bs ≡ Err (Bad n) → (verdict_on (take n bs) ≡ Err Incomplete) × (verdict_on (take (suc n) bs) ≡ Err (Bad n))
  shown bs n e =
      let (l, begun, none) = (exactly d bs (Err (Bad n))).0 e in (
        (exactly d (take n bs) (Err Incomplete)).1 begun,
        (exactly d (take (suc n) bs) (Err (Bad n))).1 (
          omega (arith, length-take-le (suc n) bs l),
          subst (Begun d) (sym (take-take n (suc n) bs (omega arith))) begun,
          subst (λ (xs : List ℕ). (cs : List ℕ) → Item d (xs ++ cs) → ⊥) (sym (take-take (suc n) (suc n) bs (omega arith))) none,
        ),
      )

  -- where the first n bytes are incomplete, none of them is bad
  not-before : (bs : List ℕ) (n m : ℕ) → verdict_on (take n bs) ≡ Err Incomplete → verdict_on (take (suc n) bs) ≡ Err (Bad m) → m < n → ⊥
  not-before bs n m p q h =
      let xs : List ℕ = take (suc n) bs in
      let e : take (suc m) xs ≡ take (suc m) (take n bs) = take-take (suc m) (suc n) bs (omega arith) ∙ sym (take-take (suc m) n bs h) in
      let r : verdict_on (take (suc m) (take n bs)) ≡ Err (Bad m) = ap verdict_on (sym e) ∙ (shown xs m q).1 in
      not_both (sym (stays_bad (take n bs) (suc m) m r) ∙ p)

  alone : (bs : List ℕ) (n m : ℕ) → verdict_on (take n bs) ≡ Err Incomplete → verdict_on (take (suc n) bs) ≡ Err (Bad m) → verdict_on bs ≡ Err (Bad n)
  alone bs n m p q =
      let l = ((exactly d (take (suc n) bs) (Err (Bad m))).0 q).0 in
      let e : m ≡ n = omega (arith, l, length-take (suc n) bs, not-before bs n m p q) in
      subst (λ (k : ℕ). verdict_on bs ≡ Err (Bad k)) e (stays_bad bs (suc n) m q)

pub which_byte : WhichByte
which_byte d bs n = record { so = shown d bs n; only = alone d bs n }
