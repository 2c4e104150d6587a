-- The verdict is exactly what document 01 says, within any nesting.
-- Assumes nothing.
use Prim.Native.Nat.{ℕ, suc}
use mathlib.Core.List.{List, [], ◌∷◌, ◌++◌}
use mathlib.Core.Path.{◌≡◌, refl, sym, ap, subst, ◌∙◌}
use native.Mathlib.Omega.{arith}
use lib.ListN.{length, take, drop, length-append, replicate}
use lib.Seq.{take_at, drop_at}
use Rattle.std.specs.Prelude.{Ok, Err}
use Rattle.head.specs.Initial.{initial}
use Rattle.item.specs.declared.NotWhole.TheVariants.{Bad, Incomplete}
use Rattle.item.specs.Grammar.{Frame, Reads, Item, nest, indefinite, enter, alike, enter_chunk}
use Rattle.item.specs.Verdict.{nil, push, step, met, judge, start, Verdict}
use Rattle.item.specs.Besides.Verdict.{tally, heads, heads_of}
use Rattle.item.specs.Besides.Theorem.{Begun, Begins, Says, Exactly, BadIsNeither, NestingMonotone, OneEnd}
use Rattle.item.proofs.Derivative.{Rest, done, then}
use Rattle.item.proofs.Exact.{Exact, exact, only}
use Rattle.item.proofs.Local.{Cuts, cuts, deeper}

into : {d : ℕ} {bs : List ℕ} → Item d bs → Rest (start d) bs
into g = then g done

out : {d : ℕ} {bs : List ℕ} → Rest (start d) bs → Item d bs
out (then g done) = g

says : (d : ℕ) (bs : List ℕ) (v : Verdict) → Exact (start d) bs 0 v → Says d bs v
says d bs (Ok n) (m, e, l, r) = let e' : m ≡ n = omega arith in (omega arith, subst (λ (k : ℕ). Item d (take k bs)) e' (out r))
says d bs (Err (Bad n)) (m, e, l, (b, cs, r, o), no_item) =
    let e' : m ≡ n = omega arith in (
      omega arith,
      subst (λ (k : ℕ). Begun d (take k bs)) e' (b, cs, out r, o),
      subst (λ (k : ℕ). (cs : List ℕ) → Item d (take (suc k) bs ++ cs) → ⊥) e' (λ es g. no_item es (into g)),
    )
says d bs (Err Incomplete) (b, cs, r, o) = (b, cs, out r, o)

said : (d : ℕ) (bs : List ℕ) (v : Verdict) → Says d bs v → Exact (start d) bs 0 v
said d bs (Ok n) (l, g) = (n, omega arith, l, into g)
said d bs (Err (Bad n)) (l, (b, cs, g, o), no_item) = (n, omega arith, l, (b, cs, into g, o), λ es r. no_item es (out r))
said d bs (Err Incomplete) (b, cs, g, o) = (b, cs, into g, o)

pub exactly : Exactly
exactly d bs v =
    (λ e. says d bs v (subst (Exact (start d) bs 0) e (exact bs 0 (start d))), λ s. only bs 0 (start d) v (said d bs v s))

pub bad_is_neither : BadIsNeither
bad_is_neither d bs = (apart, neither)
  where
    apart : (n : ℕ) × (judge bs 0 (start d) ≡ Err (Bad n)) → (Begun d bs → ⊥) × ((n : ℕ) → Begins d bs n → ⊥)
    apart (n, e) = (
      λ s. let p : judge bs 0 (start d) ≡ Err Incomplete = (exactly d bs (Err Incomplete)).1 s in let z : ◌≡◌ {A = ℕ} 0 1 = cc in omega arith,
      λ k s. let p : judge bs 0 (start d) ≡ Ok k = (exactly d bs (Ok k)).1 s in let z : ◌≡◌ {A = ℕ} 0 1 = cc in omega arith,
    )

    of : (v : Verdict) → judge bs 0 (start d) ≡ v → (Begun d bs → ⊥) × ((n : ℕ) → Begins d bs n → ⊥) → (n : ℕ) × (judge bs 0 (start d) ≡ Err (Bad n))
    of (Ok n) e (p, q) = absurd (q n ((exactly d bs (Ok n)).0 e))
    of (Err (Bad n)) e h = (n, e)
    of (Err Incomplete) e (p, q) = absurd (p ((exactly d bs (Err Incomplete)).0 e))

    neither : (Begun d bs → ⊥) × ((n : ℕ) → Begins d bs n → ⊥) → (n : ℕ) × (judge bs 0 (start d) ≡ Err (Bad n))
    neither h = of (judge bs 0 (start d)) refl h

pub nesting_monotone : NestingMonotone
nesting_monotone d bs g = deeper g

-- what is read is as long as the verdict says
cut-whole : (d : ℕ) (f : Frame) (a cs : List ℕ) → Reads d f a [] → judge (a ++ cs) 0 (push d f nil) ≡ Ok (length a)
cut-whole d f a cs g =
    only (a ++ cs) 0 (push d f nil) (Ok (length a))
    (length a, omega arith, omega (arith, length-append a cs), subst (Rest (push d f nil)) (sym (take_at a cs (length a) refl)) (then g done))

pub one_end : OneEnd
one_end d f bs cs ds g h = of (cuts g) (cuts h)
  where
    of : Cuts d f bs cs → Cuts d f bs ds → cs ≡ ds
    of (a, p, r) (b, q, s) =
        let x : judge bs 0 (push d f nil) ≡ Ok (length a) = rw p (cut-whole d f a cs r) in
        let y : judge bs 0 (push d f nil) ≡ Ok (length b) = rw q (cut-whole d f b ds s) in
        let l : length b ≡ length a = cc in
        sym (drop_at a cs (length a) refl) ∙ ap (drop (length a)) (sym p ∙ q) ∙ drop_at b ds (length a) l

-- Heads, which no program prints: a break and a chunk's head count, f820 is one, a map of one pair has two items, the bad one does not count, be it
-- a break or one nested too deep, nor what follows the item.
counted : (heads_of (0x9f ∷ 0x18 ∷ 0x20 ∷ 0xff ∷ 0x00 ∷ []) ≡ 3) × (heads_of (0x5f ∷ 0x42 ∷ 0 ∷ 0 ∷ 0xff ∷ []) ≡ 3) × (heads_of (0xf8 ∷ 0x20 ∷ []) ≡ 1)
    × (heads_of (0xa1 ∷ 0x00 ∷ 0x01 ∷ 0x02 ∷ []) ≡ 3) × (heads_of (0x82 ∷ 0x00 ∷ 0xff ∷ []) ≡ 2) × (heads_of (replicate 17 0x81) ≡ 16)
unfolding heads tally step met initial enter nest indefinite alike enter_chunk
counted = (refl, refl, refl, refl, refl, refl)
