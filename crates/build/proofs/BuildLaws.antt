-- The ways out of build.
-- Assumes nothing.
use Rattle.std.proofs.Common.{Option, Some, None, Result, Err, ok_or}
use Rattle.std.specs.Result.{IsErrAnd}
use Rattle.std.proofs.lemmas.Result.{err_from_is_err_and}
use Prim.Native.Nat.{ℕ, ◌+◌, ◌≤◌, ◌<◌}
use mathlib.Core.Path.{◌≡◌, refl, sym, ap, subst, ◌∙◌}
use mathlib.Core.Bool.{Bool, true, false}
use mathlib.Core.List.{List, ◌++◌}
use native.Mathlib.Omega.{arith}
use lib.Dec.{leb}
use lib.ListN.{length}
use lib.Seq.{sets}
use borrow.Author.Tests.{lt-ltb, le-ltb, leb-true}
use Rattle.base.proofs.Conds.{so, is, and_left}
use Rattle.wire.specs.Instances.{known, instances}
use Rattle.head.specs.Write.{shortest}
use Rattle.rows.specs.declared.Protocol.{Protocol}
use Rattle.rows.specs.Spoken.{speaks}
use Rattle.elements.specs.declared.Field.{Field}
use Rattle.messages.specs.Inside.{form_at, Finds}
use Rattle.elements.specs.Matching.{array}
use Rattle.messages.proofs.FormLaws.{at_most}
use Rattle.parts.specs.declared.given.Given.{Given}
use Rattle.parts.specs.Given.{all_given}
use Rattle.parts.specs.Counting.{on_some}
use Rattle.parts.specs.Inside.{nothing, planned, Holds, arguments_of}
use Rattle.parts.proofs.Counting.{Found}
use Rattle.layout.specs.Inside.{body_of, whole_of, all_heads}
use Rattle.layout.proofs.LayoutLaws.{whole_long}
use Rattle.build.specs.declared.Refusal.{Refusal}
use Rattle.build.specs.declared.Refusal.TheVariants.{NoMessage}
use Rattle.build.specs.Made.{made, encoded}
use Rattle.build.specs.Building.{told, given, bytes_of, handed, build_of}
use Rattle.build.specs.Inside.{refusal, answer, made_by, made_of, AreGiven}
use Rattle.std.specs.Prelude.{IfSome}
use Rattle.build.proofs.PlanLaws.{lent, plan_makes, plan_long, all_lent}

-- ---- the message of a form

at_most_two : (runs : ℕ) (first second : List ℕ) → all_given runs first second ≡ true → runs ≤ 2
at_most_two runs first second g = leb-true runs 2 (is (leb runs 2) (and_left (leb runs 2) _ (so (all_given runs first second) g)))

module _ (asked : Bool) (ns : List ℕ) (runs : ℕ) (first second : List ℕ) (kind : ℕ) (fs : List Field) where
  -- arguments first, and bytes then
  plan_whole : runs ≤ 2 → length fs ≤ 3
      → on_some (made asked fs ns (lent first second runs)) (λ ys. Some (shortest array (length fs + 1) ++ (shortest 0 kind ++ ys)))
      ≡ made_by asked ns runs first second fs kind
  unfolding made_by
  plan_whole two few =
      ap (λ (o : Option (List ℕ)). on_some o (λ ys. Some (shortest array (length fs + 1) ++ (shortest 0 kind ++ ys))))
      (plan_makes asked ns runs first second two fs 0 0 0 nothing (omega arith) (omega arith) (omega arith))
      ∙ of (planned ns runs first second fs 0 0 0 nothing)
    where
      of : (o : Option (List ℕ))
          → on_some (on_some o (λ args. Some (body_of asked first second fs args 0 0)))
          (λ ys. Some (shortest array (length fs + 1) ++ (shortest 0 kind ++ ys)))
          ≡ on_some o (λ args. Some (whole_of asked first second fs kind args))
      of None = refl
      of (Some args) = refl

-- ---- handing it over

module _ (bs buf : List ℕ) where
  pub hand_short : length buf < length bs → told (refusal 18) buf ≡ handed buf (Some bs)
  hand_short h = rw (lt-ltb (length buf) (length bs) h)

  pub hand_over : {n : ℕ} {after : List ℕ} → n ≡ length bs → n ≤ length buf → after ≡ sets buf 0 bs
      → told (record { number = 0; len = n }) after ≡ handed buf (Some bs)
  hand_over en h ea =
      let fits : length bs ≤ length buf = omega arith in
      rw (le-ltb (length buf) (length bs) fits, en, ea)

-- what stands in the way is that there is none of these
pub no_message : {A : Type 0} (o : Option A) (r : Result ℕ Refusal) (e : Refusal) → IsErrAnd r (λ x. x ≡ e) → Err e ≡ ok_or o NoMessage → o ≡ None
    → answer r ≡ refusal 15
no_message o r e answers said none =
    let p = err_from_is_err_and r answers in
    let s = rw none at said in
    let k : e ≡ NoMessage = cc in
    rw (p.1, p.2, k)

-- ---- the parts of a form

module _ (asked : Bool) (g : Given) (kind : ℕ) (fs : List Field) where
  pub unplanned : arguments_of g fs ≡ None → made_of asked g fs kind ≡ None
  unfolding made_by
  unplanned e = rw e

  module _ {args : List ℕ} (e : arguments_of g fs ≡ Some args) where
    pub planned_so : Some (whole_of asked g.first.now g.second.now fs kind args) ≡ made_of asked g fs kind
    unfolding made_by
    planned_so = rw e

    -- it is as long as its heads and all runs
    pub heads_and_runs : all_given g.runs g.first.now g.second.now ≡ true → length (whole_of asked g.first.now g.second.now fs kind args)
        ≡ all_heads asked fs kind args + (length g.first.now + length g.second.now)
    heads_and_runs complete =
        let body = subst (Found (λ _. length (body_of asked g.first.now g.second.now fs args 0 0) ≡ _)) e
        (plan_long asked g.numbers.now g.runs g.first.now g.second.now (at_most_two g.runs g.first.now g.second.now complete) fs args) in
        omega (arith, whole_long asked g.first.now g.second.now fs kind args, all_lent g.runs g.first.now g.second.now complete)

-- what was given as it should be is complete
pub complete_of : (ns : List ℕ) (runs : ℕ) (first second : List ℕ) (o : Option Given) → AreGiven o ns runs first second
    → IfSome o (λ g. all_given g.runs g.first.now g.second.now ≡ true)
complete_of ns runs first second None are = tt
complete_of ns runs first second (Some g) are = let same = are.1 in rw (same.1, same.2, same.3) are.0

-- ---- a kind, and its row

module _ (p : Protocol) (kind : ℕ) (asked : Bool) (ns : List ℕ) (runs : ℕ) (first second : List ℕ) where
  abbrev message : Option (List ℕ)
  message = bytes_of p kind asked ns runs first second

  pub kind_not_given : all_given runs first second ≡ false → message ≡ None
  unfolding bytes_of given
  kind_not_given g = rw g

  module _ (g : Given) (holds : Holds g ns runs first second) (complete : all_given runs first second ≡ true) {w : Option ℕ} (found : Finds p kind w) where
    pub kind_unknown : w ≡ None → message ≡ None
    unfolding bytes_of given encoded
    kind_unknown e = rw (complete, subst (Finds p kind) e found)

    pub kind_known : {row : ℕ} → w ≡ Some row → made_of asked g (form_at row).fields kind ≡ message
    unfolding bytes_of given encoded
    kind_known {row} e =
        let row-found : Finds p kind (Some row) = subst (Finds p kind) e found in
        rw (holds.0, holds.1, holds.2, holds.3)
        (sym
        (rw (complete, row-found.1)
        (plan_whole asked ns runs first second kind (form_at row).fields (at_most_two runs first second complete) (at_most row row-found.0))))

-- ---- the bundle, and its instance

pub build_spoken : (bundle instance kind : ℕ) (asked : Bool) (ns : List ℕ) (runs : ℕ) (first second buf : List ℕ) → known bundle ≡ true → instance < instances bundle
    → handed buf (bytes_of (speaks bundle instance) kind asked ns runs first second) ≡ build_of bundle instance kind asked ns runs first second buf
unfolding build_of
build_spoken bundle instance kind asked ns runs first second buf k low = sym (rw (k, lt-ltb instance (instances bundle) low))
