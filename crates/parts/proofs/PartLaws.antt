-- Laws of the parts: one field after the other of a form.
-- Assumes nothing.
use Prim.Native.Nat.{ℕ, ◌+◌, ◌<◌}
use mathlib.Core.Path.{◌≡◌, sym, ap, ◌∙◌}
use mathlib.Core.List.{List, [], ◌∷◌}
use Rattle.std.proofs.Common.{Option, Some, None}
use native.Mathlib.Numerals.{add-one}
use lib.Dec.{eqb}
use lib.ListN.{length, get_or, set, drop}
use lib.Seq.{drop-cons, drop-length}
use borrow.Author.Tests.{eqb-true, eq-eqb, ne_eqb}
use Rattle.base.proofs.Conds.{by_test}
use Rattle.elements.specs.declared.Field.{Field}
use Rattle.elements.specs.declared.Field.TheVariants as field
use Rattle.parts.specs.declared.given.Given.{Given}
use Rattle.parts.specs.Counting.{on_some}
use Rattle.parts.specs.Inside.{number_after, run_after, planned, argument_in, left_of}

-- ---- one field after the other

-- what is left of the fields: one and then others, or none
pub field_next : (fs : List Field) (i : ℕ) {f : Field} → i < length fs → f ≡ get_or fs i field.Item → drop i fs ≡ f ∷ drop (i + 1) fs
field_next fs i h e =
    drop-cons fs i field.Item h
    ∙ ap (λ (k : ℕ). get_or fs i field.Item ∷ drop k fs) (sym (add-one i))
    ∙ ap (λ (f : Field). f ∷ drop (i + 1) fs) (sym e)

pub field-none : (fs : List Field) (i : ℕ) → i ≡ length fs → drop i fs ≡ []
field-none fs i e = ap (λ (k : ℕ). drop k fs) e ∙ drop-length fs

-- the fields from the i-th on, from number n on and run r on
module _ (g : Given) (fs : List Field) (i n r : ℕ) (args : List ℕ) where
  -- the next of them has this argument, or none
  module _ (h : i < length fs) {f : Field} {o : Option ℕ} (is : f ≡ get_or fs i field.Item) (found : o ≡ argument_in g f n r) where
    one_more : left_of g fs i n r args ≡ on_some o (λ v. left_of g fs (i + 1) (number_after f n) (run_after f r) (set args i v))
    unfolding planned
    one_more = rw (field_next fs i h is, found)

    pub plan_on : {v n' r' : ℕ} → o ≡ Some v → n' ≡ number_after f n → r' ≡ run_after f r
        → left_of g fs (i + 1) n' r' (set args i v) ≡ left_of g fs i n r args
    plan_on e en er = rw (en, er, one_more, e)

    pub plan_stop : o ≡ None → None ≡ left_of g fs i n r args
    plan_stop e = rw (one_more, e)

  -- there is none, and nothing is left over, or something
  pub plan_end : i ≡ length fs → n ≡ length g.numbers.now → r ≡ g.runs → Some args ≡ left_of g fs i n r args
  unfolding planned
  plan_end e en er = rw (field-none fs i e, eq-eqb _ _ en, eq-eqb _ _ er)

  pub plan_over : i ≡ length fs → (n ≡ length g.numbers.now → r ≡ g.runs → ⊥) → None ≡ left_of g fs i n r args
  unfolding planned
  plan_over e over =
      rw (field-none fs i e)
      (by_test (eqb n (length g.numbers.now))
      (λ t. rw (t, ne_eqb r g.runs (over (eqb-true _ _ t))))
      (λ t. rw t))
