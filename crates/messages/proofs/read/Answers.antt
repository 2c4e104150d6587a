-- `messages::read` meets its contract: an array that a number opens, of a kind that the protocol has, or why not, as the definition goes by.
use mathlib.Core.Path.{◌≡◌, refl, sym, ap, subst, ◌∙◌}
use Prim.Native.Nat.{ℕ}
use native.Mathlib.Omega.{arith}
use borrow.Author.Tests.{eq-eqb}
use lib.ListN.{length}
use Rattle.std.specs.Prelude.{Option, Some, None, Ok, Err, ok_or}
use Rattle.std.proofs.lemmas.Grind.{common_steps}
use Rattle.ring.specs.Inside.{seen}
use Rattle.ring.proofs.Views.{seen_length}
use Rattle.messages.specs.declared.Unread.TheVariants.{UnknownKind}
use Rattle.messages.specs.Reading.{numbered_of, message_of}
use Rattle.messages.specs.Inside.{Finds}
use Rattle.messages.proofs.read.Goals as goal

-- what was there, or not, behind `ok_or`
there : {A E : Type 0} (o : Option A) (e : E) {x : A} → ok_or o e ≡ Ok x → o ≡ Some x
there (Some y) e h = cc
there None e {x} h = absurd (let z : ◌≡◌ {A = ℕ} 0 1 = cc in omega arith)

absent : {A E : Type 0} (o : Option A) (e f : E) → ok_or o e ≡ Err f → o ≡ None
absent (Some y) e f h = absurd (let z : ◌≡◌ {A = ℕ} 0 1 = cc in omega arith)
absent None e f h = refl

pub filled-requires-clause-begins : goal.filled-requires-clause-begins
filled-requires-clause-begins c = (
  c.requires ∙ ap Ok (sym (seen_length c.args.v)),
  sym c.opens_at.ensures ∙ there _ _ (sym c.ok_or.ensures.value ∙ c.in_ok-x.was),
  sym c.unsigned_at.ensures ∙ there _ _ (sym c.ok_or-2.ensures.value ∙ c.in_ok-kind.was),
)

pub returns-in_err-row : goal.returns-in_err-row
unfolding message_of numbered_of
returns-in_err-row c =
    let a = c.args in
    let bs = seen a.v in
    let not : c.find.result ≡ None = absent _ _ _ (sym c.ok_or-3.ensures.value ∙ c.in_err-row.was) in
    let why : c.ok_or-3.result ≡ Err UnknownKind = c.ok_or-3.ensures.value ∙ ap (λ (o : Option ℕ). ok_or o UnknownKind) not in
    let m : message_of a.p bs ≡ Err UnknownKind =
    rw (
      c.requires ∙ ap Ok (sym (seen_length a.v)),
      eq-eqb (length bs) (length bs) refl,
      sym c.opens_at.ensures ∙ there _ _ (sym c.ok_or.ensures.value ∙ c.in_ok-x.was),
      sym c.unsigned_at.ensures ∙ there _ _ (sym c.ok_or-2.ensures.value ∙ c.in_ok-kind.was),
      subst (Finds a.p c.in_ok-kind.kind) not c.find.ensures,
    ) in
    grind (arith, common_steps)

pub returns : goal.returns
unfolding message_of numbered_of
returns c =
    let a = c.args in
    let bs = seen a.v in
    rw (
      c.requires ∙ ap Ok (sym (seen_length a.v)),
      eq-eqb (length bs) (length bs) refl,
      sym c.opens_at.ensures ∙ there _ _ (sym c.ok_or.ensures.value ∙ c.in_ok-x.was),
      sym c.unsigned_at.ensures ∙ there _ _ (sym c.ok_or-2.ensures.value ∙ c.in_ok-kind.was),
      (subst (Finds a.p c.in_ok-kind.kind) (there _ _ (sym c.ok_or-3.ensures.value ∙ c.in_ok-row.was)) c.find.ensures).1,
    )
    c.filled.ensures
