-- `messages::fields` meets its contract: the loop's invariant is that the fields left, at the place reached, give what all of them give, and that those
-- behind are as many items.
use mathlib.Core.Path.{◌≡◌, sym, ap, subst, ◌∙◌}
use Prim.Native.Nat.{ℕ, suc, ◌+◌, ◌-◌, ◌<◌}
use native.Mathlib.Omega.{arith}
use lib.ListN.{length, drop}
use Rattle.ring.specs.Inside.{seen}
use Rattle.ring.proofs.Views.{seen_length}
use Rattle.messages.specs.declared.Message.{Message}
use Rattle.elements.specs.Besides.Matching.{ItemsAt}
use Rattle.elements.specs.Matching.{in_message}
use Rattle.elements.proofs.ElementLaws.{none_at}
use Rattle.messages.specs.Reading.{fields_of}
use Rattle.messages.specs.Inside.{form_at}
use Rattle.messages.proofs.FieldLaws.{with_count, one_more, one_wrong, none_left, then_item, part_item, last_ends}
use Rattle.std.proofs.lemmas.Option.{none-some}
use Rattle.messages.proofs.fields.Goals.{then-i-count, else-i-count}
use Rattle.messages.proofs.fields.Goals as goal

pub loop-i-init : goal.loop-i-init
loop-i-init c =
    let e = c.begin-message.ensures in
    let a = c.args in
    let bs = seen a.v in
    let long = seen_length a.v in
    record {
      numbers = omega (arith, ap (λ (m : Message). m.count) e);
      places = omega (arith, ap (λ (m : Message). m.parts) e);
      passed = none_at bs (omega (arith, long, c.requires.in_bounds.1));
      gives = ap (fields_of bs (form_at a.row).fields 1 a.first) e;
    }

pub field_at-requires : goal.field_at-requires
field_at-requires c = (c.requires.in_bounds.0, omega (arith, c.fields-count.ensures.0))

pub part_at-requires : goal.part_at-requires
part_at-requires c =
    let l = c.loop-i in
    let a = c.args in
    let bs = seen a.v in
    let count = c.fields-count.ensures.0 in
    λ q e. elim c.if-i-count.branch [
      | then-i-count w ↦
          last_ends bs l.i (length (form_at a.row).fields) (omega (arith, count)) l.invariant.passed (c.requires.by_index q (sym w.known-is ∙ e))
      | else-i-count w ↦ absurd (none-some q (sym w.known-is ∙ e))
    ]

pub returns-in_default : goal.returns-in_default
returns-in_default c =
    let l = c.loop-i in
    let a = c.args in
    let count = c.fields-count in
    let bs = seen a.v in
    let fs = (form_at a.row).fields in
    let z : l.i ≡ length fs - (count.result - l.i) = omega (arith, count.ensures.0) in (
      one_wrong bs fs l.i l.at l.message (omega (arith, count.ensures.0)) c.field_at.ensures c.part_at.ensures c.in_default.is
          ∙ l.invariant.gives,
      (omega (arith, count.ensures.0), subst (λ (k : ℕ). ItemsAt bs in_message k a.first l.at) z l.invariant.passed),
    )

pub say-requires : goal.say-requires
say-requires c =
    let l = c.loop-i in
    let few : l.i < 3 = omega (arith, c.fields-count.ensures.1) in
    (omega (arith, l.invariant.numbers), omega (arith, l.invariant.places))

pub loop-i-preserved : goal.loop-i-preserved
loop-i-preserved c =
    let l = c.loop-i in
    let a = c.args in
    let bs = seen a.v in
    let fs = (form_at a.row).fields in
    let q = c.in-Some.q in
    let said = c.say.ensures in
    let few = with_count l.message c.in-Some.part l.i l.invariant.numbers l.invariant.places in
    let here = part_item bs c.field_at.result l.at c.part_at.ensures c.in-Some.is in
    let z : suc l.i ≡ l.i + 1 = omega arith in
    record {
      numbers = omega (arith, few.0, ap (λ (m : Message). m.count) said);
      places = omega (arith, few.1, ap (λ (m : Message). m.parts) said);
      passed = subst (λ (k : ℕ). ItemsAt bs in_message k a.first q) z (then_item bs l.i l.invariant.passed here);
      gives =
          ap (fields_of bs (drop (l.i + 1) fs) (l.i + 1 + 1) q) said
          ∙ one_more bs fs l.i l.at l.message (omega (arith, c.fields-count.ensures.0)) c.field_at.ensures c.part_at.ensures c.in-Some.is
          ∙ l.invariant.gives;
    }

pub returns : goal.returns
returns c =
    let l = c.loop-i in
    let a = c.args in
    let bs = seen a.v in
    let fs = (form_at a.row).fields in
    let z : l.i ≡ length fs - 0 = omega (arith, c.fields-count.ensures.0) in (
      none_left bs fs l.i l.at l.message (omega (arith, c.fields-count.ensures.0)) ∙ l.invariant.gives,
      (omega arith, subst (λ (k : ℕ). ItemsAt bs in_message k a.first l.at) z l.invariant.passed),
    )
