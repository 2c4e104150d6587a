-- `messages::forms::find` meets its contract: the loop's invariant is that the forms from i on are found as all of the protocol's are.
use Prim.Native.Nat.{◌<◌}
use mathlib.Core.Path.{refl, sym, ap, ◌∙◌}
use native.Mathlib.Omega.{arith}
use borrow.Author.Tests.{eq-eqb, ne_eqb}
use Rattle.messages.specs.Forms.{Form, forms, form_in}
use Rattle.rows.specs.Inside.{entries}
use Rattle.rows.proofs.ByProtocol.{ends, begun, onward, found, none_found}
use Rattle.messages.proofs.FormLaws.{form_is, finding}
use Rattle.messages.proofs.forms.find.Goals as goal

pub overflow_add-i-end : goal.overflow_add-i-end
unfolding entries
overflow_add-i-end c = record { fits = omega (arith, ends forms c.args.p) }

pub loop-i-init : goal.loop-i-init
loop-i-init c = rw c.first-start.ensures (begun forms (finding c.args.kind) c.args.p refl refl)

pub returns-then-table-i : goal.returns-then-table-i
unfolding entries
returns-then-table-i c =
    let a = c.args in
    let l = c.loop-i in
    let low : l.i < 40 = omega (arith, ends forms a.p) in
    let t = eq-eqb _ _ (ap (λ (f : Form). f.kind) (sym (form_is c.table-table.result.now _ l.i (omega (arith, low)) c.table-table.ensures.1)) ∙ c.if-table-i.true) in
    (low, sym (found forms (finding a.kind) a.p refl refl l.invariant (omega arith) t))

pub loop-i-preserved : goal.loop-i-preserved
unfolding entries
loop-i-preserved c =
    let a = c.args in
    let l = c.loop-i in
    let low : l.i < 40 = omega (arith, ends forms a.p) in
    let t = ne_eqb _ _ (λ e. c.if-table-i.false (ap (λ (f : Form). f.kind) (form_is c.table-table.result.now _ l.i (omega (arith, low)) c.table-table.ensures.1) ∙ e)) in
    onward forms (finding a.kind) l.invariant (omega arith) t

pub returns : goal.returns
unfolding form_in
returns c =
    let a = c.args in
    sym (none_found forms (finding a.kind) a.p refl refl c.loop-i.invariant (λ h. omega arith))
