-- `Message::put_fields` meets its contract: what is left to be put, from here on, always makes the buffer that all of it makes.
use Rattle.std.proofs.Common.{◌≡◌, ℕ, ◌+◌, ◌≤◌, ◌++◌, length, get_or, arith, length-append, refl, ap, sym, ◌∙◌}
use borrow.Author.Tests.{eq-eqb, ne_eqb}
use Rattle.messages.specs.Inside.{form_at}
use Rattle.parts.specs.Inside.{run_at, run_after}
use Rattle.layout.specs.Inside.{piece_of}
use Rattle.layout.specs.Inside.Message.{rest}
use Rattle.layout.proofs.LayoutLaws.{body_on, body_end, put_on}
use Rattle.layout.proofs.message.Message.put_fields.Goals as goal
use Rattle.layout.proofs.message.Message.put_fields.Goals.{Joined-r-eq0, then-r-eq0, else-r-eq0, then-not-is_number, else-not-is_number}

pub loop-i-init : goal.loop-i-init
loop-i-init c = (omega arith, omega arith, refl)

-- what is put next is field i with its run, and then the rest
next : (c : Joined-r-eq0)
    → let m = c.args.self.now in let l = c.loop-i in
    rest m l.i l.r
    ≡ piece_of m.asked c.field_at-f.result (get_or m.arguments l.i 0) c.if-r-eq0.run.now ++ rest m (l.i + 1) (run_after c.field_at-f.result l.r)
next c =
    let m = c.args.self.now in
    let l = c.loop-i in
    let run : c.if-r-eq0.run.now ≡ run_at m.given.first.now m.given.second.now l.r =
    elim c.if-r-eq0.branch [ then-r-eq0 w ↦ rw (eq-eqb _ _ w.if-r-eq0.true) (cc) | else-r-eq0 w ↦ rw (ne_eqb _ _ w.if-r-eq0.false) (cc) ] in
    rw run (body_on m.asked (form_at m.row).fields m.arguments l.i m.given.first.now m.given.second.now l.r (omega arith) c.field_at-f.ensures)

pub put_field-at-requires : goal.put_field-at-requires
put_field-at-requires c =
    omega (arith, ap length (next (goal.at.put_field-at-requires c).Joined-r-eq0), length-append {A = ℕ})

pub loop-i-preserved : goal.loop-i-preserved
loop-i-preserved c =
    let m = c.args.self.now in
    let l = c.loop-i in
    let k = c.if-not-is_number in
    let f = c.field_at-f.result in
    let e = next (goal.at.loop-i-preserved c).Joined-r-eq0 in
    let on : (k.r ≡ run_after f l.r) × (k.r ≤ l.i + 1) =
    elim k.branch [
      | then-not-is_number w ↦ rw (sym c.is_number.ensures ∙ w.if-not-is_number.true) (w.r-is, omega arith)
      | else-not-is_number w ↦ rw (sym c.is_number.ensures ∙ w.if-not-is_number.false) (w.r-is, omega arith)
    ] in
    rw on.0 (
      omega (arith, on),
      omega (arith, ap length e, length-append {A = ℕ}),
      put_on l.buf l.at (piece_of m.asked f (get_or m.arguments l.i 0) c.if-r-eq0.run.now) (rest m (l.i + 1) (run_after f l.r)) e c.put_field-at.ensures.0 c.put_field-at.ensures.1 ∙ l.invariant.2,
    )

pub returns : goal.returns
returns c =
    let m = c.args.self.now in
    let l = c.loop-i in
    let end = body_end m.asked (form_at m.row).fields m.arguments l.i m.given.first.now m.given.second.now l.r (omega arith) in
    rw end at l.invariant.2
