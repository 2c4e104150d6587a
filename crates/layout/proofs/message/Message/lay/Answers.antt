-- `Message::lay` meets its contract: the array's head, the kind's and the fields are put one behind the other.
use Rattle.std.proofs.Common.{ℕ, ◌+◌, ◌++◌, arith, ap, ◌∙◌}
use Rattle.std.proofs.lemmas.List.Edits.{sets}
use Rattle.head.specs.Inside.{length_of}
use Rattle.head.specs.Write.{shortest}
use Rattle.elements.specs.Matching.{array}
use Rattle.messages.specs.Inside.{form_at}
use Rattle.layout.specs.Inside.Message.{body}
use Rattle.layout.proofs.LayoutLaws.{whole_long, whole_there}
use Rattle.layout.proofs.message.Message.lay.Goals as goal

pub write_head-number-requires : goal.write_head-number-requires
write_head-number-requires c =
    let m = c.args.self.now in
    let e = ap (λ (k : ℕ). length_of (k + 1)) c.fields.ensures.0 in
    (omega arith, omega (arith, e, whole_long m.asked m.given.first.now m.given.second.now (form_at m.row).fields m.kind m.arguments))

pub write_head-fields-requires : goal.write_head-fields-requires
write_head-fields-requires c =
    let m = c.args.self.now in
    let e = ap (λ (k : ℕ). length_of (k + 1)) c.fields.ensures.0 in
    (omega arith, omega (arith, e, c.write_head-number.ensures.0, whole_long m.asked m.given.first.now m.given.second.now (form_at m.row).fields m.kind m.arguments))

pub put_fields-requires : goal.put_fields-requires
put_fields-requires c =
    let m = c.args.self.now in
    let e = ap (λ (k : ℕ). length_of (k + 1)) c.fields.ensures.0 in
    omega (arith, e, whole_long m.asked m.given.first.now m.given.second.now (form_at m.row).fields m.kind m.arguments)

pub returns : goal.returns
returns c =
    let m = c.args.self.now in
    let n = c.fields in
    whole_there c.args.buf.now (body m) (n.result + 1) m.kind c.write_head-number.ensures c.write_head-fields.ensures c.put_fields.ensures
    ∙ ap (λ (k : ℕ). sets c.args.buf.now 0 (shortest array (k + 1) ++ (shortest 0 m.kind ++ body m))) n.ensures.0
