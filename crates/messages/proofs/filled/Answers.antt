-- `messages::filled` meets its contract: the fields are read, and where that stopped, it is told whether the array has as many elements as the form.
use mathlib.Core.Path.{◌≡◌}
use native.Mathlib.Omega.{arith}
use lib.ListN.{length}
use Rattle.ring.specs.Inside.{seen}
use Rattle.ring.proofs.Views.{seen_length}
use Rattle.messages.specs.Reading.{count_from}
use Rattle.messages.specs.Inside.{form_at}
use Rattle.messages.proofs.FieldLaws.{kind_item, last_known, count_told, count_right, count_wrong}
use Rattle.messages.proofs.filled.Goals as goal

pub fields-stop-requires : goal.fields-stop-requires
fields-stop-requires c =
    let s = c in
    let a = s.args in
    let bs = seen a.v in
    let long : length bs ≡ a.v.len = seen_length a.v in record {
      in_bounds = (s.requires.in_bounds, omega (arith, long, (kind_item bs s.requires.begins).inside));
      by_index = λ q e. last_known bs a.x c.fields.ensures.0 s.requires.begins long c.last_end.ensures e;
    }

pub returns-then-has_count : goal.returns-then-has_count
returns-then-has_count c =
    let s = c in
    let a = s.args in
    let bs = seen a.v in
    let stop = c.fields-stop in
    count_right bs (form_at a.row).fields (count_from bs a.x a.first) a.kind a.next
    (count_told bs a.x c.fields.ensures.0 s.requires.begins c.has_count.ensures stop.ensures.1)
    c.if-has_count.true stop.ensures.0

pub returns-else-has_count : goal.returns-else-has_count
returns-else-has_count c =
    let a = c.args in
    let bs = seen a.v in
    count_wrong bs (form_at a.row).fields (count_from bs a.x a.first) a.kind a.next
    (count_told bs a.x c.fields.ensures.0 c.requires.begins c.has_count.ensures c.fields-stop.ensures.1)
    c.if-has_count.false
