-- P1 to P12 hold: each computes.
-- Assumes nothing.
use mathlib.Core.Path.{refl}
use Rattle.base.specs.Below.{all_below}
use Rattle.base.specs.Numbers.{spelled, octets}
use Rattle.ring.specs.Ring.{base_of, laid, stream}
use Rattle.head.specs.Initial.{initial}
use Rattle.head.specs.Read.{head_at, head_by, long_at, simple_at}
use Rattle.item.specs.Grammar.{nest, indefinite, enter, alike, enter_chunk}
use Rattle.item.specs.Verdict.{step, met, judge}
use Rattle.wire.specs.Segments.{added, decoded, encoded}
use Rattle.wire.specs.Instances.{find, bundle_of, instances, route_of}
use Rattle.rows.specs.Rows.{place_in}
use Rattle.messages.specs.Forms.{form_in}
use Rattle.elements.specs.Reading.{unsigned_at, opens_at, item_end, element_at, walk, part_of}
use Rattle.messages.specs.Reading.{fields_of, numbered_of, message_of}
use Rattle.ready.specs.Ready.{word_of, count_of, lowest_from, seek}
use Rattle.rows.specs.Spoken.{speaks}
use Rattle.range.specs.Ranges.{settings_ok, in_range}
use Rattle.telling.specs.Statuses.{up_to, status_of}
use Rattle.feeding.specs.Feeding as feeding
use Rattle.sending.specs.NextSegment.{serve, next_of}
use Rattle.promises.specs.Besides.Examples.{made, Examples}

pub examples : Examples
unfolding all_below spelled octets base_of laid stream head_at head_by long_at simple_at initial nest indefinite enter alike enter_chunk step met judge
    added decoded encoded find bundle_of instances route_of place_in form_in unsigned_at opens_at item_end element_at walk part_of fields_of numbered_of message_of
    word_of count_of lowest_from seek settings_ok speaks in_range up_to status_of serve next_of made
    feeding.feed_of feeding.feed_open feeding.used feeding.fed feeding.step feeding.kept feeding.headed feeding.admission
examples =
    ((refl, refl, refl, refl, refl), ((refl, refl, refl, refl, refl), (refl, (refl, (refl, (refl, (refl, (refl, (refl, (refl, (refl, (refl, (refl, (refl, (refl, (refl, ((refl, refl), tt)))))))))))))))))
