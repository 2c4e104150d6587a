-- Every promise is kept, and what holds besides: each is proved in a file of its own.
-- Assumes nothing.
use Rattle.opening.proofs.Once as opening
use Rattle.telling.proofs.Once as telling
use Rattle.feeding.proofs.Once as feeding
use Rattle.looking.proofs.Once as looking
use Rattle.dropping.proofs.Once as dropping
use Rattle.build.proofs.Once as build
use Rattle.putting.proofs.Once as putting
use Rattle.sending.proofs.Once as sending
use Rattle.promises.specs.Promises.{Promises}
use Rattle.promises.specs.Besides.Further.{Further}
use Rattle.promises.proofs.ExampleLaws as examples
use Rattle.promises.proofs.Tied.{tied}
use Rattle.promises.proofs.Reached.{in_range_for_ever, never_23}
use Rattle.promises.proofs.Fair.{fair}
use Rattle.promises.proofs.History.{history, status_tells}
use Rattle.promises.proofs.HistoryShut.{after_fault}
use Rattle.promises.proofs.Alone.{alone, two_alike, which_byte}
use Rattle.promises.proofs.ArrivalBuilt.{built_arrives}
use Rattle.promises.proofs.AllMet.{all_met}
use Rattle.promises.proofs.Arrival.{glued, all_there, journey}

pub promises : Promises
promises =
    record {
      contracts =
          record {
            opening = opening.once;
            feed = feeding.once;
            look = looking.once;
            part = looking.once_part;
            drop = dropping.once;
            build = build.once;
            put = putting.once;
            next_segment = sending.once;
            status = telling.once;
          };
      tied = tied;
      is_in_range = in_range_for_ever;
      never_23 = never_23;
      history = history;
      fair = fair;
      status_tells = status_tells;
      alone = alone;
      after_fault = after_fault;
    }

pub further : Further
further =
    record {
      all_met = all_met;
      glued = glued;
      all_there = all_there;
      built_arrives = built_arrives;
      journey = journey;
      alike = two_alike;
      which_byte = which_byte;
      examples = examples.examples;
    }
