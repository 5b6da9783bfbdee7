-- A call that the station refuses.
use Rattle.std.specs.Prelude.{◌≡◌, []}
use Rattle.capture.specs.declared.record.Event.{Event}
use Rattle.day.specs.Day.{Day}
use Rattle.day.specs.Records.{after_record, event_number}
use Rattle.day.specs.Printed.{record_text}

-- the day stays as it is, the run goes on, and nothing is printed
pub record NothingHappens (d : Day) (e : Event) : Type 0 where
  pub day_same : after_record d e ≡ d
  pub goes_on : event_number d e ≡ 0
  pub prints_nothing : record_text d e ≡ []
