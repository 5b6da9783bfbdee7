-- A call of one station: its timer, or a message that it is handed.
use Rattle.std.specs.Prelude.{Bool, false, List, ◌++◌, ℕ, Option, None, Some}
use Rattle.parts.specs.Choose.{pick}
use Rattle.parts.specs.Frames.{Dispatch}
use Rattle.station.specs.Queue.{queue_rule}
use Rattle.station.specs.Timer.{timer_rule}
use Rattle.station.specs.declared.station.Station.{Station}
use Rattle.station.specs.declared.station.Answer.{Answer}
use Rattle.bench.specs.Rows.{row_on}
use Rattle.bench.specs.Text.{rows_text}
use Rattle.bench.specs.Delivery.{is_sent}
use Rattle.day.specs.Printed.{struck_text}
use Rattle.day.specs.declared.calls.Call.{Call}
use Rattle.day.specs.declared.calls.Call.TheVariants.{TimerCall, QueueCall}
use Rattle.day.specs.declared.calls.Told.{Told}
use Rattle.day.specs.declared.calls.Answered.{Answered}
use Rattle.day.specs.declared.calls.Kept.{Kept}

abbrev pub told : ℕ → Dispatch → Option ℕ → Told
told number sent struck = record { number = number; sent = sent; struck = struck }

-- a number alone: the station stays as it is
abbrev pub refused_by : Station → ℕ → Answered
refused_by s number = record { station = s; told = told number None None }

-- with no room on the wire a timer that would send is refused, and nothing changes
abbrev pub timed : Station → Bool → Answer → Answered
timed s room a =
    pick (pick room false (is_sent a.sent))
    (refused_by s 36)
    (record { station = a.station; told = told 0 a.sent a.struck })

unfoldable pub called_by : Station → Option Call → Answered
called_by s None = refused_by s 0
called_by s (Some (TimerCall room)) = timed s room (timer_rule s)
called_by s (Some (QueueCall request)) = refused_by (queue_rule s request).station (queue_rule s request).number

-- what the call tells, and the station that it leaves
abbrev pub told_by : Station → Option Call → Told
told_by s c = (called_by s c).told

abbrev pub kept_by : Station → Option Call → Kept
kept_by s c = record { station = (called_by s c).station; number = (called_by s c).told.number }

-- whom it struck, and its new frame
abbrev pub called_text : ℕ → Told → List ℕ
called_text p a = struck_text a.struck p ++ rows_text (row_on p a.sent)
