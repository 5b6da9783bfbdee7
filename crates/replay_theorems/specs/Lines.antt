-- What a run prints, line by line.
use Rattle.std.specs.Prelude.{Bool, List, [], ◌∷◌, ◌++◌, ℕ, suc, eqb, Option, None, Some}
use Rattle.parts.specs.Choose.{pick}
use Rattle.station.specs.Queue.{queue_rule}
use Rattle.parts.specs.declared.frame.Frame.{Frame}
use Rattle.station.specs.declared.station.Station.{Station}
use Rattle.station.specs.declared.station.Answer.{Answer}
use Rattle.bench.specs.Delivery.{handed}
use Rattle.bench.specs.Rows.{row_on}
use Rattle.bench.specs.Text.{row_text, answer_text}
use Rattle.bench.specs.declared.rows.Row.{Row}
use Rattle.capture.specs.declared.record.Event.{Event}
use Rattle.capture.specs.declared.record.Event.TheVariants.{Delivered, LostForAddressee, LostForAll, Timer, Queue}
use Rattle.day.specs.declared.wire.Flying.{Flying}
use Rattle.day.specs.Day.{Day, member_at}
use Rattle.day.specs.Records.{hearers, reply_to, timer_answer}
use Rattle.day.specs.Printed.{struck_text, stopped_text}
use Rattle.replay.specs.Runs.{Record, good, bad, Course, record_number, turn}

-- a line: the first has been struck by the second; a frame; a queue call's number, of which nothing is printed where it is 0; a refused
-- record's number and index
pub data Line : Type 0 where
  struck : ℕ → ℕ → Line
  sent : Row → Line
  queued : ℕ → Line
  stopped : ℕ → ℕ → Line

unfoldable pub line_text : Line → List ℕ
line_text (struck p q) = struck_text (Some p) q
line_text (sent row) = row_text row
line_text (queued number) = answer_text number
line_text (stopped number index) = stopped_text number index

unfoldable pub lines_text : List Line → List ℕ
lines_text [] = []
lines_text (l ∷ ls) = line_text l ++ lines_text ls

-- ---- one record

unfoldable pub struck_line : Option ℕ → ℕ → List Line
struck_line None q = []
struck_line (Some p) q = struck p q ∷ []

unfoldable pub sent_lines : List Row → List Line
sent_lines [] = []
sent_lines (r ∷ rs) = sent r ∷ sent_lines rs

-- by the stations from the position p on, each once it has been handed the frame
unfoldable pub struck_lines : ℕ → (ℕ → Bool) → Frame → ℕ → ℕ → ℕ → List Station → List Line
struck_lines n hears f from to p [] = []
struck_lines n hears f from to p (s ∷ ss) =
    struck_line (handed n hears f from to p s).struck p ++ struck_lines n hears f from to (suc p) ss

unfoldable pub taken_lines : Event → Day → List Flying → List Line
taken_lines e d [] = []
taken_lines e d (f ∷ rest) =
    struck_lines d.n (hearers e f) f.frame f.from f.to 0 d.stations ++ sent_lines (row_on f.to (reply_to (hearers e f) d f))

unfoldable pub timer_lines : ℕ → Answer → List Line
timer_lines p a = struck_line a.struck p ++ sent_lines (row_on p a.sent)

unfoldable pub record_lines : Day → Event → List Line
record_lines d Delivered = taken_lines Delivered d d.wire
record_lines d LostForAddressee = taken_lines LostForAddressee d d.wire
record_lines d LostForAll = taken_lines LostForAll d d.wire
record_lines d (Timer station) = timer_lines station (timer_answer d station)
record_lines d (Queue station request) = queued (queue_rule (member_at d station) request).number ∷ []

-- ---- a run

abbrev pub effect_lines : Day → Record → List Line
effect_lines d (good e) = record_lines d e
effect_lines d (bad number) = []

unfoldable pub turn_lines : Course → Record → List Line
turn_lines c r =
    pick (eqb c.number 0)
    (pick (eqb (record_number c.day r) 0) (effect_lines c.day r) (stopped (record_number c.day r) c.done ∷ []))
    []

unfoldable pub run_lines : Course → List Record → List Line
run_lines c [] = []
run_lines c (r ∷ rs) = turn_lines c r ++ run_lines (turn c r) rs
