-- What is printed of a day.
use Rattle.std.specs.Prelude.{Bool, List, [], ◌∷◌, ◌++◌, ℕ, zero, suc, take, Option, None, Some}
use Rattle.parts.specs.Choose.{pick}
use Rattle.parts.specs.Live.{live_at, seats}
use Rattle.station.specs.Stations.{state_of}
use Rattle.station.specs.Queue.{queue_rule}
use Rattle.parts.specs.declared.frame.Frame.{Frame}
use Rattle.parts.specs.declared.live.Live.{Live}
use Rattle.parts.specs.declared.moves.State.{State}
use Rattle.parts.specs.declared.moves.State.TheVariants.{Offline, Idle, Waiting, Alone, Excluded}
use Rattle.station.specs.declared.station.Station.{Station}
use Rattle.station.specs.declared.station.Answer.{Answer}
use Rattle.bench.specs.Delivery.{handed}
use Rattle.bench.specs.Rows.{row_of, row_on}
use Rattle.bench.specs.Text.{space, line_feed, text, cell, row_text, rows_text, heading, answer_text}
use Rattle.capture.specs.declared.record.Event.{Event}
use Rattle.capture.specs.declared.record.Event.TheVariants.{Delivered, LostForAddressee, LostForAll, Timer, Queue}
use Rattle.day.specs.Day.{Day, member_at}
use Rattle.day.specs.Records.{hearers, reply_to, timer_answer}
use Rattle.day.specs.declared.wire.Flying.{Flying}

-- ---- the beginning: the bench's heading, and the frames on the wire

abbrev pub flying_text : Flying → List ℕ
flying_text f = row_text (row_of f.from f.frame f.to)

unfoldable pub wire_text : List Flying → List ℕ
wire_text [] = []
wire_text (f ∷ fs) = flying_text f ++ wire_text fs

abbrev pub start_text : Day → List ℕ
start_text d = heading ++ wire_text d.wire

-- ---- one record: who newly struck whom, in ring order, and then the new frame

-- the station q has newly struck the station p
unfoldable pub strike_text : ℕ → ℕ → List ℕ
strike_text p q = text "struck " ++ (cell p space ++ (text "by " ++ cell q line_feed))

-- whom it has newly struck, if anyone
unfoldable pub struck_text : Option ℕ → ℕ → List ℕ
struck_text None q = []
struck_text (Some p) q = strike_text p q

-- by the stations from the position p on, each once it has been handed the frame
unfoldable pub strikes_text : ℕ → (ℕ → Bool) → Frame → ℕ → ℕ → ℕ → List Station → List ℕ
strikes_text n hears f from to p [] = []
strikes_text n hears f from to p (s ∷ ss) =
    struck_text (handed n hears f from to p s).struck p ++ strikes_text n hears f from to (suc p) ss

unfoldable pub frame_text : (ℕ → Bool) → Day → Flying → List ℕ
frame_text hears d f =
    strikes_text d.n hears f.frame f.from f.to 0 d.stations ++ rows_text (row_on f.to (reply_to hears d f))

unfoldable pub take_text : Event → Day → List Flying → List ℕ
take_text e d [] = []
take_text e d (f ∷ rest) = frame_text (hearers e f) d f

unfoldable pub timer_text : ℕ → Answer → List ℕ
timer_text p a = struck_text a.struck p ++ rows_text (row_on p a.sent)

unfoldable pub record_text : Day → Event → List ℕ
record_text d Delivered = take_text Delivered d d.wire
record_text d LostForAddressee = take_text LostForAddressee d d.wire
record_text d LostForAll = take_text LostForAll d d.wire
record_text d (Timer station) = timer_text station (timer_answer d station)
record_text d (Queue station request) = answer_text (queue_rule (member_at d station) request).number

-- a refused record: its number, and its index
unfoldable pub stopped_text : ℕ → ℕ → List ℕ
stopped_text number index = text "stopped " ++ (cell number space ++ (text "at " ++ cell index line_feed))

-- ---- the end

abbrev pub end_heading : List ℕ
end_heading = text "station state live send receive lost given-up" ++ line_feed ∷ []

abbrev pub state_text : State → List ℕ
state_text Offline = text "Offline "
state_text Idle = text "Idle "
state_text Waiting = text "Waiting "
state_text Alone = text "Alone "
state_text Excluded = text "Excluded "

-- `1` or `0` for each of k positions from p on
unfoldable pub live_text : Live → ℕ → ℕ → List ℕ
live_text l zero p = space ∷ []
live_text l (suc k) p = pick (live_at l p) 49 48 ∷ live_text l k (suc p)

-- the messages in its send and in its receive list
unfoldable pub lists_text : Station → List ℕ
lists_text s = cell s.sends.len space ++ cell s.receives.len space

unfoldable pub counts_text : Station → List ℕ
counts_text s = cell s.counts.lost space ++ cell s.counts.givenup line_feed

-- the station at p, of a ring of n
unfoldable pub station_text : ℕ → ℕ → Station → List ℕ
station_text n p s = cell p space ++ (state_text (state_of s) ++ (live_text s.live (seats n) 0 ++ (lists_text s ++ counts_text s)))

unfoldable pub stations_text : ℕ → ℕ → List Station → List ℕ
stations_text n p [] = []
stations_text n p (s ∷ ss) = station_text n p s ++ stations_text n (suc p) ss

unfoldable pub end_text : Day → List ℕ
end_text d = end_heading ++ stations_text d.n 0 (take (seats d.n) d.stations)
