-- What one record does to a day, and when it is refused.
use Rattle.std.specs.Prelude.{Bool, false, ◌&&◌, List, [], ◌∷◌, ◌++◌, ℕ, leb, length, set}
use Rattle.parts.specs.Choose.{pick}
use Rattle.station.specs.Queue.{queue_rule}
use Rattle.station.specs.Timer.{timer_rule}
use Rattle.parts.specs.Frames.{Dispatch}
use Rattle.station.specs.declared.station.Answer.{Answer}
use Rattle.bench.specs.Delivery.{handed, delivered, others, bystanders}
use Rattle.bench.specs.Delivery.{is_sent}
use Rattle.capture.specs.declared.record.Event.{Event}
use Rattle.capture.specs.declared.record.Event.TheVariants.{Delivered, LostForAddressee, LostForAll, Timer, Queue}
use Rattle.day.specs.Day.{Day, most_frames, member_at, joining}
use Rattle.day.specs.declared.wire.Flying.{Flying}

-- ---- a frame record: "takes the oldest frame on the wire; with none it does nothing"

-- nobody hears a frame that is lost for all
abbrev pub nobody_hears : ℕ → Bool
nobody_hears p = false

-- who hears a frame: delivered, everybody but its sender; lost for the addressee only, everybody but sender and addressee
abbrev pub hearers : Event → Flying → ℕ → Bool
hearers Delivered f = others f.from
hearers LostForAddressee f = bystanders f.from f.to
hearers LostForAll f = nobody_hears
hearers (Timer station) f = nobody_hears
hearers (Queue station request) f = nobody_hears

-- what the member at p answers to the frame
abbrev pub answer_of : (ℕ → Bool) → Day → Flying → ℕ → Answer
answer_of hears d f p = handed d.n hears f.frame f.from f.to p (member_at d p)

-- what the addressee answers; nobody else answers a frame
abbrev pub reply_to : (ℕ → Bool) → Day → Flying → Dispatch
reply_to hears d f = (answer_of hears d f f.to).sent

-- the frame f leaves the wire, whoever hears it is handed it, and the addressee's new frame joins the end of the wire
unfoldable pub after_frame : (ℕ → Bool) → Day → Flying → List Flying → Day
after_frame hears d f rest =
    record {
      n = d.n;
      stations = delivered d.n hears f.frame f.from f.to 0 d.stations;
      wire = rest ++ joining f.to (reply_to hears d f);
    }

unfoldable pub take_frame : Event → Day → List Flying → Day
take_frame e d [] = d
take_frame e d (f ∷ rest) = after_frame (hearers e f) d f rest

-- ---- a call of the station at p

unfoldable pub after_call : Day → ℕ → Answer → Day
after_call d p a = record { n = d.n; stations = set d.stations p a.station; wire = d.wire ++ joining p a.sent }

abbrev pub timer_answer : Day → ℕ → Answer
timer_answer d p = timer_rule (member_at d p)

-- ---- one record

unfoldable pub after_record : Day → Event → Day
after_record d Delivered = take_frame Delivered d d.wire
after_record d LostForAddressee = take_frame LostForAddressee d d.wire
after_record d LostForAll = take_frame LostForAll d d.wire
after_record d (Timer station) = after_call d station (timer_answer d station)
after_record d (Queue station request) = after_call d station (queue_rule (member_at d station) request)

-- "36 for a timer record that would put a 65th frame on the wire"
abbrev pub overfills : Day → Dispatch → Bool
overfills d sent = is_sent sent && leb most_frames (length d.wire)

unfoldable pub event_number : Day → Event → ℕ
event_number d Delivered = 0
event_number d LostForAddressee = 0
event_number d LostForAll = 0
event_number d (Timer station) = pick (overfills d (timer_answer d station).sent) 36 0
event_number d (Queue station request) = 0
