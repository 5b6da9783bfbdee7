-- What the functions over the lent table give.
use Rattle.std.specs.Prelude.{Bool, false, List, [], ◌∷◌, ◌++◌, ℕ, ◌+◌, ◌^◌, ◌<◌, ◌≤◌, ltb, eqb, length, get_or, take, drop, set, Option}
use Rattle.parts.specs.Choose.{pick}
use Rattle.parts.specs.Frames.{Dispatch}
use Rattle.station.specs.declared.station.Station.{Station}
use Rattle.bench.specs.Ring.{nobody}
use Rattle.bench.specs.Text.{answer_text}
use Rattle.bench.specs.Delivery.{handed, delivered}
use Rattle.bench.specs.Table.{hears}
use Rattle.bench.specs.declared.table.Handing.{Handing}
use Rattle.capture.specs.declared.record.Event.{Event}
use Rattle.capture.specs.declared.record.Event.TheVariants.{Delivered, LostForAddressee, LostForAll, Timer, Queue}
use Rattle.capture.specs.declared.record.Read.{Read}
use Rattle.capture.specs.declared.record.Read.TheVariants.{End, Refused, Good}
use Rattle.day.specs.Day.{Day, most_frames, joining}
use Rattle.day.specs.Wire.{flying_of}
use Rattle.day.specs.Printed.{stopped_text}
use Rattle.replay.specs.Runs.{Record, good, bad, Course}
use Rattle.day.specs.declared.wire.Flying.{Flying}
use Rattle.day.specs.declared.calls.Call.{Call}
use Rattle.day.specs.declared.calls.Told.{Told}
use Rattle.day.specs.declared.strikes.Taken.{Taken}
use Rattle.replay.specs.declared.going.Going.{Going}
use Rattle.day.specs.declared.plan.Plan.{Plan}
use Rattle.day.specs.Strikes.{span, no_strikers, strikers_of, taken_text}
use Rattle.day.specs.Calls.{told_by, kept_by, called_text}
use Rattle.day.specs.Plans.{handing_for, call_for, place_for, plan_of, no_plan}

-- ---- a run in progress

-- what is kept of it beside the table: `k` of `most` turns are done, what is printed ends at `used`, and the next record begins at `at`
pub record Way : Type 0 where
  pub n : ℕ
  pub channels : List ℕ
  pub wire : List Flying
  pub at : ℕ
  pub done : ℕ
  pub number : ℕ
  pub used : ℕ
  pub most : ℕ
  pub k : ℕ

abbrev pub way_of : Going → Way
way_of g =
    record {
      n = g.n;
      channels = g.channels;
      wire = flying_of g.wire;
      at = g.at;
      done = g.done;
      number = g.number;
      used = g.used;
      most = g.most;
      k = g.k;
    }

abbrev pub day_in : Way → List Station → Day
day_in w ss = record { n = w.n; stations = ss; wire = w.wire }

abbrev pub course_in : Way → List Station → Course
course_in w ss = record { day = day_in w ss; done = w.done; number = w.number }

-- what was read, as records
abbrev pub records_in : Read → List Record
records_in End = []
records_in (Refused number) = bad number ∷ []
records_in (Good event next) = good event ∷ []

-- ---- what a record asks for

-- what was read asks for nothing where it is no event
unfoldable pub plan_in : Way → Read → Plan
plan_in w End = no_plan
plan_in w (Refused number) = no_plan
plan_in w (Good event next) = plan_of (handing_for w.n w.wire event) (place_for event) (call_for w.wire event)

-- ---- and what is printed and kept of it

-- one turn more
abbrev pub moved_on : Way → List Flying → ℕ → ℕ → ℕ → ℕ → Way
moved_on w wire at done number used =
    record {
      n = w.n;
      channels = w.channels;
      wire = wire;
      at = at;
      done = done;
      number = number;
      used = used;
      most = w.most;
      k = w.k + 1;
    }

abbrev pub halted : Way → ℕ → List ℕ → Way
halted w number text = moved_on w w.wire w.at w.done number (w.used + length text)

abbrev pub onward : Way → List Flying → ℕ → List ℕ → Way
onward w wire next text = moved_on w wire next (w.done + 1) 0 (w.used + length text)

-- what joins: never more than 64
abbrev pub joined_by : List Flying → ℕ → Dispatch → List Flying
joined_by wire p sent = take most_frames (wire ++ joining p sent)

abbrev pub timer_lines : ℕ → ℕ → Told → List ℕ
timer_lines done p a = pick (eqb a.number 0) (called_text p a) (stopped_text a.number done)

unfoldable pub event_text : Way → Event → Handing → Taken → Told → List ℕ
event_text w Delivered h t a = taken_text h t
event_text w LostForAddressee h t a = taken_text h t
event_text w LostForAll h t a = taken_text h t
event_text w (Timer station) h t a = timer_lines w.done station a
event_text w (Queue station request) h t a = answer_text a.number

abbrev pub after_taken : Way → ℕ → Handing → Taken → Way
after_taken w next h t = onward w (joined_by (drop 1 w.wire) h.to t.reply) next (taken_text h t)

abbrev pub after_timer : Way → ℕ → ℕ → Told → Way
after_timer w next p a =
    pick (eqb a.number 0)
    (onward w (joined_by w.wire p a.sent) next (called_text p a))
    (halted w a.number (stopped_text a.number w.done))

unfoldable pub after_event : Way → Event → ℕ → Handing → Taken → Told → Way
after_event w Delivered next h t a = after_taken w next h t
after_event w LostForAddressee next h t a = after_taken w next h t
after_event w LostForAll next h t a = after_taken w next h t
after_event w (Timer station) next h t a = after_timer w next station a
after_event w (Queue station request) next h t a = onward w w.wire next (answer_text a.number)

unfoldable pub read_text : Way → Read → Handing → Taken → Told → List ℕ
read_text w End h t a = []
read_text w (Refused number) h t a = stopped_text number w.done
read_text w (Good event next) h t a = event_text w event h t a

unfoldable pub after_read : Way → Read → Handing → Taken → Told → Way
after_read w End h t a = halted w w.number []
after_read w (Refused number) h t a = halted w number (stopped_text number w.done)
after_read w (Good event next) h t a = after_event w event next h t a

-- whether there is a next turn
abbrev pub goes_on : Way → Bool
goes_on w = pick (ltb w.k w.most) (eqb w.number 0) false

-- ---- a record's turn over the table

-- what the frame that is handed round brings
abbrev pub taken_in : Handing → List Station → Taken
taken_in h ss =
    record {
      strikers = strikers_of no_strikers (span h) ss h;
      reply = (handed h.n (hears h) h.frame h.from h.to h.to (get_or ss h.to nobody)).sent;
    }

-- the table once it has been handed round
abbrev pub handed_in : Handing → List Station → List Station
handed_in h ss = delivered h.n (hears h) h.frame h.from h.to 0 ss

-- and once the station at a place has been called
abbrev pub called_in : ℕ → Option Call → List Station → List Station
called_in p c ss = set ss p (kept_by (get_or ss p nobody) c).station

abbrev pub table_in : Plan → List Station → List Station
table_in p ss = called_in p.place p.call (handed_in p.handing ss)

abbrev pub told_in : Plan → List Station → Told
told_in p ss = told_by (get_or ss p.place nobody) p.call

-- what is left of a run after the record in hand, and what it prints
abbrev pub way_after : Way → Read → List Station → Way
way_after w r ss = after_read w r (plan_in w r).handing (taken_in (plan_in w r).handing ss) (told_in (plan_in w r) ss)

abbrev pub text_after : Way → Read → List Station → List ℕ
text_after w r ss = read_text w r (plan_in w r).handing (taken_in (plan_in w r).handing ss) (told_in (plan_in w r) ss)

-- a run that has a next turn: the record in hand calls a station of the table, and there is room for what it prints
abbrev pub Ready : Going → ℕ → Type 0
Ready g room = (g.done < 2 ^ 63) × ((g.k < g.most) × ((g.used + 1440 ≤ room) × ((plan_in (way_of g) g.read).place < 64)))
