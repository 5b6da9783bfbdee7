-- "Demand 3 is read only for records 0 and 4": a run of such records beside the bench's steps and queue calls.
use Rattle.std.specs.Prelude.{◌≡◌, Bool, true, false, List, [], ◌∷◌, ◌++◌, ℕ, length}
use Rattle.station.specs.Queue.{new_message}
use Rattle.parts.specs.declared.request.Request.{Request}
use Rattle.bench.specs.Ring.{station_at, ring_with}
use Rattle.bench.specs.Calls.{queue}
use Rattle.bench.specs.Runs.{Event as BenchEvent, stepped, queued as queue_call, after_event, composed, final, frames}
use Rattle.bench.specs.declared.ring.Bench.{Bench}
use Rattle.bench.specs.declared.rows.Row.{Row}
use Rattle.waiting.specs.Waiting.{spot_for, at_queue, Bound}
use Rattle.capture.specs.declared.record.Event.TheVariants.{Delivered, LostForAddressee, LostForAll, Timer, Queue}
use Rattle.day.specs.Day.{begun_by, start_day}
use Rattle.replay.specs.Runs.{Record, good, bad, gone, gone_text, begun}
use Rattle.replay_theorems.specs.Lines.{Line, struck, sent, queued, stopped, lines_text, sent_lines, run_lines}

-- a record of kind 0 or 4
abbrev pub is_fault_free : Record → Bool
is_fault_free (good Delivered) = true
is_fault_free (good LostForAddressee) = false
is_fault_free (good LostForAll) = false
is_fault_free (good (Timer station)) = false
is_fault_free (good (Queue station request)) = true
is_fault_free (bad number) = false

-- what they are on the bench: a frame delivered is a step, a queue a queue call
unfoldable pub bench_events : List Record → List BenchEvent
bench_events [] = []
bench_events (good Delivered ∷ rs) = stepped ∷ bench_events rs
bench_events (good LostForAddressee ∷ rs) = bench_events rs
bench_events (good LostForAll ∷ rs) = bench_events rs
bench_events (good (Timer station) ∷ rs) = bench_events rs
bench_events (good (Queue station request) ∷ rs) = queue_call station request ∷ bench_events rs
bench_events (bad number ∷ rs) = bench_events rs

-- what the bench tells of its events: the frame that a step composes, and a queue call's number
unfoldable pub event_lines : Bench → BenchEvent → List Line
event_lines b stepped = sent_lines (composed b stepped)
event_lines b (queue_call from q) = queued (queue b from q).number ∷ []

unfoldable pub events_lines : Bench → List BenchEvent → List Line
events_lines b [] = []
events_lines b (e ∷ es) = event_lines b e ++ events_lines (after_event b e) es

-- the frames among the lines
unfoldable pub frames_in : List Line → List Row
frames_in [] = []
frames_in (struck p q ∷ ls) = frames_in ls
frames_in (sent row ∷ ls) = row ∷ frames_in ls
frames_in (queued number ∷ ls) = frames_in ls
frames_in (stopped number index ∷ ls) = frames_in ls

-- the run is not stopped; its stations and its wire are the bench's, and so are its frames and its queue calls' numbers, in their order, and
-- nothing else is printed
pub record AsOnBench (n limit : ℕ) (rs : List Record) : Type 0 where
  pub same_day : (gone (begun (start_day n limit)) rs).day ≡ begun_by (final (ring_with n limit) (bench_events rs))
  pub not_stopped : (gone (begun (start_day n limit)) rs).number ≡ 0
  pub all_done : (gone (begun (start_day n limit)) rs).done ≡ length rs
  pub same_lines : run_lines (begun (start_day n limit)) rs ≡ events_lines (ring_with n limit) (bench_events rs)
  pub same_frames : frames_in (run_lines (begun (start_day n limit)) rs) ≡ frames (ring_with n limit) (bench_events rs)
  pub same_text : gone_text (begun (start_day n limit)) rs ≡ lines_text (events_lines (ring_with n limit) (bench_events rs))

-- the bench once a queue call behind these records has been accepted
abbrev pub accepted_on : ℕ → ℕ → List Record → ℕ → Request → Bench
accepted_on n limit early from r = (queue (at_queue n limit (bench_events early)) from r).bench

-- the message of a queue record, with what came before it and what comes after it: the day that accepts it and the lines after it are the
-- bench's, and the bound holds
pub record BoundHolds (n limit : ℕ) (early : List Record) (from : ℕ) (r : Request) (after : List Record) : Type 0 where
  pub accepted_day : (gone (begun (start_day n limit)) (early ++ (good (Queue from r) ∷ []))).day ≡ begun_by (accepted_on n limit early from r)
  pub lines_after : run_lines (gone (begun (start_day n limit)) (early ++ (good (Queue from r) ∷ []))) after
      ≡ events_lines (accepted_on n limit early from r) (bench_events after)
  pub bound : Bound n (spot_for (at_queue n limit (bench_events early)) from) (new_message (station_at (at_queue n limit (bench_events early)) from) r)
      (accepted_on n limit early from r) (bench_events after)
