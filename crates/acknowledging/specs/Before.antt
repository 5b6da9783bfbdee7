-- The bench by rule 2 as it was until CR 2: "a Waiting station is acknowledged by a frame from its addressee with the number after its own
-- frame's". Everything else is as it stands.
use Rattle.std.specs.Prelude.{Bool, false, List, [], ◌∷◌, ◌++◌, ℕ, suc, ltb, eqb, None, Some}
use Rattle.parts.specs.Choose.{pick}
use Rattle.parts.specs.Moves.{is_waiting}
use Rattle.parts.specs.Frames.{number_of, failing_of, next, Dispatch}
use Rattle.station.specs.Stations.{state_of, awaited_of, quiet, answered, moved, unless}
use Rattle.station.specs.Heard.{landed, failed, respond, checks}
use Rattle.parts.specs.declared.moves.State.TheVariants.{Idle}
use Rattle.parts.specs.declared.moves.Event.TheVariants.{Heard}
use Rattle.parts.specs.declared.frame.Frame.{Frame}
use Rattle.station.specs.declared.station.Station.{Station}
use Rattle.station.specs.declared.station.Answer.{Answer}
use Rattle.bench.specs.Ring.{station_at}
use Rattle.bench.specs.Delivery.{others}
use Rattle.bench.specs.Calls.{queue}
use Rattle.bench.specs.Rows.{rows_on}
use Rattle.bench.specs.Runs.{Event, stepped, queued}
use Rattle.bench.specs.declared.ring.Bench.{Bench}
use Rattle.bench.specs.declared.rows.Row.{Row}

-- ---- rule 2

-- a frame `from` with the number k acknowledges the awaited one: it is from its addressee, with the number after its own
unfoldable pub acknowledges_before : Dispatch → ℕ → ℕ → Bool
acknowledges_before None from k = false
acknowledges_before (Some (frame, to)) from k = pick (eqb from to) (eqb k (next (number_of frame))) false

unfoldable pub acknowledged_before : Station → ℕ → ℕ → Bool
acknowledged_before s from k = pick (is_waiting (state_of s)) (acknowledges_before (awaited_of s) from k) false

unfoldable pub acknowledge_before : Station → ℕ → ℕ → Station
acknowledge_before s from k = pick (acknowledged_before s from k) (quiet (landed s) Idle) s

-- ---- a heard frame

unfoldable pub heard_before : Station → Frame → ℕ → ℕ → Answer
heard_before s f from to = respond (failed (acknowledge_before s from (number_of f)) (failing_of f)) from to f

unfoldable pub frame_rule_before : Station → Frame → ℕ → ℕ → Answer
frame_rule_before s f from to = moved s Heard (unless s (checks s from to) (heard_before s f from to))

-- ---- the bench

unfoldable pub handed_before : ℕ → Frame → ℕ → ℕ → ℕ → Station → Answer
handed_before n f from to p s = pick (pick (ltb p n) (others from p) false) (frame_rule_before s f from to) (answered s 0)

unfoldable pub delivered_before : ℕ → Frame → ℕ → ℕ → ℕ → List Station → List Station
delivered_before n f from to p [] = []
delivered_before n f from to p (s ∷ ss) = (handed_before n f from to p s).station ∷ delivered_before n f from to (suc p) ss

unfoldable pub step_on_before : Bench → Dispatch → Bench
step_on_before b None = b
step_on_before b (Some (frame, to)) =
    record {
      n = b.n;
      stations = delivered_before b.n frame b.wire.from to 0 b.stations;
      wire = record { from = to; sent = (handed_before b.n frame b.wire.from to to (station_at b to)).sent };
    }

unfoldable pub step_before : Bench → Bench
step_before b = step_on_before b b.wire.sent

-- ---- runs

unfoldable pub after_event_before : Bench → Event → Bench
after_event_before b stepped = step_before b
after_event_before b (queued from q) = (queue b from q).bench

unfoldable pub composed_before : Bench → Event → List Row
composed_before b stepped = rows_on (step_before b).wire
composed_before b (queued from q) = []

unfoldable pub final_before : Bench → List Event → Bench
final_before b [] = b
final_before b (e ∷ es) = final_before (after_event_before b e) es

unfoldable pub frames_before : Bench → List Event → List Row
frames_before b [] = []
frames_before b (e ∷ es) = composed_before b e ++ frames_before (after_event_before b e) es
