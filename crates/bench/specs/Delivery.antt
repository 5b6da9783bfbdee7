-- "One frame is on the wire; a step hands it to every other station and puts the addressee's new frame on the wire."
use Rattle.std.specs.Prelude.{Bool, true, false, not, ◌&&◌, List, [], ◌∷◌, ℕ, zero, suc, ltb, eqb, Option, None, Some}
use Rattle.parts.specs.Choose.{pick}
use Rattle.parts.specs.Moves.{is_waiting}
use Rattle.parts.specs.Frames.{failing_of, Dispatch}
use Rattle.station.specs.Stations.{state_of, answered}
use Rattle.station.specs.Heard.{frame_rule}
use Rattle.parts.specs.declared.frame.Frame.{Frame}
use Rattle.station.specs.declared.station.Station.{Station}
use Rattle.station.specs.declared.station.Answer.{Answer}
use Rattle.bench.specs.Ring.{station_at}
use Rattle.bench.specs.declared.ring.Bench.{Bench}

-- what the station at the position p of a ring of n answers, `hears` saying who hears the frame; who is no member or does not hear it
-- answers nothing and stays as it is
unfoldable pub handed : ℕ → (ℕ → Bool) → Frame → ℕ → ℕ → ℕ → Station → Answer
handed n hears f from to p s = pick (pick (ltb p n) (hears p) false) (frame_rule s f from to) (answered s 0)

-- the stations from the position p on, in ring order, once each has been handed the frame
unfoldable pub delivered : ℕ → (ℕ → Bool) → Frame → ℕ → ℕ → ℕ → List Station → List Station
delivered n hears f from to p [] = []
delivered n hears f from to p (s ∷ ss) = (handed n hears f from to p s).station ∷ delivered n hears f from to (suc p) ss

-- the addressee's new frame, if it sends one
unfoldable pub reply_of : (ℕ → Bool) → Bench → Frame → ℕ → Dispatch
reply_of hears b f to = (handed b.n hears f b.wire.from to to (station_at b to)).sent

-- the frame f to the station `to` is delivered to whoever hears it
unfoldable pub deliver_to : (ℕ → Bool) → Bench → Frame → ℕ → Bench
deliver_to hears b f to =
    record {
      n = b.n;
      stations = delivered b.n hears f b.wire.from to 0 b.stations;
      wire = record { from = to; sent = reply_of hears b f to };
    }

-- who hears a frame on a perfect wire: everybody but its sender
abbrev pub others : ℕ → ℕ → Bool
others from p = not (eqb p from)

-- who hears a frame that is lost for its addressee: everybody but the two
abbrev pub bystanders : ℕ → ℕ → ℕ → Bool
bystanders from to p = not (eqb p from) && not (eqb p to)

-- by whether it is lost for its addressee
abbrev pub hearing : Bool → ℕ → ℕ → ℕ → Bool
hearing false from to = others from
hearing true from to = bystanders from to

abbrev pub deliver : Bench → Frame → ℕ → Bench
deliver b f to = deliver_to (others b.wire.from) b f to

abbrev pub is_sent : Dispatch → Bool
is_sent None = false
is_sent (Some (frame, to)) = true

-- with no frame on the wire a step does nothing
unfoldable pub step_on : Bench → Dispatch → Bench
step_on b None = b
step_on b (Some (frame, to)) = deliver b frame to

unfoldable pub step : Bench → Bench
step b = step_on b b.wire.sent

-- k steps
unfoldable pub steps : ℕ → Bench → Bench
steps zero b = b
steps (suc k) b = steps k (step b)

-- ---- who is handed back as it was

abbrev pub is_nobody : Option ℕ → Bool
is_nobody None = true
is_nobody (Some p) = false

-- a frame that names no failing station
abbrev pub is_quiet : Frame → Bool
is_quiet f = is_nobody (failing_of f)

-- which frames to `to` leave the station as it is: quiet ones, if it does not wait and is not addressed
abbrev pub stands_by : Bool → ℕ → Station → Bool
stands_by quiet to s = pick quiet (pick (is_waiting (state_of s)) false (not (eqb to s.own))) false

-- the first p positions have been handed the frame: the addressee's reply, once it is among them
abbrev pub reply_to : ℕ → ℕ → Dispatch → Dispatch → Dispatch
reply_to p to sent before = pick (eqb p to) sent before
