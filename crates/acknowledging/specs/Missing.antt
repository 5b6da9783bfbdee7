-- A wire on which stations miss a frame and timers run: what happens on the bench then.
use Rattle.std.specs.Prelude.{◌≡◌, Bool, false, map, ℕ, ◌<◌, set, None, Some}
use Rattle.parts.specs.Choose.{pick}
use Rattle.station.specs.Stations.{state_of, with_turn}
use Rattle.station.specs.Timer.{timer_rule}
use Rattle.parts.specs.declared.moves.State.TheVariants.{Waiting}
use Rattle.parts.specs.Frames.{Dispatch}
use Rattle.station.specs.declared.station.Turn.{Turn}
use Rattle.station.specs.declared.station.Station.{Station}
use Rattle.bench.specs.Ring.{station_at, on_wire}
use Rattle.bench.specs.Delivery.{others, deliver_to}
use Rattle.bench.specs.declared.ring.Bench.{Bench}

-- ---- a frame that some stations miss

-- who hears a frame that the stations told by `misses` miss: every other station but its sender
abbrev pub heard_but : (ℕ → Bool) → ℕ → ℕ → Bool
heard_but misses from p = pick (misses p) false (others from p)

unfoldable pub miss_on : (ℕ → Bool) → Bench → Dispatch → Bench
miss_on misses b None = b
miss_on misses b (Some (frame, to)) = deliver_to (heard_but misses b.wire.from) b frame to

-- a step in which they miss the frame on the wire
unfoldable pub miss : (ℕ → Bool) → Bench → Bench
miss misses b = miss_on misses b b.wire.sent

-- ---- a timer

-- the timer of the station at p runs: what it sends goes on the wire
unfoldable pub timer_at : Bench → ℕ → Bench
timer_at b p =
    record {
      n = b.n;
      stations = set b.stations p (timer_rule (station_at b p)).station;
      wire = on_wire b.wire p (timer_rule (station_at b p)).sent;
    }

-- the station at p, another than `from`, waits, and its next timer is below its last
pub record Retries (from : ℕ) (b : Bench) (p : ℕ) : Type 0 where
  pub member : p < b.n
  pub another : p ≡ from → ⊥
  pub waits : state_of (station_at b p) ≡ Waiting
  pub below_last : (station_at b p).turn.retries < (station_at b p).limit

-- what may happen before the timer of `from` runs: timers of others, each below its last, and each time whoever does not miss the frame that
-- goes again hears it
pub data Meanwhile (from : ℕ) (b : Bench) : Bench → Type 0 where
  nothing : Meanwhile from b b
  timer : (c : Bench) → Meanwhile from b c → (p : ℕ) → Retries from c p → (misses : ℕ → Bool) → Meanwhile from b (miss misses (timer_at c p))

-- ---- retry counts apart

-- the same turn with no retry
abbrev pub fresh_turn : Turn → Turn
fresh_turn t = record { state = t.state; awaited = t.awaited; handled = t.handled; retries = 0 }

abbrev pub fresh : Station → Station
fresh s = with_turn s (fresh_turn s.turn)

-- the bench with every retry count at 0
unfoldable pub afresh : Bench → Bench
afresh b = record { n = b.n; stations = map fresh b.stations; wire = b.wire }
