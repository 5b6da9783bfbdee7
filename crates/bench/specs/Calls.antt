-- "Queue calls fall between steps."
use Rattle.std.specs.Prelude.{ℕ, leb, set}
use Rattle.parts.specs.Choose.{pick}
use Rattle.parts.specs.Live.{seats}
use Rattle.parts.specs.declared.request.Request.{Request}
use Rattle.station.specs.Queue.{queue_rule}
use Rattle.station.specs.declared.station.Station.{Station}
use Rattle.station.specs.declared.station.Answer.{Answer}
use Rattle.bench.specs.Ring.{station_at}
use Rattle.bench.specs.declared.ring.Bench.{Bench}
use Rattle.bench.specs.declared.calls.Queued.{Queued}

-- the station at a position anew
abbrev pub with_station : Bench → ℕ → Station → Bench
with_station b p s = record { n = b.n; stations = set b.stations p s; wire = b.wire }

-- the station's own queue call
abbrev pub queue_at : Bench → ℕ → Answer → Queued
queue_at b from a = record { bench = with_station b from a.station; number = a.number }

-- "a FROM outside the ring" is 15, "checked first"
unfoldable pub queue : Bench → ℕ → Request → Queued
queue b from q =
    pick (leb (seats b.n) from)
    (record { bench = b; number = 15 })
    (queue_at b from (queue_rule (station_at b from) q))
