-- The bench: a table of stations and the frame on the wire; and how a ring begins.
use Rattle.std.specs.Prelude.{ℕ, zero, suc, get_or, set, replicate, None, Some}
use Rattle.parts.specs.Live.{seats}
use Rattle.station.specs.Stations.{made}
use Rattle.station.specs.Start.{start_rule}
use Rattle.parts.specs.Frames.{Dispatch}
use Rattle.station.specs.declared.station.Station.{Station}
use Rattle.station.specs.declared.station.Answer.{Answer}
use Rattle.bench.specs.declared.ring.Wire.{Wire}
use Rattle.bench.specs.declared.ring.Bench.{Bench}

-- what lies in the table past the ring: a station of no ring, that never starts
unfoldable pub nobody : Station
nobody = made 0 0 0

-- the station at a ring position
abbrev pub station_at : Bench → ℕ → Station
station_at b p = get_or b.stations p nobody

-- a frame that the station at p sends goes on the wire; where it sends none the wire stays as it is
unfoldable pub on_wire : Wire → ℕ → Dispatch → Wire
on_wire w p None = w
on_wire w p (Some (frame, to)) = record { from = p; sent = Some (frame, to) }

-- what the member p of a ring of n with a retry limit answers to its start
abbrev pub first_answer : ℕ → ℕ → ℕ → Answer
first_answer n limit p = start_rule (made n limit p)

-- the member p is made and starts
unfoldable pub start_at : ℕ → Bench → ℕ → Bench
start_at limit b p =
    record {
      n = b.n;
      stations = set b.stations p (first_answer b.n limit p).station;
      wire = on_wire b.wire p (first_answer b.n limit p).sent;
    }

-- the members below k start, from k - 1 down to 0
unfoldable pub start_down : ℕ → ℕ → Bench → Bench
start_down limit zero b = b
start_down limit (suc k) b = start_down limit k (start_at limit b k)

-- no station has started, and no frame is on the wire
abbrev pub empty_bench : ℕ → Bench
empty_bench n = record { n = n; stations = replicate 64 nobody; wire = record { from = 0; sent = None } }

-- a ring of n stations with a retry limit: "stations start from N−1 down to 0"
unfoldable pub ring_with : ℕ → ℕ → Bench
ring_with n limit = start_down limit (seats n) (empty_bench n)

-- the bench's own ring: "R is 1"
abbrev pub ring_of : ℕ → Bench
ring_of n = ring_with n 1
