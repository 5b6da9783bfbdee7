-- The day: a ring of stations, and the frames on the wire.
use Rattle.std.specs.Prelude.{List, [], ◌∷◌, ℕ, get_or, None, Some}
use Rattle.parts.specs.Frames.{Dispatch}
use Rattle.station.specs.declared.station.Station.{Station}
use Rattle.bench.specs.Ring.{nobody, ring_with}
use Rattle.bench.specs.declared.ring.Bench.{Bench}
use Rattle.day.specs.declared.wire.Flying.{Flying}

-- a ring of n stations, one for each member; the wire is first in, first out: the oldest frame stands first
pub record Day : Type 0 where
  pub n : ℕ
  pub stations : List Station
  pub wire : List Flying

-- the wire holds no more
abbrev pub most_frames : ℕ
most_frames = 64

-- the member at a position
abbrev pub member_at : Day → ℕ → Station
member_at d p = get_or d.stations p nobody

-- what the station at p sends, as it joins the end of the wire
unfoldable pub joining : ℕ → Dispatch → List Flying
joining p None = []
joining p (Some (frame, to)) = record { from = p; frame = frame; to = to } ∷ []

-- as the bench begins: its stations, and the frame that was sent
abbrev pub begun_by : Bench → Day
begun_by b = record { n = b.n; stations = b.stations; wire = joining b.wire.from b.wire.sent }

-- "stations start from N−1 down to 0"
unfoldable pub start_day : ℕ → ℕ → Day
start_day n limit = begun_by (ring_with n limit)
