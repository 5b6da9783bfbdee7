-- What is counted of a run: its steps, and the number of the frame on the wire.
use Rattle.std.specs.Prelude.{List, [], ◌∷◌, ℕ, suc, None, Some}
use Rattle.parts.specs.Frames.{number_of, Dispatch}
use Rattle.bench.specs.Runs.{Event, stepped, queued}
use Rattle.bench.specs.declared.ring.Bench.{Bench}

-- how many of the events are steps
unfoldable pub steps_in : List Event → ℕ
steps_in [] = 0
steps_in (stepped ∷ es) = suc (steps_in es)
steps_in (queued from q ∷ es) = steps_in es

-- the number of the frame on the wire, 0 with none
abbrev pub number_in : Dispatch → ℕ
number_in None = 0
number_in (Some (frame, to)) = number_of frame

abbrev pub wire_number : Bench → ℕ
wire_number b = number_in b.wire.sent
