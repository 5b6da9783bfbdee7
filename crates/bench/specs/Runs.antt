-- Runs: steps and queue calls, and the frames that they compose.
use Rattle.std.specs.Prelude.{List, [], ◌∷◌, ◌++◌, ℕ, zero, suc}
use Rattle.parts.specs.declared.request.Request.{Request}
use Rattle.bench.specs.Delivery.{step}
use Rattle.bench.specs.Calls.{queue}
use Rattle.bench.specs.Rows.{rows_on}
use Rattle.bench.specs.declared.ring.Bench.{Bench}
use Rattle.bench.specs.declared.rows.Row.{Row}

-- what happens on the bench: a step, or a queue call with FROM and what it asks for
pub data Event : Type 0 where
  stepped : Event
  queued : ℕ → Request → Event

unfoldable pub after_event : Bench → Event → Bench
after_event b stepped = step b
after_event b (queued from q) = (queue b from q).bench

-- the frame that an event composes: a step's is the one that it puts on the wire; a queue call composes none
unfoldable pub composed : Bench → Event → List Row
composed b stepped = rows_on (step b).wire
composed b (queued from q) = []

-- the bench after a run
unfoldable pub final : Bench → List Event → Bench
final b [] = b
final b (e ∷ es) = final (after_event b e) es

-- the frames that a run composes, in order
unfoldable pub frames : Bench → List Event → List Row
frames b [] = []
frames b (e ∷ es) = composed b e ++ frames (after_event b e) es

-- k steps, and what they compose
unfoldable pub stepping : ℕ → List Event
stepping zero = []
stepping (suc k) = stepped ∷ stepping k
