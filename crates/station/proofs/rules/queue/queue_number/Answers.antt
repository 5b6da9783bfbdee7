-- `queue::queue_number` meets its contract: the checks are asked of the station's fields.
use mathlib.Core.Path.{◌∙◌}
use Rattle.station.proofs.rules.queue.queue_number.Goals as goal

pub returns : goal.returns
returns c = c.queue_refusal.ensures ∙ rw c.live_at-live.ensures
