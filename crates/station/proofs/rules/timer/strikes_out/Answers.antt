-- `timer::strikes_out` meets its contract: by its fields.
use mathlib.Core.Path.{◌∙◌}
use Rattle.station.proofs.rules.timer.strikes_out.Goals as goal

pub returns : goal.returns
returns c = c.verdict_of.ensures ∙ rw c.flight-flight.ensures
