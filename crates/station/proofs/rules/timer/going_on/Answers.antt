-- `timer::going_on` meets its contract: the turn is its callee's.
use mathlib.Core.Path.{◌∙◌}
use Rattle.station.proofs.rules.timer.going_on.Goals as goal

pub returns : goal.returns
returns c = c.strikes_out.ensures ∙ rw c.waiting-turn.ensures
