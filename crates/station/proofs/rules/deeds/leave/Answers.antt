-- `deeds::leave` meets its contract: the acknowledged message, then those given up.
use mathlib.Core.Path.{◌∙◌}
use Rattle.station.proofs.rules.deeds.leave.Goals as goal

pub returns : goal.returns
returns c = c.give_up.ensures ∙ rw c.land-k.ensures
