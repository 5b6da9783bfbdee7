-- `deeds::receive` meets its contract: in each arm what is stored is that variant.
use mathlib.Core.Path.{◌∙◌}
use Rattle.station.specs.Deeds.{received}
use Rattle.station.proofs.rules.deeds.receive.Goals as goal

pub returns-in-None : goal.returns-in-None
unfolding received
returns-in-None c = rw c.in-None.is

pub returns-in-Some : goal.returns-in-Some
unfolding received
returns-in-Some c = c.received_one.ensures ∙ rw c.in-Some.is
