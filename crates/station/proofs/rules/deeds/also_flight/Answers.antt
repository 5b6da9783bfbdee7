-- `deeds::also_flight` meets its contract: one test, whether a message is in flight.
use mathlib.Core.Path.{◌∙◌}
use Rattle.station.specs.Deeds.{also_flight}
use Rattle.station.proofs.rules.deeds.also_flight.Goals as goal

pub returns-in-None : goal.returns-in-None
unfolding also_flight
returns-in-None c = rw c.in-None.is

pub returns-in-Some : goal.returns-in-Some
unfolding also_flight
returns-in-Some c = c.also_at.ensures ∙ rw c.in-Some.is
