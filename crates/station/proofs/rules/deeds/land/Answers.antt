-- `deeds::land` meets its contract: one test, whether a message is acknowledged.
use mathlib.Core.Path.{◌∙◌}
use Rattle.station.specs.Deeds.{landing}
use Rattle.station.proofs.Laws.Deeds.{kept_alone}
use Rattle.station.proofs.rules.deeds.land.Goals as goal

pub returns-in-None : goal.returns-in-None
unfolding landing
returns-in-None c = rw c.in-None.is

pub returns-in-Some : goal.returns-in-Some
unfolding landing
returns-in-Some c = kept_alone _ _ _ c.chosen.ensures ∙ rw c.in-Some.is
