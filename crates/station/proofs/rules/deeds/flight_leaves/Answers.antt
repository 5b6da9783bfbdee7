-- `deeds::flight_leaves` meets its contract: in each arm who is struck is that variant.
use Rattle.station.specs.Deeds.{flight_leaves}
use Rattle.station.proofs.rules.deeds.flight_leaves.Goals as goal

pub returns-in-Spares : goal.returns-in-Spares
unfolding flight_leaves
returns-in-Spares c = rw c.in-Spares.is

pub returns-in-Another : goal.returns-in-Another
unfolding flight_leaves
returns-in-Another c = rw c.in-Another.is

pub returns-in-Last : goal.returns-in-Last
unfolding flight_leaves
returns-in-Last c = rw c.in-Last.is

pub returns-in-Itself : goal.returns-in-Itself
unfolding flight_leaves
returns-in-Itself c = rw c.in-Itself.is
