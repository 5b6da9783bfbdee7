-- `deeds::give_up` meets its contract: the waiting ones, then the one in flight.
use mathlib.Core.Path.{◌∙◌}
use Rattle.station.proofs.Laws.Deeds.{leaves_so}
use Rattle.station.proofs.rules.deeds.give_up.Goals as goal

pub returns : goal.returns
returns c = c.also_flight.ensures ∙ rw (c.flight_leaves-g.ensures, c.waiters_leave-d.ensures) (leaves_so _ _ _)
