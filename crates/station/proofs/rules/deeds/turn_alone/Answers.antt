-- `deeds::turn_alone` meets its contract: by its fields.
use Rattle.station.proofs.rules.deeds.turn_alone.Goals as goal

pub returns : goal.returns
returns c = rw c.empty-gone.ensures
