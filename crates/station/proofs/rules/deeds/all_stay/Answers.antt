-- `deeds::all_stay` meets its contract: none goes.
use Rattle.station.proofs.rules.deeds.all_stay.Goals as goal

pub returns : goal.returns
returns c = rw c.empty-gone.ensures
