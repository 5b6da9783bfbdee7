-- `station::answered` meets its contract: nothing but the number is told.
use Rattle.station.proofs.Laws.Stations.{answered_of}
use Rattle.station.proofs.station.answered.Goals as goal

pub returns : goal.returns
returns c = answered_of c.args.s c.args.number c.empty-gone.result c.empty-gone.ensures
