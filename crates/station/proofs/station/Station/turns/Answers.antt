-- `Station::turns` meets its contract: three fields of what was decided.
use Rattle.station.proofs.station.Station.turns.Goals as goal

pub returns : goal.returns
returns c = rw c.decide-v.ensures
