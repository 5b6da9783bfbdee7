-- `Station::new` meets its contract: the parts are those of a station as made.
use Rattle.station.proofs.Laws.Stations.{made_of_lem}
use Rattle.station.proofs.station.Station.new.Goals as goal

pub returns : goal.returns
returns c =
    let a = c.args in
    made_of_lem a.n a.limit a.own c.full-live.result c.empty-sends.result c.empty-receives.result c.full-live.ensures c.empty-sends.ensures c.empty-receives.ensures
