-- `take::taking` meets its contract: the kept part, the station and the empty list are its callees'.
use Rattle.station.specs.Take.{taking}
use Rattle.station.proofs.Laws.Deeds.{kept_alone}
use Rattle.station.proofs.rules.take.taking.Goals as goal

pub returns : goal.returns
unfolding taking
returns c = rw (c.with_receives-station.ensures, kept_alone _ _ _ c.chosen-kept.ensures, c.empty-gone.ensures)
