-- `deeds::verdict_of` meets its contract: by its fields.
use Rattle.station.proofs.rules.deeds.verdict_of.Goals as goal

pub returns : goal.returns
returns c = rw c.untouched-alone.ensures
