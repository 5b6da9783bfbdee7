-- `Station::start` meets its contract: what is decided and then done is the rule.
use mathlib.Core.Path.{◌∙◌}
use Rattle.station.proofs.Laws.Decide.{start_done}
use Rattle.station.proofs.station.Station.start.Goals as goal

pub returns : goal.returns
returns c = c.done.ensures ∙ rw c.decide_start-v.ensures (start_done _)
