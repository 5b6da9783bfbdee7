-- `Station::frame` meets its contract: what is decided and then done is the rule.
use mathlib.Core.Path.{◌∙◌}
use Rattle.station.proofs.Laws.Decide.{frame_done}
use Rattle.station.proofs.station.Station.frame.Goals as goal

pub returns : goal.returns
returns c = c.done.ensures ∙ rw c.decide-v.ensures (frame_done _ _ _ _)
