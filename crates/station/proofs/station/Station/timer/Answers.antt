-- `Station::timer` meets its contract: what is decided and then done is the rule.
use mathlib.Core.Path.{◌∙◌}
use Rattle.station.proofs.Laws.Decide.{timer_done}
use Rattle.station.proofs.station.Station.timer.Goals as goal

pub returns : goal.returns
returns c = c.done.ensures ∙ rw c.decide_timer-v.ensures (timer_done _)
