-- `deeds::live_after` meets its contract: in each arm who is struck is that variant.
use mathlib.Core.Path.{◌∙◌}
use Rattle.station.specs.Deeds.{live_after}
use Rattle.station.proofs.rules.deeds.live_after.Goals as goal

pub returns-in-Spares : goal.returns-in-Spares
unfolding live_after
returns-in-Spares c = rw c.in-Spares.is

pub returns-in-Another : goal.returns-in-Another
unfolding live_after
returns-in-Another c = c.without.ensures ∙ rw c.in-Another.is

pub returns-in-Last : goal.returns-in-Last
unfolding live_after
returns-in-Last c = c.without-in-Last.ensures ∙ rw c.in-Last.is

pub returns-in-Itself : goal.returns-in-Itself
unfolding live_after
returns-in-Itself c = c.without-in-Itself.ensures ∙ rw c.in-Itself.is
