-- `heard::close` meets its contract: in each arm who is struck is that variant.
use mathlib.Core.Path.{◌∙◌}
use Rattle.station.specs.Decide.{closed}
use Rattle.station.proofs.rules.heard.close.Goals as goal

pub returns-in-Spares : goal.returns-in-Spares
unfolding closed
returns-in-Spares c = rw c.in-Spares.is

pub returns-in-Another : goal.returns-in-Another
unfolding closed
returns-in-Another c = rw c.in-Another.is

pub returns-in-Last : goal.returns-in-Last
unfolding closed
returns-in-Last c = c.resting.ensures ∙ rw c.in-Last.is

pub returns-in-Itself : goal.returns-in-Itself
unfolding closed
returns-in-Itself c = c.resting-in-Itself.ensures ∙ rw c.in-Itself.is
