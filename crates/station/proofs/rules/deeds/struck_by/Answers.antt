-- `deeds::struck_by` meets its contract: in each arm who is struck is that variant.
use mathlib.Core.Path.{◌∙◌}
use Rattle.station.specs.Deeds.{struck_by}
use Rattle.station.proofs.rules.deeds.struck_by.Goals as goal

pub returns-in-Spares : goal.returns-in-Spares
unfolding struck_by
returns-in-Spares c = rw c.in-Spares.is

pub returns-in-Another : goal.returns-in-Another
unfolding struck_by
returns-in-Another c = c.newly.ensures ∙ rw c.in-Another.is

pub returns-in-Last : goal.returns-in-Last
unfolding struck_by
returns-in-Last c = c.newly-in-Last.ensures ∙ rw c.in-Last.is

pub returns-in-Itself : goal.returns-in-Itself
unfolding struck_by
returns-in-Itself c = c.newly-in-Itself.ensures ∙ rw c.in-Itself.is
