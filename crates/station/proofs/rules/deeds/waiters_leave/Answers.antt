-- `deeds::waiters_leave` meets its contract: in each arm who is struck is that variant.
use mathlib.Core.Path.{◌∙◌}
use Rattle.station.specs.Deeds.{waiters_leave}
use Rattle.station.proofs.rules.deeds.waiters_leave.Goals as goal

pub returns-in-Spares : goal.returns-in-Spares
unfolding waiters_leave
returns-in-Spares c = c.all_stay.ensures ∙ rw c.in-Spares.is

pub returns-in-Another : goal.returns-in-Another
unfolding waiters_leave
returns-in-Another c = c.split.ensures ∙ rw c.in-Another.is

pub returns-in-Last : goal.returns-in-Last
unfolding waiters_leave
returns-in-Last c = c.split-in-Last.ensures ∙ rw c.in-Last.is

pub returns-in-Itself : goal.returns-in-Itself
unfolding waiters_leave
returns-in-Itself c = c.all_stay-in-Itself.ensures ∙ rw c.in-Itself.is
