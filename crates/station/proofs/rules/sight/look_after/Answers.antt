-- `round::look_after` meets its contract: in each arm who is struck is that variant.
use mathlib.Core.Path.{◌∙◌}
use Rattle.station.proofs.rules.sight.look_after.Goals as goal

pub returns-in-None : goal.returns-in-None
returns-in-None c = c.look.ensures ∙ rw c.in-None.is

pub returns-in-Some : goal.returns-in-Some
returns-in-Some c = c.look_without.ensures ∙ rw c.in-Some.is
