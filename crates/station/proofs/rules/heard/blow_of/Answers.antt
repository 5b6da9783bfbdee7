-- `heard::blow_of` meets its contract: in each arm the failing station is that variant.
use mathlib.Core.Path.{◌∙◌}
use Rattle.station.specs.Decide.{blow_of}
use Rattle.station.proofs.rules.heard.blow_of.Goals as goal

pub returns-in-None : goal.returns-in-None
unfolding blow_of
returns-in-None c = rw c.in-None.is

pub returns-in-Some : goal.returns-in-Some
unfolding blow_of
returns-in-Some c = c.blow_at.ensures ∙ rw c.in-Some.is
