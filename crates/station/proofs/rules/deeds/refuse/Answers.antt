-- `deeds::refuse` meets its contract: by its fields.
use mathlib.Core.Path.{◌∙◌}
use Rattle.station.proofs.rules.deeds.refuse.Goals as goal

pub returns : goal.returns
returns c = c.verdict_of.ensures ∙ rw c.no_deeds-deeds.ensures
