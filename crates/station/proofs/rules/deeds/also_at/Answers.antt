-- `deeds::also_at` meets its contract: one test, whether there is a message at the place.
use mathlib.Core.Path.{sym, ◌∙◌}
use Rattle.station.specs.Deeds.{also_at}
use Rattle.station.proofs.Laws.Deeds.{kept_alone}
use Rattle.station.proofs.rules.deeds.also_at.Goals as goal

pub returns-in-None : goal.returns-in-None
unfolding also_at
returns-in-None c = rw (sym c.choose.ensures ∙ c.in-None.is)

pub returns-in-Some : goal.returns-in-Some
unfolding also_at
returns-in-Some c = rw (sym c.choose.ensures ∙ c.in-Some.is, c.push-gone.ensures, kept_alone _ _ _ c.chosen-kept.ensures)
