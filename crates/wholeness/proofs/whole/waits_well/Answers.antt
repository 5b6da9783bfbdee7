-- `whole::waits_well` meets its contract.
use mathlib.Core.Path.{sym, ◌∙◌}
use Rattle.wholeness.specs.Whole.{waits_well}
use Rattle.wholeness.proofs.whole.waits_well.Goals as goal

pub returns-then-flies : goal.returns-then-flies
unfolding waits_well
returns-then-flies c = rw (sym c.flies.ensures ∙ c.if-flies.true)

pub returns : goal.returns
unfolding waits_well
returns c = c.live_at.ensures ∙ rw (sym c.flies.ensures ∙ c.if-flies.false)
