-- `heard::lands_by` meets its contract: one test.
use mathlib.Core.Path.{sym, ◌∙◌}
use Rattle.parts.proofs.Laws.Choose.{pick_true, pick_false}
use Rattle.station.specs.Decide.{lands_by}
use Rattle.station.proofs.rules.heard.lands_by.Goals as goal

pub returns-then-acked : goal.returns-then-acked
unfolding lands_by
returns-then-acked c = c.flight.ensures ∙ sym (pick_true _ _ c.if-acked.true)

pub returns : goal.returns
unfolding lands_by
returns c = sym (pick_false _ _ c.if-acked.false)
