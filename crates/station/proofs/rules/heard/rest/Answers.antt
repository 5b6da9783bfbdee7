-- `heard::rest` meets its contract: one test.
use mathlib.Core.Path.{sym, ◌∙◌}
use Rattle.parts.proofs.Laws.Choose.{pick_true, pick_false}
use Rattle.station.specs.Decide.{rested}
use Rattle.station.proofs.rules.heard.rest.Goals as goal

pub returns-then-acked : goal.returns-then-acked
unfolding rested
returns-then-acked c = c.resting.ensures ∙ sym (pick_true _ _ c.if-acked.true)

pub returns : goal.returns
unfolding rested
returns c = sym (pick_false _ _ c.if-acked.false)
