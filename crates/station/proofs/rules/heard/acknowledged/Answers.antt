-- `heard::acknowledged` meets its contract: only a Waiting station is acknowledged.
use mathlib.Core.Path.{sym, ◌∙◌}
use Rattle.station.specs.Heard.{acknowledged}
use Rattle.parts.proofs.Laws.Choose.{pick_true, pick_false}
use Rattle.station.proofs.rules.heard.acknowledged.Goals as goal

pub returns-then-is_waiting : goal.returns-then-is_waiting
unfolding acknowledged
returns-then-is_waiting c = c.acknowledges.ensures ∙ sym (pick_true _ _ (sym c.is_waiting.ensures ∙ c.if-is_waiting.true))

pub returns : goal.returns
unfolding acknowledged
returns c = sym (pick_false _ _ (sym c.is_waiting.ensures ∙ c.if-is_waiting.false))
