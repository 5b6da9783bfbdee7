-- `delivery::stands_by` meets its contract: the tests in their order.
use mathlib.Core.Path.{sym, ◌∙◌}
use Rattle.parts.proofs.Laws.Choose.{pick_true, pick_false}
use Rattle.bench.proofs.delivery.stands_by.Goals as goal

pub returns-then-not-quiet : goal.returns-then-not-quiet
returns-then-not-quiet c = sym (pick_false _ _ (c.if-not-quiet.true))

pub returns-then-is_waiting : goal.returns-then-is_waiting
returns-then-is_waiting c = sym (pick_true _ _ (c.if-not-quiet.false) ∙ pick_true _ _ (sym c.is_waiting.ensures ∙ c.if-is_waiting.true))

pub returns : goal.returns
returns c = sym (pick_true _ _ (c.if-not-quiet.false) ∙ pick_false _ _ (sym c.is_waiting.ensures ∙ c.if-is_waiting.false))
