-- `delivery::left_as_is` meets its contract: one test, and then the other function's.
use mathlib.Core.Path.{sym, ◌∙◌}
use Rattle.parts.proofs.Laws.Choose.{pick_true, pick_false}
use Rattle.bench.proofs.delivery.left_as_is.Goals as goal

pub returns-then-not-hears : goal.returns-then-not-hears
returns-then-not-hears c = sym (pick_false _ _ (sym c.hears.ensures ∙ c.if-not-hears.true))

pub returns : goal.returns
returns c = c.stands_by.ensures ∙ sym (pick_true _ _ (sym c.hears.ensures ∙ c.if-not-hears.false))
