-- `list::among` meets its contract: the test, or its contrary.
use Rattle.std.proofs.Common.{not, sym, ap, ◌∙◌}
use Rattle.parts.proofs.Laws.Choose.{pick_true, pick_false}
use Rattle.parts.proofs.list.among.Goals as goal

pub returns-then-fitting : goal.returns-then-fitting
returns-then-fitting c = c.suits.ensures ∙ sym (pick_true _ _ c.if-fitting.true)

pub returns-else-fitting : goal.returns-else-fitting
returns-else-fitting c = ap not c.suits-else-fitting.ensures ∙ sym (pick_false _ _ c.if-fitting.false)
