-- `whole::lists_good` meets its contract: the send list, then the receive list.
use mathlib.Core.Path.{sym, ◌∙◌}
use Rattle.wholeness.proofs.Laws.Whole.{test_stops, test_passes, test_last}
use Rattle.wholeness.specs.Whole.{lists_good}
use Rattle.wholeness.proofs.whole.lists_good.Goals as goal

pub returns-then-not-list_good : goal.returns-then-not-list_good
unfolding lists_good
returns-then-not-list_good c = sym (test_stops _ _ (sym c.list_good.ensures ∙ c.if-not-list_good.true))

pub returns : goal.returns
unfolding lists_good
returns c = c.list_good-2.ensures ∙ sym (test_passes _ _ (sym c.list_good.ensures ∙ c.if-not-list_good.false) ∙ test_last _)
