-- `whole::list_good` meets its contract: at each return the tests that led there say which is the first that fails.
use mathlib.Core.Path.{sym, ◌∙◌}
use borrow.Author.Tests.{lt-leb, le-leb}
use Rattle.wholeness.proofs.Laws.Whole.{test_stops, test_passes, test_known, good_placed}
use Rattle.wholeness.specs.Whole.{list_good}
use Rattle.wholeness.proofs.whole.list_good.Goals as goal

pub returns-then-l-gt16 : goal.returns-then-l-gt16
unfolding list_good
returns-then-l-gt16 c = sym (test_stops _ _ (lt-leb _ _ c.if-l-gt16.true))

pub returns-then-not-messages_good : goal.returns-then-not-messages_good
unfolding list_good
returns-then-not-messages_good c = sym (test_passes _ _ (le-leb _ _ c.if-l-gt16.false) ∙ test_stops _ _ (sym c.messages_good.ensures ∙ c.if-not-messages_good.true))

pub apart-requires : goal.apart-requires
apart-requires c = good_placed _ _ _ (sym c.messages_good.ensures ∙ c.if-not-messages_good.false)

pub returns : goal.returns
unfolding list_good
returns c = c.apart.ensures ∙ sym (test_passes _ _ (le-leb _ _ c.if-l-gt16.false) ∙ test_passes _ _ (sym c.messages_good.ensures ∙ c.if-not-messages_good.false) ∙ test_known _ _ c.requires)
