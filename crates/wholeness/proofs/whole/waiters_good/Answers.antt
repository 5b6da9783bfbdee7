-- `whole::waiters_good` meets its contract.
use mathlib.Core.Path.{sym, ◌∙◌}
use Rattle.parts.proofs.Laws.Choose.{pick_true, pick_false}
use Rattle.wholeness.specs.Whole.{waiters_good}
use Rattle.wholeness.proofs.whole.waiters_good.Goals as goal

pub returns-then-is_excluded : goal.returns-then-is_excluded
unfolding waiters_good
returns-then-is_excluded c = sym (pick_true _ _ (sym c.is_excluded.ensures ∙ c.if-is_excluded.true))

pub returns : goal.returns
unfolding waiters_good
returns c = c.all_wait_well.ensures ∙ sym (pick_false _ _ (sym c.is_excluded.ensures ∙ c.if-is_excluded.false))
