-- `calls::timed` meets its contract: one test.
use mathlib.Core.Path.{sym, ◌∙◌}
use Rattle.parts.proofs.Laws.Choose.{pick_true, pick_false}
use Rattle.day.proofs.calls.timed.Goals as goal

pub returns-then-overfills : goal.returns-then-overfills
returns-then-overfills c =
    c.refused.ensures ∙ sym (pick_true _ _ (sym c.overfills.ensures ∙ c.if-overfills.true))

pub returns : goal.returns
returns c =
    sym (pick_false _ _ (sym c.overfills.ensures ∙ c.if-overfills.false))
