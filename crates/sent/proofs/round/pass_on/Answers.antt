-- `round::pass_on` meets its contract: one test, whether the master is live.
use mathlib.Core.Path.{sym, ◌∙◌}
use Rattle.parts.proofs.Laws.Choose.{pick_true, pick_false}
use Rattle.sent.specs.Round.{pass_on}
use Rattle.sent.proofs.round.pass_on.Goals as goal

pub returns-then-live_at : goal.returns-then-live_at
unfolding pass_on
returns-then-live_at c = c.forward.ensures ∙ rw (c.raised-d.ensures, c.cleared-c.ensures) (sym (pick_true _ _ (sym c.live_at.ensures ∙ c.if-live_at.true)))

pub returns : goal.returns
unfolding pass_on
returns c = c.start_round.ensures ∙ sym (pick_false _ _ (sym c.live_at.ensures ∙ c.if-live_at.false))
