-- `round::grant` meets its contract: one test, whether the named station is live.
use mathlib.Core.Path.{sym, ◌∙◌}
use Rattle.parts.proofs.Laws.Choose.{pick_true, pick_false}
use Rattle.sent.specs.Round.{grant}
use Rattle.sent.proofs.round.grant.Goals as goal

pub returns-then-live_at : goal.returns-then-live_at
unfolding grant
returns-then-live_at c = sym (pick_true _ _ (sym c.live_at.ensures ∙ c.if-live_at.true))

pub returns : goal.returns
unfolding grant
returns c = c.start_round.ensures ∙ sym (pick_false _ _ (sym c.live_at.ensures ∙ c.if-live_at.false))
