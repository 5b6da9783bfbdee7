-- `live::newly` meets its contract: one test, whether the station was live.
use Rattle.std.proofs.Common.{sym, ◌∙◌}
use Rattle.parts.proofs.Laws.Choose.{pick_true, pick_false}
use Rattle.parts.specs.Live.{newly}
use Rattle.parts.proofs.live.newly.Goals as goal

pub returns-then-live_at : goal.returns-then-live_at
unfolding newly
returns-then-live_at c = sym (pick_true _ _ (sym c.live_at.ensures ∙ c.if-live_at.true))

pub returns : goal.returns
unfolding newly
returns c = sym (pick_false _ _ (sym c.live_at.ensures ∙ c.if-live_at.false))
