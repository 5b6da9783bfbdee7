-- `resend::token_again` meets its contract: at each return the tests that led there say which is the first that holds.
use mathlib.Core.Path.{sym, ap, ◌∙◌}
use mathlib.Core.Bool.{not}
use Rattle.sent.proofs.Laws.Resend.{again_own, again_struck, again_passed}
use Rattle.sent.proofs.resend.token_again.Goals as goal

pub returns-then-t-v : goal.returns-then-t-v
returns-then-t-v c = c.start_round.ensures ∙ again_own _ _ _ _ c.if-t-v.true

pub returns-then-not-live_at : goal.returns-then-not-live_at
returns-then-not-live_at c = c.start_round-then-not-live_at.ensures ∙ again_struck _ _ _ _ c.if-t-v.false (ap not (sym c.live_at.ensures ∙ c.if-not-live_at.true))

pub returns : goal.returns
returns c = c.forward.ensures ∙ again_passed _ _ _ _ _ c.if-t-v.false (ap not (sym c.live_at.ensures ∙ c.if-not-live_at.false)) c.rename-c.ensures
