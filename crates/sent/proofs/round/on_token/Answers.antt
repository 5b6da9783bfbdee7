-- `round::on_token` meets its contract: one test, whether the token is this station's own.
use mathlib.Core.Path.{sym, ◌∙◌}
use borrow.Author.Tests.{eq-eqb, ne_eqb}
use Rattle.parts.proofs.Laws.Choose.{pick_true, pick_false}
use Rattle.sent.specs.Round.{on_token}
use Rattle.sent.proofs.round.on_token.Goals as goal

pub returns-then-t-v : goal.returns-then-t-v
unfolding on_token
returns-then-t-v c = c.returned.ensures ∙ sym (pick_true _ _ (eq-eqb _ _ c.if-t-v.true))

pub returns : goal.returns
unfolding on_token
returns c = c.pass_on.ensures ∙ sym (pick_false _ _ (ne_eqb _ _ c.if-t-v.false))
