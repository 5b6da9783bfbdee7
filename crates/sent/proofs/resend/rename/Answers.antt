-- `resend::rename` meets its contract: a bid that names the struck station becomes this station's own.
use mathlib.Core.Path.{sym, ◌∙◌}
use borrow.Author.Tests.{eq-eqb, ne_eqb}
use Rattle.sent.specs.Resend.{renamed}
use Rattle.parts.proofs.Laws.Choose.{pick_true, pick_false}
use Rattle.sent.proofs.resend.rename.Goals as goal

pub returns-then-b-to : goal.returns-then-b-to
unfolding renamed
returns-then-b-to c = c.own_bid.ensures ∙ sym (pick_true _ _ (eq-eqb _ _ c.if-b-to.true))

pub returns : goal.returns
unfolding renamed
returns c = sym (pick_false _ _ (ne_eqb _ _ c.if-b-to.false))
