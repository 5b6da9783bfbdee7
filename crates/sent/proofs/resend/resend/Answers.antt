-- `resend::resend` meets its contract: the old frame's constructor says what goes instead.
use mathlib.Core.Path.{◌∙◌}
use Rattle.sent.specs.Resend.{resend}
use Rattle.sent.proofs.resend.resend.Goals as goal

pub returns-in-Token : goal.returns-in-Token
unfolding resend
returns-in-Token c = c.token_again.ensures ∙ rw (c.next-k.ensures, c.in-Token.is)

pub returns-in-Transmit : goal.returns-in-Transmit
unfolding resend
returns-in-Transmit c = c.start_round.ensures ∙ rw (c.next-k-in-Transmit.ensures, c.in-Transmit.is)

pub returns-in-Information : goal.returns-in-Information
unfolding resend
returns-in-Information c = c.start_round-in-Information.ensures ∙ rw (c.next-k-in-Information.ensures, c.in-Information.is)
