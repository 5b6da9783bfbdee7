-- `round::reply` meets its contract: each arm's constructor says which frame was heard.
use mathlib.Core.Path.{◌∙◌}
use Rattle.sent.specs.Round.{reply}
use Rattle.sent.proofs.round.reply.Goals as goal

pub returns-in-Token : goal.returns-in-Token
unfolding reply
returns-in-Token c = c.on_token.ensures ∙ rw (c.next-k.ensures, c.in-Token.is)

pub returns-in-Transmit : goal.returns-in-Transmit
unfolding reply
returns-in-Transmit c = c.send_head.ensures ∙ rw (c.next-k-in-Transmit.ensures, c.in-Transmit.is)

pub returns-in-Information : goal.returns-in-Information
unfolding reply
returns-in-Information c = c.start_round.ensures ∙ rw (c.next-k-in-Information.ensures, c.in-Information.is)
