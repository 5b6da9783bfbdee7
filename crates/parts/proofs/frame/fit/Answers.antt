-- `frame::fit` meets its contract: each arm's constructor says which fields are asked.
use Rattle.std.proofs.Common.{◌∙◌}
use Rattle.parts.proofs.frame.fit.Goals as goal

pub returns-in-Token : goal.returns-in-Token
returns-in-Token c = c.fit_token.ensures ∙ rw c.in-Token.is

pub returns-in-Transmit : goal.returns-in-Transmit
returns-in-Transmit c = c.fit_transmit.ensures ∙ rw c.in-Transmit.is

pub returns-in-Information : goal.returns-in-Information
returns-in-Information c = c.fit_information.ensures ∙ rw c.in-Information.is
