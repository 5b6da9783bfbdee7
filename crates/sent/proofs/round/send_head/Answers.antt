-- `round::send_head` meets its contract: one test, whether there is a head.
use mathlib.Core.Path.{◌∙◌}
use Rattle.sent.specs.Round.{send_head}
use Rattle.sent.proofs.round.send_head.Goals as goal

pub returns-in-Some : goal.returns-in-Some
unfolding send_head
returns-in-Some c = rw c.in-Some.is

pub returns : goal.returns
unfolding send_head
returns c = c.start_round.ensures ∙ rw c.in_default.is
