-- `whole::carried` meets its contract: the frame says which clause it is.
use mathlib.Core.Path.{◌∙◌}
use Rattle.wholeness.specs.Whole.{carried}
use Rattle.wholeness.proofs.whole.carried.Goals as goal

pub returns-in-Token : goal.returns-in-Token
unfolding carried
returns-in-Token c = rw c.in-Token.is

pub returns-in-Transmit : goal.returns-in-Transmit
unfolding carried
returns-in-Transmit c = rw c.in-Transmit.is

pub returns-in-Information : goal.returns-in-Information
unfolding carried
returns-in-Information c = c.same_message.ensures ∙ rw (c.choose-b.ensures, c.in-Information.is)
