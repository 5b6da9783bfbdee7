-- `frame::number_of` meets its contract: each arm's constructor has the number.
use Rattle.parts.proofs.frame.number_of.Goals as goal

pub returns-in-Token : goal.returns-in-Token
returns-in-Token c = rw c.in-Token.is

pub returns-in-Information : goal.returns-in-Information
returns-in-Information c = rw c.in-Information.is
