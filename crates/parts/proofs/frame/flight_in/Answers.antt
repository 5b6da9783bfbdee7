-- `frame::flight_in` meets its contract: each arm's constructor says whether a message flies.
use Rattle.parts.proofs.frame.flight_in.Goals as goal

pub returns-in-Token : goal.returns-in-Token
returns-in-Token c = rw c.in-Token.is

pub returns-in-Transmit : goal.returns-in-Transmit
returns-in-Transmit c = rw c.in-Transmit.is

pub returns-in-Information : goal.returns-in-Information
returns-in-Information c = rw c.in-Information.is
