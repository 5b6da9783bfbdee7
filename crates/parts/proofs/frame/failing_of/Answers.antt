-- `frame::failing_of` meets its contract: only a token has a failing station.
use Rattle.parts.proofs.frame.failing_of.Goals as goal

pub returns-in-Token : goal.returns-in-Token
returns-in-Token c = rw c.in-Token.is
