-- `frame::flight` meets its contract: each arm's constructor says which frame is awaited.
use Rattle.std.proofs.Common.{◌∙◌}
use Rattle.parts.proofs.frame.flight.Goals as goal

pub returns-in-None : goal.returns-in-None
returns-in-None c = rw c.in-None.is

pub returns-in-Some : goal.returns-in-Some
returns-in-Some c = c.flight_in.ensures ∙ rw c.in-Some.is
