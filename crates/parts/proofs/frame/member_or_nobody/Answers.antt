-- `frame::member_or_nobody` meets its contract: each arm's constructor says what is asked.
use Rattle.parts.proofs.frame.member_or_nobody.Goals as goal

pub returns-in-Some : goal.returns-in-Some
returns-in-Some c = rw c.in-Some.is
