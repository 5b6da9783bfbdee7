-- `live::seats` meets its contract: the test says which of the two numbers it is.
use Rattle.std.proofs.Common.{sym}
use Rattle.parts.proofs.Laws.Live.{seats_inside, seats_all}
use Rattle.parts.proofs.live.seats.Goals as goal

pub returns-then-n-lt64 : goal.returns-then-n-lt64
returns-then-n-lt64 c = sym (seats_inside _ c.if-n-lt64.true)

pub returns-else-n-lt64 : goal.returns-else-n-lt64
returns-else-n-lt64 c = sym (seats_all _ c.if-n-lt64.false)
