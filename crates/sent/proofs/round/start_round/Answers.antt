-- `round::start_round` meets its contract: the head's priority is its callee's.
use Rattle.sent.specs.Round.{start_round}
use Rattle.sent.proofs.round.start_round.Goals as goal

pub returns : goal.returns
unfolding start_round
returns c = rw c.priority_of-priority.ensures
