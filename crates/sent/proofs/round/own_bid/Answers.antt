-- `round::own_bid` meets its contract: the head's priority is its callee's.
use Rattle.sent.proofs.round.own_bid.Goals as goal

pub returns : goal.returns
returns c = rw c.priority_of-priority.ensures
