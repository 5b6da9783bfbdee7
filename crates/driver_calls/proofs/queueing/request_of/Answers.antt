-- `queueing::request_of` meets its contract: position and whether it listens are its callees'.
use Rattle.driver_calls.proofs.queueing.request_of.Goals as goal

pub returns : goal.returns
returns c = rw (c.listens-listens.ensures, c.position-p.ensures)
