-- `queue::join` meets its contract: the longer list, the station and the empty list are its callees'.
use Rattle.station.proofs.rules.queue.join.Goals as goal

pub returns : goal.returns
returns c = rw (c.with_sends-station.ensures, c.push-more.ensures, c.empty-gone.ensures)
