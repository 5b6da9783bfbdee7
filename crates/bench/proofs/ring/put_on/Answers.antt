-- `ring::put_on` meets its contract: a frame, or none.
use Rattle.bench.specs.Ring.{on_wire}
use Rattle.bench.proofs.ring.put_on.Goals as goal

pub returns-in-None : goal.returns-in-None
unfolding on_wire
returns-in-None c = rw c.in-None.is

pub returns-in-Some : goal.returns-in-Some
unfolding on_wire
returns-in-Some c = rw c.in-Some.is
