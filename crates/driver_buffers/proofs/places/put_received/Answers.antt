-- `places::put_received` meets its contract.
use Rattle.driver_buffers.specs.Places.{received}
use borrow.Author.Rules.{rules}
use Rattle.driver_buffers.proofs.places.put_received.Goals as goal

pub returns-in-None : goal.returns-in-None
unfolding received
returns-in-None c = search rules

pub returns-in-Some : goal.returns-in-Some
unfolding received
returns-in-Some c = rw c.in-Some.is c.put_place.ensures
