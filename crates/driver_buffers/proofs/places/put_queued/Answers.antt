-- `places::put_queued` meets its contract.
use Rattle.driver_buffers.specs.Places.{queued}
use borrow.Author.Rules.{rules}
use Rattle.driver_buffers.proofs.places.put_queued.Goals as goal

pub returns-in-None : goal.returns-in-None
unfolding queued
returns-in-None c = search rules

pub returns-in-Some : goal.returns-in-Some
unfolding queued
returns-in-Some c = rw c.in-Some.is c.put_place.ensures
