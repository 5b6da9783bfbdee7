-- `places::taken_part` meets its contract.
use Rattle.driver_buffers.specs.Places.{taken}
use borrow.Author.Rules.{rules}
use Rattle.driver_buffers.proofs.places.taken_part.Goals as goal

pub returns-in-None : goal.returns-in-None
unfolding taken
returns-in-None c = search rules

pub returns-in-Some : goal.returns-in-Some
unfolding taken
returns-in-Some c = rw c.in-Some.is c.in_place.ensures
