-- `places::information_of` meets its contract.
use Rattle.driver_buffers.specs.Places.{information_of}
use borrow.Author.Rules.{rules}
use Rattle.driver_buffers.proofs.places.information_of.Goals as goal

pub returns-in-None : goal.returns-in-None
unfolding information_of
returns-in-None c = search rules

pub returns-in-Some : goal.returns-in-Some
unfolding information_of
returns-in-Some c = rw c.in-Some.is c.carried_in.ensures
