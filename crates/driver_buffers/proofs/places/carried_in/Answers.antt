-- `places::carried_in` meets its contract.
use Rattle.driver_buffers.specs.Places.{carried_in}
use borrow.Author.Rules.{rules}
use Rattle.driver_buffers.proofs.places.carried_in.Goals as goal

pub returns-in-Token : goal.returns-in-Token
unfolding carried_in
returns-in-Token c = search rules

pub returns-in-Transmit : goal.returns-in-Transmit
unfolding carried_in
returns-in-Transmit c = search rules

pub returns-in-Information : goal.returns-in-Information
unfolding carried_in
returns-in-Information c = rw c.in-Information.is c.in_place.ensures
