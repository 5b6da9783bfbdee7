-- `slip::slip_of` meets its contract.
use Rattle.records.specs.Fields.{slip_of}
use Rattle.records.proofs.slip.slip_of.Goals as goal

pub returns-in-None : goal.returns-in-None
unfolding slip_of
returns-in-None c = rw c.in-None.is c.no_slip.ensures

pub returns-in-Some : goal.returns-in-Some
unfolding slip_of
returns-in-Some c = rw c.in-Some.is c.slip_to.ensures
