-- `slip::slip_to` meets its contract: each arm's constructor says which numbers they are.
use Rattle.records.specs.Fields.{slip_to}
use Rattle.records.proofs.slip.slip_to.Goals as goal

pub returns-in-Token : goal.returns-in-Token
unfolding slip_to
returns-in-Token c = rw (c.in-Token.is, c.whom_number.ensures)

pub returns-in-Transmit : goal.returns-in-Transmit
unfolding slip_to
returns-in-Transmit c = rw c.in-Transmit.is

pub returns-in-Information : goal.returns-in-Information
unfolding slip_to
returns-in-Information c = rw c.in-Information.is
