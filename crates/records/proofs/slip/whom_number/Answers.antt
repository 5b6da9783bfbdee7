-- `slip::whom_number` meets its contract.
use Rattle.records.proofs.slip.whom_number.Goals as goal

pub returns-in-None : goal.returns-in-None
returns-in-None c = rw c.in-None.is

pub returns-in-Some : goal.returns-in-Some
returns-in-Some c = rw c.in-Some.is
