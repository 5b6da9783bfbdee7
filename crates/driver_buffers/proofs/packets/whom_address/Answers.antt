-- `packets::whom_address` meets its contract.
use Rattle.driver_buffers.proofs.packets.whom_address.Goals as goal

pub returns-in-Some : goal.returns-in-Some
returns-in-Some c = rw c.in-Some.is c.address_of.ensures
