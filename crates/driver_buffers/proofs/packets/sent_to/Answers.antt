-- `packets::sent_to` meets its contract.
use Rattle.driver_buffers.specs.Packets.{sent_to}
use Rattle.driver_buffers.proofs.packets.sent_to.Goals as goal

pub returns-in-None : goal.returns-in-None
unfolding sent_to
returns-in-None c = rw c.in-None.is

pub returns-in-Some : goal.returns-in-Some
unfolding sent_to
returns-in-Some c = rw c.in-Some.is c.address_of.ensures
