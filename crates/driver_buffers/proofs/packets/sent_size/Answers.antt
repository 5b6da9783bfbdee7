-- `packets::sent_size` meets its contract.
use mathlib.Core.Path.{◌∙◌}
use Rattle.driver_buffers.specs.Packets.{sent_size}
use Rattle.driver_buffers.proofs.packets.sent_size.Goals as goal

pub returns-in-None : goal.returns-in-None
unfolding sent_size
returns-in-None c = rw c.in-None.is

pub returns-in-Some : goal.returns-in-Some
unfolding sent_size
returns-in-Some c = c.size.ensures ∙ rw (c.in-Some.is, c.packet_of.ensures)
