-- `packets::compose` meets its contract.
use mathlib.Core.Path.{sym, ◌∙◌}
use Rattle.codec.proofs.Laws.Octets.{laid_none}
use Rattle.driver_buffers.specs.Packets.{sent_octets}
use Rattle.driver_buffers.proofs.packets.compose.Goals as goal

pub returns-in-None : goal.returns-in-None
unfolding sent_octets
returns-in-None c = rw c.in-None.is (sym (laid_none _ 0))

pub returns-in-Some : goal.returns-in-Some
unfolding sent_octets
returns-in-Some c = c.lay.ensures ∙ rw (c.in-Some.is, c.packet_of-p.ensures)
