-- `Packet::wire_octets` meets its contract.
use mathlib.Core.Path.{◌∙◌}
use Rattle.packet_codec.proofs.packet.Packet.wire_octets.Goals as goal

pub returns-in-Information : goal.returns-in-Information
returns-in-Information c = c.greater.ensures ∙ rw c.in-Information.is
