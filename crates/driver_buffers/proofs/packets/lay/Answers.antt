-- `packets::lay` meets its contract: each arm's constructor says which octets they are.
use Rattle.packet_codec.specs.Packet.{packet_octets}
use Rattle.driver_buffers.proofs.packets.lay.Goals as goal

pub returns-in-Token : goal.returns-in-Token
unfolding packet_octets
returns-in-Token c = rw c.in-Token.is c.lay_short.ensures

pub returns-in-Transmit : goal.returns-in-Transmit
unfolding packet_octets
returns-in-Transmit c = rw c.in-Transmit.is c.lay_short-in-Transmit.ensures

pub returns-in-Information : goal.returns-in-Information
unfolding packet_octets
returns-in-Information c = rw c.in-Information.is c.lay_information.ensures
