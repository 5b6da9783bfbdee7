-- `Packet::pad_from` meets its contract.
use Rattle.packet_codec.proofs.packet.Packet.pad_from.Goals as goal

pub returns-in-Information : goal.returns-in-Information
returns-in-Information c = rw c.in-Information.is
