-- A packet's numbers are of their fields' types, as every packet's that the code holds.
use Rattle.std.specs.Prelude.{ℕ, ◌<◌}
use Rattle.packet_codec.specs.declared.packet.Packet.{Packet}
use Rattle.packet_codec.specs.declared.packet.Packet.TheVariants.{Token, Transmit, Information}

-- a priority and a frame number
pub record Typed (priority number : ℕ) : Type 0 where
  pub priority_fits : priority < 256
  pub number_fits : number < 65536

-- the same of a packet
abbrev pub TypedPacket : Packet → Type 0
TypedPacket (Token p) = Typed p.priority p.number
TypedPacket (Transmit p) = Typed p.priority p.number
TypedPacket (Information h) = Typed h.priority h.number
