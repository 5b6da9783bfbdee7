-- What is written reads as what it was written of, and what is read is written so again.
use Rattle.std.specs.Prelude.{◌≡◌, List, ℕ}
use Rattle.packet_codec.specs.declared.packet.Packet.{Packet}
use Rattle.packet_codec.specs.declared.reading.Read.TheVariants.{Good}
use Rattle.packet_codec.specs.Packet.{information_part, read_packet, packet_octets, Fit}
use Rattle.packet_codec.specs.Typed.{TypedPacket}

-- octets that read as the packet, with its information in its place
pub record ReadsAs (ring : List ℕ) (p : Packet) (info s : List ℕ) : Type 0 where
  pub packet : read_packet ring s ≡ Good p
  pub part : information_part p s ≡ info

-- octets that are those of the packet with the information at its place, and a packet that is fit to write
pub record WritesAs (ring s : List ℕ) (p : Packet) : Type 0 where
  pub again : s ≡ packet_octets p (information_part p s)
  pub fit : Fit ring p (information_part p s)
  pub typed : TypedPacket p
