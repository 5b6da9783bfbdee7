-- Frames over ring positions and packets over addresses.
use Rattle.std.specs.Prelude.{ℕ, ◌%◌, List, [], eqb, get_or, Option, None, Some}
use Rattle.codec.specs.Ring.{position}
use Rattle.packet_codec.specs.Packet.{token, transmit, information, size, packet_octets}
use Rattle.packet_codec.specs.declared.packet.Packet.{Packet}
use Rattle.packet_codec.specs.declared.packet.Packet.TheVariants.{Token as TokenOf, Transmit as TransmitOf, Information as InformationOf}
use Rattle.parts.specs.Choose.{pick}
use Rattle.parts.specs.declared.frame.Frame.{Frame}
use Rattle.parts.specs.declared.frame.Frame.TheVariants.{Token, Transmit, Information}
use Rattle.parts.specs.Frames.{Dispatch}

-- the address of a ring position: 0 where there is no such member
abbrev pub address_of : List ℕ → ℕ → ℕ
address_of ring p = get_or ring p 0

-- 0 is nobody's address
abbrev pub whom_address : List ℕ → Option ℕ → ℕ
whom_address ring None = 0
whom_address ring (Some p) = address_of ring p

unfoldable pub whom_at : List ℕ → ℕ → Option ℕ
whom_at ring a = pick (eqb a 0) None (Some (position ring a))

-- the packet of a frame
unfoldable pub packet_of : List ℕ → Frame → Packet
packet_of ring (Token t) =
    token t.priority t.number (address_of ring t.master) (whom_address ring t.failing) (address_of ring t.named)
packet_of ring (Transmit t) = transmit t.priority t.number (address_of ring t.master) (address_of ring t.named)
packet_of ring (Information i) = information i.priority i.number i.channel i.length

-- the frame of a packet that was read: its channel is at most 7, and the place of its message is its sender's affair
unfoldable pub frame_of : List ℕ → Packet → Frame
frame_of ring (TokenOf p) =
    Token
    (record
    { number = p.number; priority = p.priority; master = position ring p.master; failing = whom_at ring p.failing; named = position ring p.named })
frame_of ring (TransmitOf p) =
    Transmit (record { number = p.number; priority = p.priority; master = position ring p.master; named = position ring p.named })
frame_of ring (InformationOf h) =
    Information (record { number = h.number; priority = h.priority; channel = h.channel % 256; length = h.length; place = 0 })

-- the octets of what is sent, with the information that it carries
unfoldable pub sent_octets : List ℕ → Dispatch → List ℕ → List ℕ
sent_octets ring None info = []
sent_octets ring (Some (frame, to)) info = packet_octets (packet_of ring frame) info

-- how many they are, and to whom: 0 and 0 where nothing is sent
unfoldable pub sent_size : List ℕ → Dispatch → ℕ
sent_size ring None = 0
sent_size ring (Some (frame, to)) = size (packet_of ring frame)

unfoldable pub sent_to : List ℕ → Dispatch → ℕ
sent_to ring None = 0
sent_to ring (Some (frame, to)) = address_of ring to
