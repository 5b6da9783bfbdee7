-- What is told of a frame: "number, kind (T, G for transmit token, I), sender, addressee, priority, octets on the wire".
use Rattle.std.specs.Prelude.{List, [], ◌∷◌, ℕ, ◌+◌, Option, None, Some}
use Rattle.packet_codec.specs.Packet.{token, transmit, information, wire_octets}
use Rattle.packet_codec.specs.declared.packet.Packet.{Packet}
use Rattle.parts.specs.Frames.{number_of, Dispatch}
use Rattle.parts.specs.declared.frame.Frame.{Frame}
use Rattle.parts.specs.declared.frame.Frame.TheVariants.{Token, Transmit, Information}
use Rattle.bench.specs.declared.ring.Wire.{Wire}
use Rattle.bench.specs.declared.rows.Kind.{Kind}
use Rattle.bench.specs.declared.rows.Kind.TheVariants.{T, G, I}
use Rattle.bench.specs.declared.rows.Row.{Row}

abbrev pub kind_of : Frame → Kind
kind_of (Token t) = T
kind_of (Transmit t) = G
kind_of (Information i) = I

abbrev pub priority_in : Frame → ℕ
priority_in (Token t) = t.priority
priority_in (Transmit t) = t.priority
priority_in (Information i) = i.priority

-- "member i, from 0, has address i+1"; an address of 0 means no station
abbrev pub address_of : ℕ → ℕ
address_of p = p + 1

abbrev pub address_or_none : Option ℕ → ℕ
address_or_none None = 0
address_or_none (Some p) = address_of p

-- the packet that the codec writes for a frame
abbrev pub packet_of : Frame → Packet
packet_of (Token t) =
    token t.priority t.number (address_of t.master) (address_or_none t.failing) (address_of t.named)
packet_of (Transmit t) = transmit t.priority t.number (address_of t.master) (address_of t.named)
packet_of (Information i) = information i.priority i.number i.channel i.length

-- its octets on the wire, by the codec's law
abbrev pub octets_of : Frame → ℕ
octets_of f = wire_octets (packet_of f)

unfoldable pub row_of : ℕ → Frame → ℕ → Row
row_of from f to =
    record { number = number_of f; kind = kind_of f; from = from; to = to; priority = priority_in f; octets = octets_of f }

-- the frame on the wire, if there is one
unfoldable pub row_on : ℕ → Dispatch → List Row
row_on from None = []
row_on from (Some (frame, to)) = row_of from frame to ∷ []

abbrev pub rows_on : Wire → List Row
rows_on w = row_on w.from w.sent
