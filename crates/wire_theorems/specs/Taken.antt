-- What a heard frame stored and what take hands back of it.
use Rattle.std.specs.Prelude.{◌≡◌, true, List, ℕ, ◌+◌, ◌≤◌, length, Some}
use Rattle.packet_codec.specs.Packet.{information_in, information_part, read_packet}
use Rattle.packet_codec.specs.declared.packet.Packet.{Packet}
use Rattle.packet_codec.specs.declared.reading.Read.TheVariants.{Good}
use Rattle.parts.specs.declared.list.Message.{Message}
use Rattle.records.specs.Layout.{receive_places}
use Rattle.driver_buffers.specs.Places.{fits_place}
use Rattle.driver_calls.specs.Calls.{ring_in}
use Rattle.wire_theorems.specs.Store.{Received, received_payload}
use Rattle.codec.specs.Octets.{laid}
use Rattle.driver_buffers.specs.Telling.{taken_told}

-- the message that was stored stands in the receive list, with the packet's information in its place, which fits
pub record Stored (rec rec' store store' packet : List ℕ) (m : Message) : Type 0 where
  pub packet_read : Packet
  pub reads : read_packet (ring_in rec) packet ≡ Good packet_read
  pub is_part : information_in packet m.length ≡ information_part packet_read packet
  pub long : length (information_in packet m.length) ≡ m.length
  pub place_fits : fits_place (length store) (receive_places + m.place) (length (information_part packet_read packet)) ≡ true
  pub stands : Received m rec'
  pub holds : received_payload store' m ≡ information_part packet_read packet

-- the payload fits its place and the room, and fills the room's start
pub record HandedBack (ring store room : List ℕ) (m : Message) (room' told' : List ℕ) : Type 0 where
  pub place_fits : fits_place (length store) (receive_places + m.place) m.length ≡ true
  pub room_fits : m.length ≤ length room
  pub room_is : room' ≡ laid room 0 (received_payload store m)
  pub told_is : told' ≡ taken_told ring (Some m)

-- the packet's information, of the message's length, fills the start of the room, and the message is told
pub record TakenBack (ring packet room : List ℕ) (m : Message) (room' told' : List ℕ) : Type 0 where
  pub long : length (information_in packet m.length) ≡ m.length
  pub room_fits : m.length ≤ length room
  pub room_is : room' ≡ laid room 0 (information_in packet m.length)
  pub told_is : told' ≡ taken_told ring (Some m)
