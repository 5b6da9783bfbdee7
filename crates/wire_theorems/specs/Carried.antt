-- What queue put and what a frame carries of it.
use Rattle.std.specs.Prelude.{◌≡◌, true, List, ℕ, length, take, get_or}
use Rattle.parts.specs.Messages.{message_for}
use Rattle.parts.specs.declared.list.Message.{Message}
use Rattle.parts.specs.declared.request.Request.{Request}
use Rattle.driver_buffers.specs.Places.{fits_place, carried_in}
use Rattle.wire_theorems.specs.Store.{ToSend, send_payload}
use Rattle.parts.specs.declared.frame.InformationFrame.{InformationFrame}
use Rattle.parts.specs.declared.frame.Frame.TheVariants.{Information}
use Rattle.packet_codec.specs.Packet.{information_part}
use Rattle.driver_buffers.specs.Packets.{packet_of}

-- the message of an accepted request stands in the send list, with the payload in its place, which fits
pub record Queued (rec' store store' : List ℕ) (q : Request) (payload : List ℕ) (m : Message) : Type 0 where
  pub asked : m ≡ message_for q m.place
  pub place_fits : fits_place (length store) m.place (length payload) ≡ true
  pub stands : ToSend m rec'
  pub holds : send_payload store' m ≡ payload

-- an information frame is that of the message with its place: its fields are the message's, and it carries the message's payload
pub record CarriesMessage (store : List ℕ) (i : InformationFrame) (to : ℕ) (m : Message) : Type 0 where
  pub to_other : to ≡ m.other
  pub same_priority : i.priority ≡ m.priority
  pub same_channel : i.channel ≡ m.channel
  pub same_length : i.length ≡ m.length
  pub place_fits : fits_place (length store) i.place i.length ≡ true
  pub payload : carried_in store (Information i) ≡ send_payload store m

-- and each that is sent is that of a message of the send list
pub record OfMessage (rec' store : List ℕ) (i : InformationFrame) (to : ℕ) : Type 0 where
  pub message : Message
  pub stands : ToSend message rec'
  pub is_its : CarriesMessage store i to message

-- the frame goes where the request says, with its priority and its channel, and whoever has this ring reads the payload in it
pub record CarriesQueued (ring : List ℕ) (q : Request) (payload : List ℕ) (i : InformationFrame) (to : ℕ) (out' told' : List ℕ) : Type 0 where
  pub to_asked : to ≡ q.to
  pub priority_asked : i.priority ≡ q.priority
  pub channel_asked : i.channel ≡ q.channel
  pub length_is : i.length ≡ length payload
  pub payload_read : information_part (packet_of ring (Information i)) (take (get_or told' 0 0) out') ≡ payload
