-- A frame on the wire: the octets of its packet, what every other member has of it, and the ring file that a record was made of.
use Rattle.station_theorems.specs.GoodList.{GoodList}
use Rattle.station_theorems.specs.Awaited.{Proper}
use Rattle.station_theorems.specs.Small.{SmallFrame}
use Rattle.wholeness.specs.Whole.{apart}
use Rattle.station.specs.declared.station.Station.{Station}
use Rattle.parts.specs.Messages.{all}
use Rattle.std.specs.Prelude.{true, ℕ, ◌^◌, ◌<◌, ◌≡◌, List, [], length, take, get_or, Some}
use Rattle.codec.specs.Octets.{Octets}
use Rattle.codec.specs.Ring.{position}
use Rattle.packet_codec.specs.Packet.{size, packet_octets, information_part, read_packet, Fit}
use Rattle.packet_codec.specs.declared.reading.Read.TheVariants.{Good}
use Rattle.parts.specs.declared.frame.Frame.{Frame}
use Rattle.parts.specs.declared.frame.Frame.TheVariants.{Token, Transmit, Information}
use Rattle.driver_buffers.specs.Packets.{address_of, packet_of, frame_of}
use Rattle.driver_buffers.specs.Places.{carried_in}
use Rattle.driver_calls.specs.Calls.{Starting, Hearing, Timing, start_answer, frame_answer, timer_answer}
use Rattle.driver_theorems.specs.Held.{Held, by_make, by_start, by_frame, by_timer, by_queue, by_take}

-- the addresses of a good ring: of 48 bits, none zero, each at one position only
pub record GoodAddresses (ring : List ℕ) : Type 0 where
  pub wide : (p : ℕ) → p < length ring → address_of ring p < 2 ^ 48
  pub some : (p : ℕ) → p < length ring → address_of ring p ≡ 0 → ⊥
  pub own : (p : ℕ) → p < length ring → position ring (address_of ring p) ≡ p

-- the frame as every other member has it: the place of its message is its sender's affair
abbrev pub placeless : Frame → Frame
placeless (Token t) = Token t
placeless (Transmit t) = Transmit t
placeless (Information i) =
    Information (record { number = i.number; priority = i.priority; channel = i.channel; length = i.length; place = 0 })

-- the packet of f, fit to write with this information, and s its octets: whoever has this ring reads them as that packet, with the
-- information in its place, and the packet as that frame
pub record OnWire (ring : List ℕ) (f : Frame) (info s : List ℕ) : Type 0 where
  pub fit : Fit ring (packet_of ring f) info
  pub octets : s ≡ packet_octets (packet_of ring f) info
  pub sized : length s ≡ size (packet_of ring f)
  pub reads : read_packet ring s ≡ Good (packet_of ring f)
  pub part : information_part (packet_of ring f) s ≡ info
  pub frame : frame_of ring (packet_of ring f) ≡ placeless f

-- what a call leaves that sends f to a position: as many octets of `out` as it tells are that frame, with what the store has for it, and
-- the address that it tells is that position's
pub record Conveyed (ring store : List ℕ) (f : Frame) (to : ℕ) (out' told' : List ℕ) : Type 0 where
  pub on_wire : OnWire ring f (carried_in store f) (take (get_or told' 0 0) out')
  pub told_length : get_or told' 0 0 ≡ size (packet_of ring f)
  pub told_address : get_or told' 1 0 ≡ address_of ring to
  pub told_position : position ring (get_or told' 1 0) ≡ to

-- a call on a record and its store that is done and sends f to a position
pub data Sends : (rec store : List ℕ) (f : Frame) (to : ℕ) (rec' out' told' : List ℕ) → Type 0 where
  on_start : (rec store out told rec' out' told' : List ℕ) (f : Frame) (to : ℕ) → Starting rec out told 0 rec' out' told'
      → (start_answer rec).sent ≡ Some (f, to) → Sends rec store f to rec' out' told'
  on_frame : (rec store : List ℕ) (from at : ℕ) (packet out told rec' store' out' told' : List ℕ) (f : Frame) (to : ℕ) → Octets packet
      → Hearing rec store from at packet out told 0 rec' store' out' told' → (frame_answer rec from at packet).sent ≡ Some (f, to)
      → Sends rec store f to rec' out' told'
  on_timer : (rec store out told rec' out' told' : List ℕ) (f : Frame) (to : ℕ) → Timing rec store out told 0 rec' out' told'
      → (timer_answer rec).sent ≡ Some (f, to) → Sends rec store f to rec' out' told'

-- the ring file that a held record was made of
abbrev pub made_of : {rec : List ℕ} → Held rec → List ℕ
made_of (by_make rec file own rec' m) = file
made_of (by_start rec out told r rec' out' told' p m) = made_of p
made_of (by_frame rec store from to packet out told r rec' store' out' told' p o m) = made_of p
made_of (by_timer rec store out told r rec' out' told' p m) = made_of p
made_of (by_queue rec store q payload r rec' store' p m) = made_of p
made_of (by_take rec store channel room told r rec' room' told' p m) = made_of p

-- a frame that a whole station awaits: proper, of small numbers, with its message in a good list
pub record Outgoing (ring : List ℕ) (s : Station) (f : Frame) (to : ℕ) : Type 0 where
  pub members : length ring ≡ s.n
  pub proper : Proper s.n s.own s.sends f to
  pub list : GoodList s.n s.own s.sends
  pub places : apart [] (all s.sends) ≡ true
  pub small : SmallFrame f
