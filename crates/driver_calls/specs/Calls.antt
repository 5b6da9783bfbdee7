-- What each call of a driver gives back and leaves: the number, the record, the store, the buffer and what is told, on success and on
-- refusal. Each is the station's rule on the station that the record holds.
use Rattle.std.specs.Prelude.{ℕ, ◌≡◌, Bool, true, not, List, [], ◌∷◌, ltb, leb, eqb, length, take, Option, None, Some}
use Rattle.codec.specs.Order.{first_of}
use Rattle.codec.specs.Octets.{laid}
use Rattle.codec.specs.Ring.{Ring, position, is_member, read_ring, listens}
use Rattle.packet_codec.specs.Packet.{longest_packet, information_in, read_packet, read_number, kept}
use Rattle.packet_codec.specs.declared.reading.Read.{Read}
use Rattle.packet_codec.specs.declared.reading.Read.TheVariants.{Refused, Good}
use Rattle.parts.specs.Choose.{pick}
use Rattle.parts.specs.Moves.{move_of, runs}
use Rattle.station.specs.Stations.{made, state_of, answered, moved, unless}
use Rattle.station.specs.Deeds.{refused}
use Rattle.station.specs.Decide.{decided, decided_start, decided_timer}
use Rattle.station.specs.Start.{start_rule}
use Rattle.station.specs.Heard.{checks, frame_rule}
use Rattle.station.specs.Timer.{timer_rule}
use Rattle.station.specs.Queue.{queue_rule}
use Rattle.station.specs.Take.{take_rule}
use Rattle.parts.specs.declared.moves.Event.TheVariants.{Heard}
use Rattle.parts.specs.declared.request.Request.{Request}
use Rattle.station.specs.declared.station.Station.{Station}
use Rattle.parts.specs.declared.list.Message.{Message}
use Rattle.station.specs.declared.station.Answer.{Answer}
use Rattle.station.specs.declared.rules.deeds.Verdict.{Verdict}
use Rattle.records.specs.Layout.{own_at, record_length, store_length}
use Rattle.records.specs.Record.{station_octets, record_octets, read_record}
use Rattle.driver_buffers.specs.Places.{queued, received, taken, information_of}
use Rattle.driver_buffers.specs.Packets.{frame_of, sent_octets}
use Rattle.driver_buffers.specs.Telling.{told_of, taken_told}
use Rattle.driver_calls.specs.declared.hearing.Call.{Call}
use Rattle.driver_calls.specs.declared.hearing.Call.TheVariants.{Start, Timer, Frame}

-- ---- the station of a record and its ring

abbrev pub members_of : Ring → List ℕ
members_of r = take r.n r.addresses

abbrev pub ring_kept : List ℕ → Ring
ring_kept rec = (read_record rec).ring

abbrev pub ring_in : List ℕ → List ℕ
ring_in rec = members_of (ring_kept rec)

abbrev pub station_in : List ℕ → Station
station_in rec = (read_record rec).station

-- "9 first in every station call with such a buffer, then 35", then the station's own
unfoldable pub call_number : Bool → List ℕ → Answer → ℕ
call_number bad_buffer rec a = first_of a.number ((bad_buffer, 9) ∷ (not (read_record rec).ok, 35) ∷ [])

-- an out buffer under 1,500 octets, a store not of 47,744
abbrev pub bad_out : ℕ → Bool
bad_out out = ltb out longest_packet

abbrev pub bad_store : ℕ → Bool
bad_store store = not (eqb store store_length)

unfoldable pub bad_buffers : ℕ → ℕ → Bool
bad_buffers store out = pick (bad_store store) true (bad_out out)

-- the record with a station anew: the ring file's octets stay
abbrev pub record_with : List ℕ → Station → List ℕ
record_with rec s = laid rec own_at (station_octets s)

-- the record is whole, and this station's
pub record Holds (rec : List ℕ) (s : Station) : Type 0 where
  pub whole : (read_record rec).ok ≡ true
  pub station : s ≡ station_in rec

-- ---- make: 35, then the ring file's 1 to 7, then 8 for an own address that is absent

abbrev pub ring_of : List ℕ → List ℕ
ring_of file = members_of (read_ring file).ring

unfoldable pub make_number : List ℕ → List ℕ → ℕ → ℕ
make_number rec file own =
    first_of 0
    ((not (eqb (length rec) record_length), 35)
    ∷ (not (eqb (read_ring file).number 0), (read_ring file).number)
    ∷ (not (is_member (ring_of file) own), 8)
    ∷ [])

abbrev pub made_from : List ℕ → ℕ → Station
made_from file own = made (read_ring file).ring.n (read_ring file).ring.limit (position (ring_of file) own)

pub record Making (rec file : List ℕ) (own : ℕ) (r : ℕ) (rec' : List ℕ) : Type 0 where
  pub answer : r ≡ make_number rec file own
  pub record_is : rec' ≡ kept r rec (laid rec 0 (record_octets file (made_from file own)))

-- ---- calls that may send: start, frame and timer

-- what an answer of 0 leaves
pub record Left (a : Answer) (ring info rec out told rec' out' told' : List ℕ) : Type 0 where
  pub record_is : rec' ≡ record_with rec a.station
  pub out_is : out' ≡ laid out 0 (sent_octets ring a.sent info)
  pub told_is : told' ≡ laid told 0 (told_of ring a.sent a.struck a.gone)

pub record Sending (number : ℕ) (a : Answer) (ring info rec out told : List ℕ) (r : ℕ) (rec' out' told' : List ℕ) : Type 0 where
  pub answer : r ≡ number
  pub record_is : rec' ≡ kept r rec (record_with rec a.station)
  pub out_is : out' ≡ kept r out (laid out 0 (sent_octets ring a.sent info))
  pub told_is : told' ≡ kept r told (laid told 0 (told_of ring a.sent a.struck a.gone))

abbrev pub start_answer : List ℕ → Answer
start_answer rec = start_rule (station_in rec)

abbrev pub Starting : (rec out told : List ℕ) (r : ℕ) (rec' out' told' : List ℕ) → Type 0
Starting rec out told r rec' out' told' =
    Sending (call_number (bad_out (length out)) rec (start_answer rec)) (start_answer rec) (ring_in rec) [] rec out told r rec' out' told'

abbrev pub timer_answer : List ℕ → Answer
timer_answer rec = timer_rule (station_in rec)

-- a resend is composed from the record and the store
abbrev pub timer_information : List ℕ → List ℕ → List ℕ
timer_information rec store = information_of store (timer_answer rec).sent

abbrev pub Timing : (rec store out told : List ℕ) (r : ℕ) (rec' out' told' : List ℕ) → Type 0
Timing rec store out told r rec' out' told' =
    Sending (call_number (bad_buffers (length store) (length out)) rec (timer_answer rec)) (timer_answer rec) (ring_in rec)
    (timer_information rec store) rec out told r rec' out' told'

-- ---- frame: 22, then 13, then 10 to 12, the last with the offset that reading gives

abbrev pub heard_then : Station → List ℕ → ℕ → ℕ → Read → Answer
heard_then s ring from to (Refused why) = answered s (read_number (Refused why))
heard_then s ring from to (Good p) = frame_rule s (frame_of ring p) from to

unfoldable pub packet_rule : Station → List ℕ → ℕ → ℕ → List ℕ → Answer
packet_rule s ring from to packet =
    moved s Heard
    (unless s (checks s (position ring from) (position ring to))
    (heard_then s ring (position ring from) (position ring to) (read_packet ring packet)))

-- what it asks for, in the same order
abbrev pub decided_read : Station → List ℕ → ℕ → ℕ → Read → Verdict
decided_read s ring from to (Refused why) = refused s.turn (read_number (Refused why))
decided_read s ring from to (Good p) = decided s (frame_of ring p) from to

unfoldable pub decided_packet : Station → List ℕ → ℕ → ℕ → List ℕ → Verdict
decided_packet s ring from to packet =
    pick (eqb (move_of (state_of s) Heard) runs)
    (pick (eqb (checks s (position ring from) (position ring to)) 0)
    (decided_read s ring (position ring from) (position ring to) (read_packet ring packet))
    (refused s.turn (checks s (position ring from) (position ring to))))
    (refused s.turn (move_of (state_of s) Heard))

-- what a call that may send asks for
abbrev pub decided_call : Call → Station → List ℕ → List ℕ → Verdict
decided_call Start s ring packet = decided_start s
decided_call Timer s ring packet = decided_timer s
decided_call (Frame from to) s ring packet = decided_packet s ring from to packet

abbrev pub frame_answer : List ℕ → ℕ → ℕ → List ℕ → Answer
frame_answer rec from to packet = packet_rule (station_in rec) (ring_in rec) from to packet

-- the information of a heard frame whose message is stored
unfoldable pub heard_information : List ℕ → Option Message → List ℕ
heard_information packet None = []
heard_information packet (Some m) = information_in packet m.length

-- a heard message goes into its receive place; every other octet stays
abbrev pub store_heard : List ℕ → List ℕ → Option Message → List ℕ
store_heard store packet p = received store p (heard_information packet p)

pub record Hearing (rec store : List ℕ) (from to : ℕ) (packet out told : List ℕ) (r : ℕ) (rec' store' out' told' : List ℕ) : Type 0 where
  pub sending :
      Sending (call_number (bad_buffers (length store) (length out)) rec (frame_answer rec from to packet)) (frame_answer rec from to packet)
      (ring_in rec) (information_of store (frame_answer rec from to packet).sent) rec out told r rec' out' told'
  pub store_is : store' ≡ kept r store (store_heard store packet (frame_answer rec from to packet).payload)

-- ---- queue

-- what a driver's numbers ask for: its `to` is an address of the ring's members. Whether that member listens on the channel, the ring says
abbrev pub request_for : List ℕ → Ring → ℕ → ℕ → ℕ → ℕ → Request
request_for members r to priority channel length =
    record { to = position members to; priority = priority; channel = channel; length = length; listens = listens r (position members to) channel }

abbrev pub request_of : Ring → ℕ → ℕ → ℕ → ℕ → Request
request_of r to priority channel length = request_for (members_of r) r to priority channel length

abbrev pub queue_answer : List ℕ → Request → Answer
queue_answer rec q = queue_rule (station_in rec) q

pub record Queueing (rec store : List ℕ) (q : Request) (payload : List ℕ) (r : ℕ) (rec' store' : List ℕ) : Type 0 where
  pub answer : r ≡ call_number (bad_store (length store)) rec (queue_answer rec q)
  pub record_is : rec' ≡ kept r rec (record_with rec (queue_answer rec q).station)
  pub store_is : store' ≡ kept r store (queued store (queue_answer rec q).payload payload)

-- ---- take

-- a payload fills the start of the room, where it fits; in a whole station's take it does
unfoldable pub taken_into : List ℕ → List ℕ → List ℕ
taken_into room part = pick (leb (length part) (length room)) (laid room 0 part) room

abbrev pub take_answer : List ℕ → ℕ → List ℕ → Answer
take_answer rec channel room = take_rule (station_in rec) channel (length room)

pub record Taking (rec store : List ℕ) (channel : ℕ) (room told : List ℕ) (r : ℕ) (rec' room' told' : List ℕ) : Type 0 where
  pub answer : r ≡ call_number (bad_store (length store)) rec (take_answer rec channel room)
  pub record_is : rec' ≡ kept r rec (record_with rec (take_answer rec channel room).station)
  pub room_is : room' ≡ kept r room (taken_into room (taken store (take_answer rec channel room).payload))
  pub told_is : told' ≡ kept r told (taken_told (ring_in rec) (take_answer rec channel room).payload)
