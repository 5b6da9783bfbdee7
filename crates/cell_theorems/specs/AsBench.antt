-- A cell beside the bench: the bench's events, frames and rows, and what a cell has of them.
use Rattle.std.specs.Prelude.{ℕ, ◌<◌, ◌≡◌, List, [], ◌∷◌, ◌++◌, length, get_or, Some}
use Rattle.codec.specs.Ring.{position, read_ring}
use Rattle.packet_codec.specs.Packet.{wire_octets, read_packet}
use Rattle.packet_codec.specs.declared.packet.Packet.{Packet}
use Rattle.packet_codec.specs.declared.packet.Packet.TheVariants.{Token, Transmit, Information}
use Rattle.packet_codec.specs.declared.reading.Read.{Read}
use Rattle.packet_codec.specs.declared.reading.Read.TheVariants.{Refused, Good}
use Rattle.parts.specs.declared.frame.Frame.{Frame}
use Rattle.station.specs.Stations.{awaited_of}
use Rattle.driver_buffers.specs.Places.{carried_in}
use Rattle.driver_calls.specs.Calls.{ring_of, station_in, request_of}
use Rattle.wire_theorems.specs.Wire.{OnWire}
use Rattle.bench.specs.Ring.{station_at, ring_with}
use Rattle.bench.specs.Calls.{queue}
use Rattle.bench.specs.Runs.{Event, stepped, queued, final}
use Rattle.bench.specs.declared.ring.Bench.{Bench}
use Rattle.bench.specs.declared.rows.Kind.{Kind}
use Rattle.bench.specs.declared.rows.Kind.TheVariants.{T, G, I}
use Rattle.bench.specs.declared.rows.Row.{Row}
use Rattle.parts.specs.declared.request.Request.{Request}
use Rattle.cell_theorems.specs.Cell.{Transit, Cell, members, retries, address_at, Started, HandedOn, Asking, QueueCall, Act, handed, asked}

-- ---- a run's events on the bench: a driver's `to` is an address, the bench's a position

abbrev pub request_in : List ℕ → Asking → Request
request_in file a = request_of (read_ring file).ring a.to a.priority a.channel (length a.payload)

abbrev pub event_of : List ℕ → Act → Event
event_of file handed = stepped
event_of file (asked a) = queued a.at (request_in file a)

unfoldable pub events : List ℕ → List Act → List Event
events file [] = []
events file (a ∷ acts) = event_of file a ∷ events file acts

-- the bench of the file's ring, after a run's events
abbrev pub bench_after : List ℕ → List Act → Bench
bench_after file acts = final (ring_with (members file) (retries file)) (events file acts)

-- ---- a packet's row: what the codec reads in its octets, and the octets on the wire that it counts

abbrev pub kind_read : Packet → Kind
kind_read (Token p) = T
kind_read (Transmit p) = G
kind_read (Information h) = I

abbrev pub number_read : Packet → ℕ
number_read (Token p) = p.number
number_read (Transmit p) = p.number
number_read (Information h) = h.number

abbrev pub priority_read : Packet → ℕ
priority_read (Token p) = p.priority
priority_read (Transmit p) = p.priority
priority_read (Information h) = h.priority

-- none for octets that are no packet
abbrev pub row_read : ℕ → ℕ → Read → List Row
row_read from to (Refused why) = []
row_read from to (Good p) =
    record { number = number_read p; kind = kind_read p; from = from; to = to; priority = priority_read p; octets = wire_octets p } ∷ []

abbrev pub row_of : List ℕ → Transit → List Row
row_of file w = row_read (position (ring_of file) w.from) (position (ring_of file) w.to) (read_packet (ring_of file) w.octets)

unfoldable pub rows : List ℕ → List Transit → List Row
rows file [] = []
rows file (w ∷ ws) = row_of file w ++ rows file ws

-- ---- what a cell has of a bench

-- each record's station is the bench's at that position; the packet on the wire is the octets of the bench's frame with some
-- information, which everybody reads as that frame, and its addresses are those of the frame's ends
pub record AsBench (file : List ℕ) (c : Cell) (b : Bench) : Type 0 where
  pub stations : (p : ℕ) → p < members file → station_in (c.node p).rec ≡ station_at b p
  pub frame : Frame
  pub to : ℕ
  pub frame_is : b.wire.sent ≡ Some (frame, to)
  pub information : List ℕ
  pub on_wire : OnWire (ring_of file) frame information c.wire.octets
  pub from_address : c.wire.from ≡ address_at file b.wire.from
  pub to_address : c.wire.to ≡ address_at file to

-- ---- no call is refused

-- each record is made and starts, and only the first of them leaves a packet
pub record StartsDone (file : List ℕ) (c : Cell) (s : Started file c) : Type 0 where
  pub made : (p : ℕ) (h : p < members file) → (s.begun p h).make_number ≡ 0
  pub started : (p : ℕ) (h : p < members file) → (s.begun p h).number ≡ 0
  pub silent : (p : ℕ) (h : p < members file) → (p ≡ 0 → ⊥) → get_or (s.begun p h).told 0 0 ≡ 0

-- each record's call that is handed the packet gives 0; there is an addressee among them, and nobody else leaves a packet
pub record StepDone (file : List ℕ) (c c' : Cell) (s : HandedOn file c c') : Type 0 where
  pub number : (p : ℕ) (h : p < members file) (o : address_at file p ≡ c.wire.from → ⊥) → (s.calls p h o).number ≡ 0
  pub addressee : ℕ
  pub addressee_member : addressee < members file
  pub addressed : address_at file addressee ≡ c.wire.to
  pub another : address_at file addressee ≡ c.wire.from → ⊥
  pub silent : (p : ℕ) (h : p < members file) (o : address_at file p ≡ c.wire.from → ⊥) → (p ≡ addressee → ⊥)
      → get_or (s.calls p h o).told 0 0 ≡ 0
  -- the packet on the wire then is the frame that the addressee's record awaits, with what its store had for it
  pub frame : Frame
  pub onward : ℕ
  pub awaited : awaited_of (station_in (c'.node addressee).rec) ≡ Some (frame, onward)
  pub composed : OnWire (ring_of file) frame (carried_in (c.node addressee).store frame) c'.wire.octets

-- a queue call gives the bench's number
abbrev pub QueueNumbered : (file : List ℕ) (b : Bench) (a : Asking) (c c' : Cell) → QueueCall file a c c' → Type 0
QueueNumbered file b a c c' q = q.number ≡ (queue b a.at (request_in file a)).number
