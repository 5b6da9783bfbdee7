-- A cell: N nodes of one ring file, each a record and its store, and the packet on the wire; and what a driver's calls make of it.
use Rattle.std.specs.Prelude.{ℕ, ◌<◌, ◌≤◌, ◌≡◌, List, [], ◌∷◌, length, take, get_or}
use Rattle.codec.specs.Octets.{Octets}
use Rattle.codec.specs.Ring.{read_ring}
use Rattle.packet_codec.specs.Packet.{longest_packet}
use Rattle.records.specs.Layout.{record_length, store_length}
use Rattle.driver_buffers.specs.Packets.{address_of}
use Rattle.driver_calls.specs.Calls.{ring_of, ring_kept, request_of, Making, Starting, Hearing, Queueing}
use Rattle.rtep.specs.Sizes.{told_numbers}

-- a node: its record and its store
pub record Node : Type 0 where
  pub rec : List ℕ
  pub store : List ℕ

-- a packet on the wire, with the addresses of its sender and its addressee
pub record Transit : Type 0 where
  pub from : ℕ
  pub to : ℕ
  pub octets : List ℕ

-- the node at each ring position, and what is on the wire
pub record Cell : Type 0 where
  pub node : ℕ → Node
  pub wire : Transit

-- ---- the ring file: N, R, and the address of each member

abbrev pub members : List ℕ → ℕ
members file = (read_ring file).ring.n

abbrev pub retries : List ℕ → ℕ
retries file = (read_ring file).ring.limit

abbrev pub address_at : List ℕ → ℕ → ℕ
address_at file p = address_of (ring_of file) p

-- ---- a call that may send

-- what is lent to it: an out buffer with room for the longest packet, and the numbers to tell in
pub record Lent : Type 0 where
  pub out : List ℕ
  pub told : List ℕ
  pub out_long : longest_packet ≤ length out
  pub told_long : length told ≡ told_numbers

-- what it leaves goes on the wire: as many octets of `out` as it tells, to the address that it tells
abbrev pub left : ℕ → List ℕ → List ℕ → Transit
left own out told = record { from = own; to = get_or told 1 0; octets = take (get_or told 0 0) out }

-- ---- the start

-- the node at p: a record made of the file for its address, then started, and a store of 47,744 octets
pub record Begun (file : List ℕ) (p : ℕ) (node : Node) : Type 0 where
  pub blank : List ℕ
  pub blank_long : length blank ≡ record_length
  pub make_number : ℕ
  pub made : List ℕ
  pub makes : Making blank file (address_at file p) make_number made
  pub lent : Lent
  pub number : ℕ
  pub out : List ℕ
  pub told : List ℕ
  pub starts : Starting made lent.out lent.told number node.rec out told
  pub store_long : length node.store ≡ store_length
  pub store_octets : Octets node.store

-- "stations start from N−1 down to 0": no start acts on another's record; the last, at 0, leaves its packet on the wire
pub record Started (file : List ℕ) (c : Cell) : Type 0 where
  pub good : (read_ring file).number ≡ 0
  pub begun : (p : ℕ) → p < members file → Begun file p (c.node p)
  pub first : (h : 0 < members file) → c.wire ≡ left (address_at file 0) (begun 0 h).out (begun 0 h).told

-- ---- a step: the packet on the wire is handed with its addresses to the call of every other record

pub record FrameCall (w : Transit) (before after : Node) : Type 0 where
  pub lent : Lent
  pub number : ℕ
  pub out : List ℕ
  pub told : List ℕ
  pub hears :
      Hearing before.rec before.store w.from w.to w.octets lent.out lent.told number after.rec after.store out told

-- the sender's record and store stay; what the addressee's call leaves is on the wire then
pub record HandedOn (file : List ℕ) (c c' : Cell) : Type 0 where
  pub calls : (p : ℕ) → p < members file → (address_at file p ≡ c.wire.from → ⊥) → FrameCall c.wire (c.node p) (c'.node p)
  pub sender_stays : (p : ℕ) → p < members file → address_at file p ≡ c.wire.from → c'.node p ≡ c.node p
  pub answers : (p : ℕ) (h : p < members file) (o : address_at file p ≡ c.wire.from → ⊥) → address_at file p ≡ c.wire.to
      → c'.wire ≡ left (address_at file p) (calls p h o).out (calls p h o).told

-- ---- a queue call at the node p: `to` is an address

pub record Asking : Type 0 where
  pub at : ℕ
  pub to : ℕ
  pub priority : ℕ
  pub channel : ℕ
  pub payload : List ℕ

pub record QueueCall (file : List ℕ) (a : Asking) (c c' : Cell) : Type 0 where
  pub member : a.at < members file
  pub payload_octets : Octets a.payload
  pub number : ℕ
  pub queues :
      Queueing (c.node a.at).rec (c.node a.at).store
      (request_of (ring_kept (c.node a.at).rec) a.to a.priority a.channel (length a.payload)) a.payload number
      (c'.node a.at).rec (c'.node a.at).store
  pub others_stay : (p : ℕ) → p < members file → (p ≡ a.at → ⊥) → c'.node p ≡ c.node p
  pub wire_stays : c'.wire ≡ c.wire

-- ---- a run: steps and queue calls in any order

pub data Act : Type 0 where
  handed : Act
  asked : Asking → Act

pub data Run (file : List ℕ) : Cell → List Act → Cell → Type 0 where
  done : (c : Cell) → Run file c [] c
  hand_on : (c c₁ c' : Cell) (acts : List Act) → HandedOn file c c₁ → Run file c₁ acts c' → Run file c (handed ∷ acts) c'
  ask : (c c₁ c' : Cell) (a : Asking) (acts : List Act) → QueueCall file a c c₁ → Run file c₁ acts c' → Run file c (asked a ∷ acts) c'

-- the packets that a run composes, in order: a step's is the one that it puts on the wire
unfoldable pub composed : {file : List ℕ} {c : Cell} {acts : List Act} {c' : Cell} → Run file c acts c' → List Transit
composed (done c) = []
composed (hand_on c c₁ c' acts h r) = c₁.wire ∷ composed r
composed (ask c c₁ c' a acts q r) = composed r
