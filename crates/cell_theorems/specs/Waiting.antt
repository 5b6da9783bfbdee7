-- Demand 3 of a cell: how many packets are composed, from the acceptance of a message on, until its own is on the wire.
use Rattle.std.specs.Prelude.{ℕ, zero, suc, ◌+◌, ◌-◌, ◌*◌, ◌<◌, ◌≤◌, ◌≡◌, Bool, true, false, ◌&&◌, eqb, length}
use mathlib.Core.List.{List, [], ◌∷◌, Memᴰ}
use Rattle.codec.specs.Octets.{zeros}
use Rattle.codec.specs.Sizes.{most_information}
use Rattle.packet_codec.specs.Packet.{information, information_in, read_packet}
use Rattle.packet_codec.specs.declared.reading.Read.TheVariants.{Good}
use Rattle.parts.specs.Choose.{pick}
use Rattle.parts.specs.Messages.{all, flies, lowest_free}
use Rattle.parts.specs.Frames.{flight}
use Rattle.station.specs.Stations.{awaited_of}
use Rattle.parts.specs.declared.list.Message.{Message}
use Rattle.driver_calls.specs.Calls.{ring_of, station_in}
use Rattle.waiting.specs.Waiting.{Spot, Until, shorts, informations, octets_on_wire, is_at}
use Rattle.cell_theorems.specs.Cell.{Transit, Cell, members, address_at, Asking, QueueCall, Act, handed, asked, Run, done, hand_on, ask}
use Rattle.cell_theorems.specs.AsBench.{rows}

-- ---- the message: the node that accepted it, and the place that it got in its record

abbrev pub spot_in : Cell → ℕ → Spot
spot_in c p = record { station = p; place = lowest_free (all (station_in (c.node p).rec).sends) }

-- the packet on the wire is the message's own: it comes from its node, in whose record the message with that place is in flight
unfoldable pub own_in : List ℕ → Spot → Cell → Bool
own_in file x c =
    eqb c.wire.from (address_at file x.station)
    && is_at (flight (awaited_of (station_in (c.node x.station).rec))) x.place

-- the packets composed before its own
unfoldable pub before_in : {file : List ℕ} {c : Cell} {acts : List Act} {c' : Cell} → Spot → Run file c acts c' → List Transit
before_in x (done c) = []
before_in {file} x (hand_on c c₁ c' acts h r) = pick (own_in file x c₁) [] (c₁.wire ∷ before_in x r)
before_in x (ask c c₁ c' a acts q r) = before_in x r

-- whether its own is composed
unfoldable pub goes_in : {file : List ℕ} {c : Cell} {acts : List Act} {c' : Cell} → Spot → Run file c acts c' → Bool
goes_in x (done c) = false
goes_in {file} x (hand_on c c₁ c' acts h r) = pick (own_in file x c₁) true (goes_in x r)
goes_in x (ask c c₁ c' a acts q r) = goes_in x r

-- ---- what is asked of it

-- the message m waits in the record of the node p: it is in the send list and not in flight
pub record WaitsIn (c : Cell) (p : ℕ) (m : Message) : Type 0 where
  pub listed : Memᴰ m (all (station_in (c.node p).rec).sends)
  pub rests : flies (flight (awaited_of (station_in (c.node p).rec))) m ≡ false

-- every other waiting message of every record has a strictly lower priority
abbrev pub OnTopIn : List ℕ → Spot → ℕ → Cell → Type 0
OnTopIn file x priority c =
    (p : ℕ) → p < members file → (m : Message) → WaitsIn c p m → ((p ≡ x.station) × (m.place ≡ x.place) → ⊥) → m.priority < priority

-- in every state from here until it goes
unfoldable pub StaysOnTopIn : {file : List ℕ} {c : Cell} {acts : List Act} {c' : Cell} → Spot → ℕ → Run file c acts c' → Type 0
StaysOnTopIn {file} x priority (done c) = OnTopIn file x priority c
StaysOnTopIn {file} x priority (hand_on c c₁ c' acts h r) =
    OnTopIn file x priority c × Until (own_in file x c₁) (StaysOnTopIn x priority r)
StaysOnTopIn {file} x priority (ask c c₁ c' a acts q r) = OnTopIn file x priority c × StaysOnTopIn x priority r

-- ---- what goes

-- the packet of the message that was asked for: from its node to that address, of its priority and channel, with its payload
pub record ItsPacket (file : List ℕ) (a : Asking) (w : Transit) : Type 0 where
  pub from_node : w.from ≡ address_at file a.at
  pub to_asked : w.to ≡ a.to
  pub number : ℕ
  pub reads : read_packet (ring_of file) w.octets ≡ Good (information a.priority number a.channel (length a.payload))
  pub payload : information_in w.octets (length a.payload) ≡ a.payload

abbrev pub Either : Bool → Type 0 → Type 0 → Type 0
Either true now later = now
Either false now later = later

-- its own, once it is composed, is that packet
unfoldable pub OwnIs : {file : List ℕ} {c : Cell} {acts : List Act} {c' : Cell} → Spot → Asking → Run file c acts c' → Type 0
OwnIs x a (done c) = Unit {0}
OwnIs {file} x a (hand_on c c₁ c' acts h r) = Either (own_in file x c₁) (ItsPacket file a c₁.wire) (OwnIs x a r)
OwnIs x a (ask c c₁ c' a' acts q r) = OwnIs x a r

-- ---- the bound, of a run after the acceptance

-- how many of the acts are steps
unfoldable pub steps_of : List Act → ℕ
steps_of [] = 0
steps_of (handed ∷ acts) = suc (steps_of acts)
steps_of (asked a ∷ acts) = steps_of acts

pub record BoundIn (file : List ℕ) (x : Spot) (a : Asking) {c : Cell} {acts : List Act} {c' : Cell} (r : Run file c acts c') : Type 0 where
  pub short_packets : shorts (rows file (before_in x r)) ≤ 2 * members file + 1
  pub information_packets : informations (rows file (before_in x r)) ≤ 1
  pub octets : octets_on_wire (rows file (before_in x r)) ≤ (2 * members file + 1) * 72 + 1526
  -- "no later than the (2N+3)th packet composed after acceptance"
  pub not_later : length (before_in x r) + 1 ≤ 2 * members file + 3
  -- its own is composed, once so many packets are
  pub it_goes : 2 * members file + 3 ≤ steps_of acts → goes_in x r ≡ true
  pub own_is : OwnIs x a r

-- ---- its tightness

-- both figures are reached
pub record ReachesIn (file : List ℕ) (x : Spot) {c : Cell} {acts : List Act} {c' : Cell} (r : Run file c acts c') : Type 0 where
  pub goes_in_it : goes_in x r ≡ true
  pub short_packets : shorts (rows file (before_in x r)) ≡ 2 * members file + 1
  pub information_packets : informations (rows file (before_in x r)) ≡ 1
  pub octets : octets_on_wire (rows file (before_in x r)) ≡ (2 * members file + 1) * 72 + 1526
  pub which : length (before_in x r) + 1 ≡ 2 * members file + 3

-- k steps
unfoldable pub handings : ℕ → List Act
handings zero = []
handings (suc k) = handed ∷ handings k

-- the message and the foreign one are for member 1: one of no octets, one as long as one can be, queued at the last node
abbrev pub its_asking : List ℕ → Asking
its_asking file = record { at = 0; to = address_at file 1; priority = 9; channel = 0; payload = [] }

abbrev pub foreign_asking : List ℕ → Asking
foreign_asking file = record { at = members file - 1; to = address_at file 1; priority = 5; channel = 0; payload = zeros most_information }

-- from a started cell: the foreign message is queued, then the message is accepted, which stays on top, and the bound is reached
pub record TightFrom (file : List ℕ) (c₀ : Cell) : Type 0 where
  pub c : Cell
  pub foreign_queued : Run file c₀ (asked (foreign_asking file) ∷ []) c
  pub c₁ : Cell
  pub call : QueueCall file (its_asking file) c c₁
  pub accepted : call.number ≡ 0
  pub c₂ : Cell
  pub run : Run file c₁ (handings (2 * members file + 3)) c₂
  pub stays : StaysOnTopIn (spot_in c 0) 9 run
  pub reaches : ReachesIn file (spot_in c 0) run
