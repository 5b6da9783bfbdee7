-- A record and its store between calls: one call on both, and calls one after the other while something holds of the record.
use Rattle.std.specs.Prelude.{ℕ, ◌+◌, ◌≡◌, length}
use mathlib.Core.List.{List, Memᴰ}
use Rattle.codec.specs.Octets.{Octets}
use Rattle.parts.specs.Messages.{all}
use Rattle.parts.specs.declared.list.Message.{Message}
use Rattle.parts.specs.declared.request.Request.{Request}
use Rattle.records.specs.Layout.{receive_places}
use Rattle.driver_buffers.specs.Places.{in_place}
use Rattle.driver_calls.specs.Calls.{station_in, Starting, Hearing, Timing, Queueing, Taking}

-- one call, whatever number it gives: what it makes of the record and of the store; a queue's request has its payload's length
pub data Call : (rec store rec' store' : List ℕ) → Type 0 where
  by_start : (rec store out told : List ℕ) (r : ℕ) (rec' out' told' : List ℕ) → Starting rec out told r rec' out' told' → Call rec store rec' store
  by_frame : (rec store : List ℕ) (from to : ℕ) (packet out told : List ℕ) (r : ℕ) (rec' store' out' told' : List ℕ) → Octets packet
      → Hearing rec store from to packet out told r rec' store' out' told' → Call rec store rec' store'
  by_timer : (rec store out told : List ℕ) (r : ℕ) (rec' out' told' : List ℕ) → Timing rec store out told r rec' out' told' → Call rec store rec' store
  by_queue : (rec store : List ℕ) (q : Request) (payload : List ℕ) (r : ℕ) (rec' store' : List ℕ) → q.length ≡ length payload
      → Queueing rec store q payload r rec' store' → Call rec store rec' store'
  by_take : (rec store : List ℕ) (channel : ℕ) (room told : List ℕ) (r : ℕ) (rec' room' told' : List ℕ)
      → Taking rec store channel room told r rec' room' told' → Call rec store rec' store

-- calls one after the other, after each of which something holds of the record
pub data While (holds : List ℕ → Type 0) (rec store : List ℕ) : (rec' store' : List ℕ) → Type 0 where
  no_call : holds rec → While holds rec store rec store
  then_call : (rec₁ store₁ rec' store' : List ℕ) → While holds rec store rec₁ store₁ → Call rec₁ store₁ rec' store' → holds rec'
      → While holds rec store rec' store'

-- a message stands in the send list, or in the receive list, of a record's station
abbrev pub ToSend : Message → List ℕ → Type 0
ToSend m rec = Memᴰ m (all (station_in rec).sends)

abbrev pub Received : Message → List ℕ → Type 0
Received m rec = Memᴰ m (all (station_in rec).receives)

-- a message's payload: in its send place, or in its receive place
abbrev pub send_payload : List ℕ → Message → List ℕ
send_payload store m = in_place store m.place m.length

abbrev pub received_payload : List ℕ → Message → List ℕ
received_payload store m = in_place store (receive_places + m.place) m.length

-- from one store to the next, the payload of each message of the record's lists stays
pub record PayloadsStay (rec store store' : List ℕ) : Type 0 where
  pub to_send : (m : Message) → ToSend m rec → send_payload store' m ≡ send_payload store m
  pub received : (m : Message) → Received m rec → received_payload store' m ≡ received_payload store m
