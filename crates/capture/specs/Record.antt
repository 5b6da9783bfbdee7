-- A capture: records one after the other, each bit-packed, the most significant bit first.
use Rattle.std.specs.Prelude.{ℕ, ◌+◌, ◌*◌, ◌%◌, ◌^◌, ◌<◌, ◌≡◌, Bool, true, not, ◌&&◌, ◌||◌, List, [], ◌∷◌, ltb, leb, eqb, length, take, drop}
use Rattle.codec.specs.Order.{first_of}
use Rattle.codec.specs.Octets.{octets}
use Rattle.codec.specs.Bits.{bits}
use Rattle.parts.specs.declared.request.Request.{Request}
use Rattle.capture.specs.declared.record.Fields.{Fields}
use Rattle.capture.specs.declared.record.Event.{Event}
use Rattle.capture.specs.declared.record.Event.TheVariants.{Delivered, LostForAddressee, LostForAll, Timer, Queue}
use Rattle.capture.specs.declared.record.Read.{Read}
use Rattle.capture.specs.declared.record.Read.TheVariants.{End, Refused, Good}

-- ---- the whole

-- the octets of a record
abbrev pub record_length : ℕ
record_length = 5

-- the most octets of a capture
abbrev pub most_octets : ℕ
most_octets = 60000

-- "24 for a length not a multiple of 5 or over 60,000 octets"
abbrev pub capture_tests : List ℕ → List (Bool × ℕ)
capture_tests s = (not (eqb (length s % record_length) 0), 24) ∷ (ltb most_octets (length s), 24) ∷ []

unfoldable pub capture_number : List ℕ → ℕ
capture_number s = first_of 0 (capture_tests s)

-- ---- the fields of a record's octets: 3, 6, 6, 8, 3 and 11 bits, "then 3 zero bits"

unfoldable pub fields_of : List ℕ → Fields
fields_of r =
    record {
      kind = bits r 0 3;
      station = bits r 3 6;
      destination = bits r 9 6;
      priority = bits r 15 8;
      channel = bits r 23 3;
      length = bits r 26 11;
      zeros = bits r 37 3;
    }

-- ---- the checks

-- "a station or destination outside the ring"
abbrev pub outside : ℕ → Fields → Bool
outside n f = leb n f.station || leb n f.destination

-- whether a field is set that only a queue uses
abbrev pub queue_field_set : Fields → Bool
queue_field_set f = not (eqb f.destination 0) || (not (eqb f.priority 0) || (not (eqb f.channel 0) || not (eqb f.length 0)))

-- "Kinds 0 to 2 use no other field, 3 the station, 4 all; unused fields are zero."
abbrev pub unused_set : Fields → Bool
unused_set f = (ltb f.kind 3 && not (eqb f.station 0)) || (ltb f.kind 4 && queue_field_set f)

-- in a ring of n
abbrev pub record_tests : ℕ → Fields → List (Bool × ℕ)
record_tests n f =
    (ltb 4 f.kind, 25)
    ∷ (outside n f, 25)
    ∷ (unused_set f, 25)
    ∷ (not (eqb f.zeros 0), 25)
    ∷ []

unfoldable pub record_number : ℕ → Fields → ℕ
record_number n f = first_of 0 (record_tests n f)

-- ---- what a record says

-- a record says nothing of open channels
abbrev pub request_of : Fields → Request
request_of f = record { to = f.destination; priority = f.priority; channel = f.channel; length = f.length; listens = true }

-- "0 frame delivered, 1 frame lost for the addressee only, 2 frame lost for all, 3 timer of a station, 4 queue"
unfoldable pub event_of : Fields → Event
event_of f =
    first_of (Queue f.station (request_of f))
    ((eqb f.kind 0, Delivered)
    ∷ (eqb f.kind 1, LostForAddressee)
    ∷ (eqb f.kind 2, LostForAll)
    ∷ (eqb f.kind 3, Timer f.station)
    ∷ [])

-- the fields of the record at an offset
abbrev pub fields_at : List ℕ → ℕ → Fields
fields_at s at = fields_of (take record_length (drop at s))

-- the record at an offset, in a ring of n: none where no whole one is left, its refusal, or its event and the offset of the next
unfoldable pub read_record : ℕ → List ℕ → ℕ → Read
read_record n s at =
    first_of (Good (event_of (fields_at s at)) (at + record_length))
    ((ltb (length s) (at + record_length), End)
    ∷ (not (eqb (record_number n (fields_at s at)) 0), Refused (record_number n (fields_at s at)))
    ∷ [])

-- ---- writing

-- a kind and a station, and no other field set
abbrev pub plain_fields : ℕ → ℕ → Fields
plain_fields kind station = record { kind = kind; station = station; destination = 0; priority = 0; channel = 0; length = 0; zeros = 0 }

-- the fields of an event's record
unfoldable pub event_fields : Event → Fields
event_fields Delivered = plain_fields 0 0
event_fields LostForAddressee = plain_fields 1 0
event_fields LostForAll = plain_fields 2 0
event_fields (Timer station) = plain_fields 3 station
event_fields (Queue station q) =
    record { kind = 4; station = station; destination = q.to; priority = q.priority; channel = q.channel; length = q.length; zeros = 0 }

-- the fields side by side
unfoldable pub packed : Fields → ℕ
packed f =
    (((((f.kind * 2 ^ 6 + f.station) * 2 ^ 6 + f.destination) * 2 ^ 8 + f.priority) * 2 ^ 3 + f.channel) * 2 ^ 11 + f.length) * 2 ^ 3
    + f.zeros

unfoldable pub record_octets : Event → List ℕ
record_octets e = octets record_length (packed (event_fields e))

-- ---- what a record can hold

-- a queue: positions in the ring of n, a priority of 8 bits, a channel of 3, a length of 11
pub record QueueFits (n station : ℕ) (q : Request) : Type 0 where
  pub station_in : station < n
  pub to_in : q.to < n
  pub priority_fits : q.priority < 2 ^ 8
  pub channel_fits : q.channel < 2 ^ 3
  pub length_fits : q.length < 2 ^ 11

abbrev pub EventFits : ℕ → Event → Type 0
EventFits n Delivered = Unit {0}
EventFits n LostForAddressee = Unit {0}
EventFits n LostForAll = Unit {0}
EventFits n (Timer station) = station < n
EventFits n (Queue station q) = QueueFits n station q

-- "which channels a member listens on" is the ring file's to say, and no record's: as it is read, an event is one on an open channel
abbrev pub NotSaid : Event → Type 0
NotSaid Delivered = Unit {0}
NotSaid LostForAddressee = Unit {0}
NotSaid LostForAll = Unit {0}
NotSaid (Timer station) = Unit {0}
NotSaid (Queue station q) = q.listens ≡ true
