-- The record's fields: what a number in it stands for, and the number that stands for it. A field is good where writing what it is
-- read as gives it back.
use Rattle.std.specs.Prelude.{ℕ, zero, suc, ◌+◌, ◌-◌, ◌*◌, min, max, Bool, true, false, not, List, [], ◌∷◌, ◌++◌, ltb, eqb, replicate, drop, Option, None, Some}
use Rattle.codec.specs.Octets.{octets, number_at, first_nonzero}
use Rattle.parts.specs.Choose.{pick, all_of}
use Rattle.parts.specs.Moves.{state_number}
use Rattle.parts.specs.Messages.{blank}
use Rattle.records.specs.Layout.{handled_at, handled_number_at, state_at, retries_at, awaited_at, to_in, number_in, priority_in, master_in, failing_in, named_in, channel_in, place_in, length_in, items_in, message_priority_in, message_channel_in, message_place_in, message_length_in, message_length, list_length, live_at}
use Rattle.records.specs.Tables.{tab, joined}
use Rattle.records.specs.declared.slip.Slip.{Slip}
use Rattle.parts.specs.declared.moves.State.{State}
use Rattle.parts.specs.declared.moves.State.TheVariants.{Offline, Idle, Waiting, Alone, Excluded}
use Rattle.parts.specs.declared.live.Live.{Live}
use Rattle.parts.specs.declared.list.Message.{Message}
use Rattle.parts.specs.declared.list.Messages.{Messages}
use Rattle.parts.specs.declared.frame.TokenFrame.{TokenFrame}
use Rattle.parts.specs.declared.frame.TransmitFrame.{TransmitFrame}
use Rattle.parts.specs.declared.frame.InformationFrame.{InformationFrame}
use Rattle.parts.specs.declared.frame.Frame.{Frame}
use Rattle.parts.specs.declared.frame.Frame.TheVariants.{Token, Transmit, Information}
use Rattle.parts.specs.Frames.{Dispatch}
use Rattle.station.specs.declared.station.Turn.{Turn}

-- ---- the state: Offline 0, Idle 1, Waiting 2, Alone 3, Excluded 4

unfoldable pub state_from : ℕ → State
state_from k =
    pick (eqb k 0) Offline
    (pick (eqb k 1) Idle
    (pick (eqb k 2) Waiting
    (pick (eqb k 3) Alone
    Excluded)))

abbrev pub state_good : ℕ → Bool
state_good k = eqb (state_number (state_from k)) k

-- ---- the last handled number: 1 and the number, or 0 and 0

abbrev pub handled_flag : Option ℕ → ℕ
handled_flag None = 0
handled_flag (Some k) = 1

abbrev pub handled_number : Option ℕ → ℕ
handled_number None = 0
handled_number (Some k) = k

unfoldable pub handled_from : ℕ → ℕ → Option ℕ
handled_from flag k = pick (eqb flag 0) None (Some k)

abbrev pub handled_good : ℕ → ℕ → Bool
handled_good flag k = pick (eqb (handled_flag (handled_from flag k)) flag) (eqb (handled_number (handled_from flag k)) k) false

abbrev pub handled_octets : Option ℕ → List ℕ
handled_octets h = octets 1 (handled_flag h) ++ octets 2 (handled_number h)

-- ---- an awaited frame as ten numbers: kind (0 none, 1 token, 2 transmit token, 3 information), addressee, number, priority,
-- master, failing station (0 none, else its position and one), named station, channel, place, length; 0 where the kind has none

abbrev pub no_slip : Slip
no_slip =
    record { kind = 0; to = 0; number = 0; priority = 0; master = 0; failing = 0; named = 0; channel = 0; place = 0; length = 0 }

abbrev pub whom_number : Option ℕ → ℕ
whom_number None = 0
whom_number (Some p) = p + 1

unfoldable pub whom_from : ℕ → Option ℕ
whom_from k = pick (eqb k 0) None (pick (ltb 256 k) None (Some (k - 1)))

unfoldable pub slip_to : ℕ → Frame → Slip
slip_to to (Token t) =
    record
    { kind = 1; to = to; number = t.number; priority = t.priority; master = t.master; failing = whom_number t.failing; named = t.named; channel = 0; place = 0; length = 0 }
slip_to to (Transmit t) =
    record
    { kind = 2; to = to; number = t.number; priority = t.priority; master = t.master; failing = 0; named = t.named; channel = 0; place = 0; length = 0 }
slip_to to (Information i) =
    record
    { kind = 3; to = to; number = i.number; priority = i.priority; master = 0; failing = 0; named = 0; channel = i.channel; place = i.place; length = i.length }

unfoldable pub slip_of : Dispatch → Slip
slip_of None = no_slip
slip_of (Some (frame, to)) = slip_to to frame

abbrev pub token_from : Slip → TokenFrame
token_from p = record { number = p.number; priority = p.priority; master = p.master; failing = whom_from p.failing; named = p.named }

abbrev pub transmit_from : Slip → TransmitFrame
transmit_from p = record { number = p.number; priority = p.priority; master = p.master; named = p.named }

abbrev pub information_from : Slip → InformationFrame
information_from p = record { number = p.number; priority = p.priority; channel = p.channel; length = p.length; place = p.place }

unfoldable pub dispatch_from : Slip → Dispatch
dispatch_from p =
    pick (eqb p.kind 0) None
    (pick (eqb p.kind 1) (Some (Token (token_from p), p.to))
    (pick (eqb p.kind 2) (Some (Transmit (transmit_from p), p.to))
    (Some (Information (information_from p), p.to))))

unfoldable pub same_slip : Slip → Slip → Bool
same_slip p q =
    all_of
    (eqb p.kind q.kind
    ∷ eqb p.to q.to
    ∷ eqb p.number q.number
    ∷ eqb p.priority q.priority
    ∷ eqb p.master q.master
    ∷ eqb p.failing q.failing
    ∷ eqb p.named q.named
    ∷ eqb p.channel q.channel
    ∷ eqb p.place q.place
    ∷ eqb p.length q.length
    ∷ [])

abbrev pub slip_good : Slip → Bool
slip_good p = same_slip (slip_of (dispatch_from p)) p

abbrev pub slip_at : List ℕ → ℕ → Slip
slip_at s at =
    record {
      kind = number_at s at 1;
      to = number_at s (at + to_in) 1;
      number = number_at s (at + number_in) 2;
      priority = number_at s (at + priority_in) 1;
      master = number_at s (at + master_in) 1;
      failing = number_at s (at + failing_in) 2;
      named = number_at s (at + named_in) 1;
      channel = number_at s (at + channel_in) 1;
      place = number_at s (at + place_in) 1;
      length = number_at s (at + length_in) 2;
    }

-- kind, addressee, number, priority
abbrev pub slip_start : Slip → List ℕ
slip_start p = (octets 1 p.kind ++ octets 1 p.to) ++ (octets 2 p.number ++ octets 1 p.priority)

-- master, failing, named
abbrev pub slip_stations : Slip → List ℕ
slip_stations p = octets 1 p.master ++ (octets 2 p.failing ++ octets 1 p.named)

-- channel, place, length
abbrev pub slip_message : Slip → List ℕ
slip_message p = octets 1 p.channel ++ (octets 1 p.place ++ octets 2 p.length)

abbrev pub slip_octets : Slip → List ℕ
slip_octets p = slip_start p ++ (slip_stations p ++ slip_message p)

-- ---- the turn

abbrev pub turn_at : List ℕ → Turn
turn_at s =
    record {
      state = state_from (number_at s state_at 1);
      awaited = dispatch_from (slip_at s awaited_at);
      handled = handled_from (number_at s handled_at 1) (number_at s handled_number_at 2);
      retries = number_at s retries_at 1;
    }

unfoldable pub turn_good : List ℕ → Bool
turn_good s =
    all_of
    (state_good (number_at s state_at 1)
    ∷ handled_good (number_at s handled_at 1) (number_at s handled_number_at 2)
    ∷ slip_good (slip_at s awaited_at)
    ∷ [])

-- own position, state, retry count; handled; awaited
abbrev pub turn_octets : ℕ → Turn → List ℕ
turn_octets own t =
    (octets 1 own ++ (octets 1 (state_number t.state) ++ octets 1 t.retries))
    ++ (handled_octets t.handled ++ slip_octets (slip_of t.awaited))

-- ---- the live set: an octet for each position, 1 if it is live

abbrev pub flag_from : ℕ → Bool
flag_from x = not (eqb x 0)

abbrev pub flag_number : Bool → ℕ
flag_number true = 1
flag_number false = 0

abbrev pub flag_good : ℕ → Bool
flag_good x = eqb (flag_number (flag_from x)) x

abbrev pub flag_octets : Bool → List ℕ
flag_octets on = octets 1 (flag_number on)

abbrev pub flag_at : List ℕ → ℕ → Bool
flag_at s p = flag_from (number_at s (live_at + p) 1)

abbrev pub live_from : List ℕ → Live
live_from s = record { on = tab (flag_at s) 64 }

-- each of k octets from a place on
unfoldable pub flags_good : List ℕ → ℕ → ℕ → Bool
flags_good s at zero = true
flags_good s at (suc k) = pick (flag_good (number_at s at 1)) (flags_good s (suc at) k) false

-- the greatest of k octets from a place on
unfoldable pub greatest : List ℕ → ℕ → ℕ → ℕ
greatest s at zero = 0
greatest s at (suc k) = max (number_at s at 1) (greatest s (suc at) k)

abbrev pub live_octets : Live → List ℕ
live_octets l = joined flag_octets l.on

-- of n live seats
abbrev pub ones : ℕ → List ℕ
ones n = replicate n 1

-- ---- a message: other end, priority, channel, place, length

abbrev pub message_at : List ℕ → ℕ → Message
message_at s at =
    record {
      other = number_at s at 1;
      priority = number_at s (at + message_priority_in) 1;
      channel = number_at s (at + message_channel_in) 1;
      length = number_at s (at + message_length_in) 2;
      place = number_at s (at + message_place_in) 1;
    }

abbrev pub message_octets : Message → List ℕ
message_octets m =
    (octets 1 m.other ++ (octets 1 m.priority ++ octets 1 m.channel)) ++ (octets 1 m.place ++ octets 2 m.length)

-- ---- a list: how many, then 16 messages

abbrev pub item_at : List ℕ → ℕ → ℕ → Message
item_at s at i = message_at s (at + i * message_length)

abbrev pub items_at : List ℕ → ℕ → List Message
items_at s at = tab (item_at s at) 16

abbrev pub messages_at : List ℕ → ℕ → Messages
messages_at s at = record { items = items_at s (at + items_in); len = number_at s at 1 }

-- how many messages it holds: 16 where it says more
abbrev pub count_at : List ℕ → ℕ → ℕ
count_at s at = min 16 (number_at s at 1)

-- the first k messages, then blanks
abbrev pub first_items : List ℕ → ℕ → ℕ → List Message
first_items s at k = tab (item_at s at) k ++ drop k (replicate 16 blank)

-- where its messages end
abbrev pub rest_at : List ℕ → ℕ → ℕ
rest_at s at = at + items_in + count_at s at * message_length

-- only zeros follow them
unfoldable pub rest_good : List ℕ → ℕ → Bool
rest_good s at = eqb (first_nonzero s (rest_at s at) (at + list_length - rest_at s at)) (at + list_length)

abbrev pub items_octets : List Message → List ℕ
items_octets ms = joined message_octets ms

abbrev pub messages_octets : Messages → List ℕ
messages_octets l = octets 1 l.len ++ items_octets l.items
