-- The record's layout: the place of each field, said once. A field begins where the one before it ends: at that one's place plus its
-- width, so that no number but the widths stands here.
use Rattle.std.specs.Prelude.{ℕ, ◌+◌, ◌*◌}
use Rattle.codec.specs.Ring.{file_octets}
use Rattle.codec.specs.Sizes.{most_information}

-- ---- in an awaited frame, from its first octet on

abbrev pub kind_in : ℕ
kind_in = 0

abbrev pub to_in : ℕ
to_in = kind_in + 1

abbrev pub number_in : ℕ
number_in = to_in + 1

abbrev pub priority_in : ℕ
priority_in = number_in + 2

abbrev pub master_in : ℕ
master_in = priority_in + 1

abbrev pub failing_in : ℕ
failing_in = master_in + 1

abbrev pub named_in : ℕ
named_in = failing_in + 2

abbrev pub channel_in : ℕ
channel_in = named_in + 1

abbrev pub place_in : ℕ
place_in = channel_in + 1

abbrev pub length_in : ℕ
length_in = place_in + 1

abbrev pub slip_length : ℕ
slip_length = length_in + 2

-- ---- in a message

abbrev pub other_in : ℕ
other_in = 0

abbrev pub message_priority_in : ℕ
message_priority_in = other_in + 1

abbrev pub message_channel_in : ℕ
message_channel_in = message_priority_in + 1

abbrev pub message_place_in : ℕ
message_place_in = message_channel_in + 1

abbrev pub message_length_in : ℕ
message_length_in = message_place_in + 1

abbrev pub message_length : ℕ
message_length = message_length_in + 2

-- ---- in a list: how many messages, then 16 of them

abbrev pub items_in : ℕ
items_in = 1

-- the 16 messages
abbrev pub items_length : ℕ
items_length = 16 * message_length

abbrev pub list_length : ℕ
list_length = items_in + items_length

-- ---- the parts of a record

-- the ring file's octets, and zeros behind them up to the longest ring file's length
abbrev pub ring_room : ℕ
ring_room = file_octets 2 64

abbrev pub own_at : ℕ
own_at = ring_room

abbrev pub state_at : ℕ
state_at = own_at + 1

abbrev pub retries_at : ℕ
retries_at = state_at + 1

-- whether a number was handled, and the last handled one
abbrev pub handled_at : ℕ
handled_at = retries_at + 1

abbrev pub handled_number_at : ℕ
handled_number_at = handled_at + 1

-- the awaited frame
abbrev pub awaited_at : ℕ
awaited_at = handled_number_at + 2

abbrev pub lost_at : ℕ
lost_at = awaited_at + slip_length

abbrev pub given_up_at : ℕ
given_up_at = lost_at + 4

-- an octet for each of 64 ring positions
abbrev pub live_at : ℕ
live_at = given_up_at + 4

abbrev pub sends_at : ℕ
sends_at = live_at + 64

abbrev pub receives_at : ℕ
receives_at = sends_at + list_length

-- all of it
abbrev pub record_length : ℕ
record_length = receives_at + list_length

-- ---- the store

abbrev pub place_length : ℕ
place_length = most_information

-- receive places follow the 16 send places
abbrev pub receive_places : ℕ
receive_places = 16

abbrev pub store_length : ℕ
store_length = 2 * receive_places * place_length
