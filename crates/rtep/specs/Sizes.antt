-- What a driver asks before it lends memory: the layout's number, and how many octets each thing has that it lends.
use Rattle.std.specs.Prelude.{ℕ, ◌+◌, ◌*◌}
use Rattle.codec.specs.Ring.{file_octets}
use Rattle.records.specs.Layout.{place_length}

-- Each landing that changes the octets of a record or a store, the numbers of what is told, or what a call takes adds one.
abbrev pub layout_number : ℕ
layout_number = 3

-- the least out buffer holds the longest packet: information of a whole place behind its 8 octets of fields
abbrev pub out_length : ℕ
out_length = 8 + place_length

-- the longest ring file
abbrev pub longest_file : ℕ
longest_file = file_octets 2 64

-- ---- numbers of 64 bits

abbrev pub octets_of : ℕ → ℕ
octets_of numbers = 8 * numbers

-- start, frame and timer: four, and five for each of 16 messages
abbrev pub told_numbers : ℕ
told_numbers = 4 + 5 * 16

abbrev pub taken_numbers : ℕ
taken_numbers = 4

-- a packet
abbrev pub packet_numbers : ℕ
packet_numbers = 8

-- a ring: N, R, and 64 addresses
abbrev pub ring_numbers : ℕ
ring_numbers = 2 + 64
