-- The packet: its fields and their places, its checks in their order, and what reading and writing give.
use Rattle.std.specs.Prelude.{ℕ, zero, suc, ◌+◌, ◌-◌, ◌*◌, ◌/◌, ◌^◌, ◌<◌, max, ◌≡◌, Bool, true, false, cond, not, List, [], ◌∷◌, ◌++◌, ltb, leb, eqb, length, take, drop, get_or}
use Rattle.codec.specs.Order.{first_of}
use Rattle.codec.specs.Sizes.{most_information}
use Rattle.codec.specs.Octets.{octets, number_at, laid, zeros}
use Rattle.codec.specs.Ring.{is_member}
use Rattle.packet_codec.specs.declared.packet.Short.{Short}
use Rattle.packet_codec.specs.declared.packet.Head.{Head}
use Rattle.packet_codec.specs.declared.packet.Packet.{Packet}
use Rattle.packet_codec.specs.declared.packet.Packet.TheVariants.{Token, Transmit, Information}
use Rattle.packet_codec.specs.declared.fields.Looked.{Looked}
use Rattle.packet_codec.specs.declared.fields.Looked.TheVariants.{Sound, Bad}
use Rattle.packet_codec.specs.declared.reading.Refusal.{Refusal}
use Rattle.packet_codec.specs.declared.reading.Refusal.TheVariants.{Size, Identifier, BadAt}
use Rattle.packet_codec.specs.declared.reading.Read.{Read}
use Rattle.packet_codec.specs.declared.reading.Read.TheVariants.{Refused, Good}

-- ---- the packet's constants, with most_information

-- the octets of a short packet, and the least that any packet has
abbrev pub short_packet : ℕ
short_packet = 46

-- the most octets that any packet has
abbrev pub longest_packet : ℕ
longest_packet = 1500

-- ---- constructors

abbrev pub token : ℕ → ℕ → ℕ → ℕ → ℕ → Packet
token priority number master failing named = Token (record { priority = priority; number = number; master = master; failing = failing; named = named })

-- a transmit token's failing station is always zero
abbrev pub transmit : ℕ → ℕ → ℕ → ℕ → Packet
transmit priority number master named = Transmit (record { priority = priority; number = number; master = master; failing = 0; named = named })

abbrev pub information : ℕ → ℕ → ℕ → ℕ → Packet
information priority number channel length = Information (record { priority = priority; number = number; channel = channel; length = length })

-- ---- sizes

abbrev pub information_length : Packet → ℕ
information_length (Token p) = 0
information_length (Transmit p) = 0
information_length (Information h) = h.length

-- where the zeros begin that go up to the length of a short packet
abbrev pub pad_from : Packet → ℕ
pad_from (Token p) = 22
pad_from (Transmit p) = 22
pad_from (Information h) = 8 + h.length

abbrev pub size : Packet → ℕ
size p = max short_packet (pad_from p)

-- octets on the wire
abbrev pub wire_octets : Packet → ℕ
wire_octets (Token p) = 72
wire_octets (Transmit p) = 72
wire_octets (Information h) = max 72 (34 + h.length)

-- n octets of information are that part of the packet's octets
unfoldable pub information_in : List ℕ → ℕ → List ℕ
information_in s n = cond (leb (8 + n) (length s)) (take n (drop 8 s)) []

abbrev pub information_part : Packet → List ℕ → List ℕ
information_part p s = information_in s (information_length p)

-- ---- the octets, in wire order

abbrev pub start_octets : ℕ → ℕ → ℕ → List ℕ
start_octets identifier priority number = octets 1 identifier ++ (octets 1 priority ++ octets 2 number)

abbrev pub addresses_octets : ℕ → ℕ → ℕ → List ℕ
addresses_octets master failing named = octets 6 master ++ (octets 6 failing ++ octets 6 named)

abbrev pub short_octets : ℕ → Short → List ℕ
short_octets identifier p = start_octets identifier p.priority p.number ++ (addresses_octets p.master p.failing p.named ++ zeros 24)

abbrev pub head_octets : Head → List ℕ
head_octets h = start_octets 3 h.priority h.number ++ (octets 2 h.channel ++ octets 2 h.length)

abbrev pub information_octets : Head → List ℕ → List ℕ
information_octets h info = head_octets h ++ (info ++ zeros (short_packet - (8 + length info)))

unfoldable pub packet_octets : Packet → List ℕ → List ℕ
packet_octets (Token p) info = short_octets 1 p
packet_octets (Transmit p) info = short_octets 2 p
packet_octets (Information h) info = information_octets h info

-- ---- the fields of octets

abbrev pub short_of : List ℕ → Short
short_of s = record { priority = get_or s 1 0; number = number_at s 2 2; master = number_at s 4 6; failing = number_at s 10 6; named = number_at s 16 6 }

abbrev pub head_of : List ℕ → Head
head_of s = record { priority = get_or s 1 0; number = number_at s 2 2; channel = number_at s 4 2; length = number_at s 6 2 }

abbrev pub identifier : List ℕ → ℕ
identifier s = get_or s 0 0

unfoldable pub packet_of : List ℕ → Packet
packet_of s = cond (eqb (identifier s) 1) (Token (short_of s)) (cond (eqb (identifier s) 2) (Transmit (short_of s)) (Information (head_of s)))

-- ---- the checks behind 12: fields in wire order, then padding, then length, each with its place

-- an address of 48 bits that is a member's
unfoldable pub belongs : List ℕ → ℕ → Bool
belongs ring a = cond (ltb a (2 ^ 48)) (is_member ring a) false

-- a failing station of zero means none
unfoldable pub failing_bad : List ℕ → ℕ → Bool
failing_bad ring failing = cond (eqb failing 0) false (not (belongs ring failing))

abbrev pub field_tests : List ℕ → Packet → List (Bool × Looked)
field_tests ring (Token p) =
    (not (belongs ring p.master), Bad 4)
    ∷ (failing_bad ring p.failing, Bad 10)
    ∷ (not (belongs ring p.named), Bad 16)
    ∷ []
field_tests ring (Transmit p) =
    (eqb p.priority 0, Bad 1)
    ∷ (not (belongs ring p.master), Bad 4)
    ∷ (not (eqb p.failing 0), Bad 10)
    ∷ (not (belongs ring p.named), Bad 16)
    ∷ []
field_tests ring (Information h) =
    (eqb h.priority 0, Bad 1)
    ∷ (ltb 7 h.channel, Bad 4)
    ∷ (ltb most_information h.length, Bad 6)
    ∷ []

-- each of k pad octets from a place on
unfoldable pub pad_tests : List ℕ → ℕ → ℕ → List (Bool × Looked)
pad_tests s from zero = []
pad_tests s from (suc k) = (not (eqb (get_or s from 0) 0), Bad from) ∷ pad_tests s (suc from) k

abbrev pub length_tests : ℕ → ℕ → ℕ → List (Bool × Looked)
length_tests is called from = (not (eqb is called), Bad from) ∷ []

-- the place that a wrong length is laid to
abbrev pub length_from : Packet → ℕ
length_from (Token p) = 0
length_from (Transmit p) = 0
length_from (Information h) = 6

abbrev pub rest_tests : List ℕ → Packet → List (Bool × Looked)
rest_tests s p = pad_tests s (pad_from p) (short_packet - pad_from p) ++ length_tests (length s) (size p) (length_from p)

abbrev pub read_tests : List ℕ → List ℕ → Packet → List (Bool × Looked)
read_tests ring s p = field_tests ring p ++ rest_tests s p

abbrev pub write_tests : List ℕ → Packet → ℕ → List (Bool × Looked)
write_tests ring p info = field_tests ring p ++ length_tests info (information_length p) (length_from p)

-- a place below n, where there is one
abbrev pub Below : ℕ → Looked → Type 0
Below n Sound = Unit {0}
Below n (Bad from) = from < n

-- what more looking gives after a first look: the first bad place stays
abbrev pub then_looked : Looked → Looked → Looked
then_looked Sound more = more
then_looked (Bad from) more = Bad from

-- the page's answer for each case: whether the fields call for 12
abbrev pub is_bad : Looked → Bool
is_bad Sound = false
is_bad (Bad from) = true

-- ---- reading and writing

-- what the look at the fields makes of a packet
abbrev pub looked_read : Packet → Looked → Read
looked_read p Sound = Good p
looked_read p (Bad from) = Refused (BadAt from)

unfoldable pub read_packet : List ℕ → List ℕ → Read
read_packet ring s =
    first_of (looked_read (packet_of s) (first_of Sound (read_tests ring s (packet_of s))))
    ((ltb (length s) short_packet, Refused Size)
    ∷ (ltb longest_packet (length s), Refused Size)
    ∷ (ltb (identifier s) 1, Refused Identifier)
    ∷ (ltb 3 (identifier s), Refused Identifier)
    ∷ [])

-- the page's number for each case, and the offset, which 12 alone has: 0 beside any other number
abbrev pub read_answer : Read → ℕ × ℕ
read_answer (Refused Size) = (10, 0)
read_answer (Refused Identifier) = (11, 0)
read_answer (Refused (BadAt offset)) = (12, offset)
read_answer (Good p) = (0, 0)

-- both as the one number that a call gives back: the page's number in the lower 16 bits, the offset in the upper
abbrev pub read_number : Read → ℕ
read_number r = (read_answer r).0 + 65536 * (read_answer r).1

-- the number that a look at the fields calls for
abbrev pub look_number : Looked → ℕ
look_number Sound = 0
look_number (Bad from) = read_number (Refused (BadAt from))

-- the refusal that a number stands for
unfoldable pub refusal_in : ℕ → Refusal
refusal_in number = cond (eqb number 10) Size (cond (eqb number 11) Identifier (BadAt (number / 65536)))

unfoldable pub write_refusal : List ℕ → Packet → ℕ → ℕ → ℕ
write_refusal ring p info room =
    first_of 0
    ((ltb room longest_packet, 9)
    ∷ (is_bad (first_of Sound (write_tests ring p info)), 12)
    ∷ [])

-- a packet that is fit to write
abbrev pub Fit : List ℕ → Packet → List ℕ → Type 0
Fit ring p info = first_of Sound (write_tests ring p (length info)) ≡ Sound

-- what a call with the number r leaves of a buffer: the new octets where r is 0, else the old ones
abbrev pub kept : ℕ → List ℕ → List ℕ → List ℕ
kept r old new = cond (eqb r 0) new old

pub record Written (ring : List ℕ) (p : Packet) (info out : List ℕ) (r : ℕ) (out' : List ℕ) : Type 0 where
  pub answer : r ≡ write_refusal ring p (length info) (length out)
  pub out_is : out' ≡ kept r out (laid out 0 (packet_octets p info))
