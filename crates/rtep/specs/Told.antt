-- What a driver in C is told: for each answer of the codec the page's number and values.
use Rattle.std.specs.Prelude.{ℕ, ◌≡◌, Bool, cond, not, List, [], ◌∷◌, ltb, eqb, length, take, get_or, Option, None, Some}
use Rattle.codec.specs.Order.{first_of}
use Rattle.codec.specs.Octets.{laid}
use Rattle.codec.specs.Ring.{Ring, read_ring, form_refusal, formed}
use Rattle.packet_codec.specs.Packet.{longest_packet, size, wire_octets, packet_octets, read_packet, read_number, write_refusal, kept}
use Rattle.packet_codec.specs.declared.packet.Short.{Short}
use Rattle.packet_codec.specs.declared.packet.Head.{Head}
use Rattle.packet_codec.specs.declared.packet.Packet.{Packet}
use Rattle.packet_codec.specs.declared.packet.Packet.TheVariants.{Token, Transmit, Information}
use Rattle.packet_codec.specs.declared.reading.Read.{Read}
use Rattle.packet_codec.specs.declared.reading.Read.TheVariants.{Refused, Good}

-- ---- a ring file

-- N, R and the addresses in ring order; numbers beyond stay
unfoldable pub told_ring : List ℕ → Ring → List ℕ
told_ring told ring = laid told 0 (ring.n ∷ ring.limit ∷ take ring.n ring.addresses)

pub record RingTold (file told : List ℕ) (r : ℕ) (told' : List ℕ) : Type 0 where
  pub answer : r ≡ (read_ring file).number
  pub told_is : told' ≡ kept r told (told_ring told (read_ring file).ring)

-- a ring file in the form that is asked for: its octets, and how many they are
pub record FormTold (asked : ℕ) (file out told : List ℕ) (r : ℕ) (out' told' : List ℕ) : Type 0 where
  pub answer : r ≡ form_refusal asked file
  pub out_is : out' ≡ kept r out (laid out 0 (formed asked file))
  pub told_is : told' ≡ kept r told (length (formed asked file) ∷ [])

-- ---- a packet as eight numbers

abbrev pub short_values : ℕ → Short → List ℕ
short_values identifier p = identifier ∷ p.priority ∷ p.number ∷ p.master ∷ p.failing ∷ p.named ∷ 0 ∷ 0 ∷ []

abbrev pub head_values : Head → List ℕ
head_values h = 3 ∷ h.priority ∷ h.number ∷ 0 ∷ 0 ∷ 0 ∷ h.channel ∷ h.length ∷ []

unfoldable pub values_of : Packet → List ℕ
values_of (Token p) = short_values 1 p
values_of (Transmit p) = short_values 2 p
values_of (Information h) = head_values h

abbrev pub read_told : Read → List ℕ → List ℕ
read_told (Refused why) told = told
read_told (Good p) told = values_of p

pub record ReadTold (ring packet told : List ℕ) (r : ℕ) (told' : List ℕ) : Type 0 where
  pub answer : r ≡ read_number (read_packet ring packet)
  pub told_is : told' ≡ read_told (read_packet ring packet) told

-- ---- and back: nothing where a number is out of its field's range, or is not 0 where the kind has no such field

abbrev pub short_tests : ℕ → ℕ → List (Bool × Option Packet)
short_tests channel length = (not (eqb channel 0), None) ∷ (not (eqb length 0), None) ∷ []

unfoldable pub short_made : ℕ → ℕ → ℕ → ℕ → ℕ → ℕ → ℕ → ℕ → Option Packet
short_made identifier priority number master failing named channel length =
    let p : Short = record { priority = priority; number = number; master = master; failing = failing; named = named } in
    first_of (cond (eqb identifier 1) (Some (Token p)) (Some (Transmit p))) (short_tests channel length)

abbrev pub head_tests : ℕ → ℕ → ℕ → ℕ → ℕ → List (Bool × Option Packet)
head_tests master failing named channel length =
    (not (eqb master 0), None)
    ∷ (not (eqb failing 0), None)
    ∷ (not (eqb named 0), None)
    ∷ (ltb 65535 channel, None)
    ∷ (ltb 65535 length, None)
    ∷ []

unfoldable pub head_made : ℕ → ℕ → ℕ → ℕ → ℕ → ℕ → ℕ → Option Packet
head_made priority number master failing named channel length =
    first_of (Some (Information (record { priority = priority; number = number; channel = channel; length = length }))) (head_tests master failing named channel length)

abbrev pub start_tests : ℕ → ℕ → ℕ → List (Bool × Option Packet)
start_tests identifier priority number =
    (ltb identifier 1, None) ∷ (ltb 3 identifier, None) ∷ (ltb 255 priority, None) ∷ (ltb 65535 number, None) ∷ []

unfoldable pub made_of : List ℕ → Option Packet
made_of v =
    first_of
    (cond (eqb (get_or v 0 0) 3)
    (head_made (get_or v 1 0) (get_or v 2 0) (get_or v 3 0) (get_or v 4 0) (get_or v 5 0) (get_or v 6 0) (get_or v 7 0))
    (short_made (get_or v 0 0) (get_or v 1 0) (get_or v 2 0) (get_or v 3 0) (get_or v 4 0) (get_or v 5 0) (get_or v 6 0) (get_or v 7 0)))
    (start_tests (get_or v 0 0) (get_or v 1 0) (get_or v 2 0))

-- 9, then 12
unfoldable pub made_refusal : List ℕ → Option Packet → ℕ → ℕ → ℕ
made_refusal ring None n room = first_of 12 ((ltb room longest_packet, 9) ∷ [])
made_refusal ring (Some p) n room = write_refusal ring p n room

abbrev pub made_octets : Option Packet → List ℕ → List ℕ
made_octets None info = []
made_octets (Some p) info = packet_octets p info

-- the packet's octets, and those on the wire
abbrev pub made_sizes : Option Packet → List ℕ
made_sizes None = []
made_sizes (Some p) = size p ∷ wire_octets p ∷ []

pub record WriteTold (ring : List ℕ) (made : Option Packet) (info out told : List ℕ) (r : ℕ) (out' told' : List ℕ) : Type 0 where
  pub answer : r ≡ made_refusal ring made (length info) (length out)
  pub out_is : out' ≡ kept r out (laid out 0 (made_octets made info))
  pub told_is : told' ≡ kept r told (made_sizes made)
