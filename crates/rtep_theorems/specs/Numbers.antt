-- What a program hands from one call of the codec to the next.
use Rattle.std.specs.Prelude.{List, ℕ, take, drop, get_or}
use Rattle.packet_codec.specs.Packet.{information_in}

-- the packet at the start of what was written to: as many octets as the first number told says
abbrev pub written : List ℕ → List ℕ → List ℕ
written out told = take (get_or told 0 0) out

-- the information at its place in a packet: as many octets as the last of its eight numbers says
abbrev pub information_of : List ℕ → List ℕ → List ℕ
information_of packet values = information_in packet (get_or values 7 0)

-- of the numbers told of a ring: R, and the N addresses
abbrev pub limit_told : List ℕ → ℕ
limit_told told = get_or told 1 0

abbrev pub members_told : List ℕ → List ℕ
members_told told = take (get_or told 0 0) (drop 2 told)
