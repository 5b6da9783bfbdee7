-- Where a packet is bad: 12 comes with the offset of the first of its tests that holds.
use Rattle.std.specs.Prelude.{◌≡◌, Bool, true, false, List, [], ◌∷◌, ◌⊎◌, ℕ, ◌/◌, ◌%◌, ◌<◌, ◌≤◌, length}
use Rattle.packet_codec.specs.declared.fields.Looked.{Looked}
use Rattle.packet_codec.specs.declared.fields.Looked.TheVariants.{Bad}
use Rattle.packet_codec.specs.declared.reading.Read.{Read}
use Rattle.packet_codec.specs.Packet.{longest_packet, packet_of, read_tests, read_answer, read_number}

-- a test with this offset holds, and all before it fail
abbrev pub FirstBad : List (Bool × Looked) → ℕ → Type 0
FirstBad [] offset = ⊥
FirstBad (t ∷ ts) offset = ((t.0 ≡ true) × (t.1 ≡ Bad offset)) ⊎ ((t.0 ≡ false) × FirstBad ts offset)

-- so of a packet's tests, fields in wire order, then padding, then length; and the offset lies within the packet, of at most 1,500 octets
pub record BadPlace (ring s : List ℕ) (offset : ℕ) : Type 0 where
  pub first : FirstBad (read_tests ring s (packet_of s)) offset
  pub within : offset < length s
  pub longest : length s ≤ longest_packet

-- the one number that a call gives back holds both: the page's number in its lower 16 bits, the offset in its upper
pub record Both (r : Read) : Type 0 where
  pub number : read_number r % 65536 ≡ (read_answer r).0
  pub offset : read_number r / 65536 ≡ (read_answer r).1

-- so of a number that is given back for a packet: 12 has the offset, and no other number has any
pub record Located (ring s : List ℕ) (r : ℕ) : Type 0 where
  pub placed : r % 65536 ≡ 12 → BadPlace ring s (r / 65536)
  pub none : (r % 65536 ≡ 12 → ⊥) → r / 65536 ≡ 0
