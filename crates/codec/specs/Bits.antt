-- Bits, the most significant of the first octet first.
use Rattle.std.specs.Prelude.{ℕ, zero, suc, ◌+◌, ◌-◌, ◌*◌, ◌/◌, ◌%◌, ◌^◌, List, get_or}

-- the bit at a position
abbrev pub bit : List ℕ → ℕ → ℕ
bit s j = get_or s (j / 8) 0 / 2 ^ (7 - j % 8) % 2

-- the number in the bits from a position on, as many as the width says
unfoldable pub bits : List ℕ → ℕ → ℕ → ℕ
bits s at zero = 0
bits s at (suc k) = bits s at k * 2 + bit s (at + k)
