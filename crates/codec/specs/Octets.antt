-- Numbers in octets, the most significant first: once for every width.
use Rattle.std.specs.Prelude.{ℕ, zero, suc, ◌+◌, ◌*◌, ◌/◌, ◌%◌, ◌^◌, ◌<◌, cond, List, [], ◌∷◌, ◌++◌, eqb, length, take, drop, get_or, replicate}

-- each element of a list is an octet
abbrev pub Octets : List ℕ → Type 0
Octets s = (i : ℕ) → get_or s i 0 < 256

-- the low octets of a number, as many as the width says
abbrev pub octets : ℕ → ℕ → List ℕ
octets zero v = []
octets (suc k) v = v / 256 ^ k % 256 ∷ octets k v

-- the number that octets make
abbrev pub number : List ℕ → ℕ
number [] = 0
number (x ∷ xs) = x * 256 ^ length xs + number xs

-- the number in the octets of s from a place on, as many as the width says
abbrev pub number_at : List ℕ → ℕ → ℕ → ℕ
number_at s at k = number (take k (drop at s))

-- l with x laid over it from a place on: every other octet stays
abbrev pub laid : List ℕ → ℕ → List ℕ → List ℕ
laid l at x = take at l ++ (x ++ drop (at + length x) l)

abbrev pub zeros : ℕ → List ℕ
zeros k = replicate k 0

-- where the first of k octets from a place on stands that is not zero; past them where each is zero
abbrev pub first_nonzero : List ℕ → ℕ → ℕ → ℕ
first_nonzero s at zero = at
first_nonzero s at (suc k) = cond (eqb (get_or s at 0) 0) (first_nonzero s (suc at) k) at
