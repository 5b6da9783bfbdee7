-- A good ring, in the page's words, and the file of form 1 that is written of it.
use Rattle.std.specs.Prelude.{ℕ, ◌/◌, ◌%◌, ◌^◌, ◌≤◌, ◌<◌, ◌≡◌, List, length, get_or, replicate}
use Rattle.codec.specs.Ring.{Ring, all_channels, filled, ring_file}

-- 48 bits, not zero, and the lowest bit of its first octet is 0
pub record GoodAddress (a : ℕ) : Type 0 where
  pub fits : a < 2 ^ 48
  pub not_zero : a ≡ 0 → ⊥
  pub one_station : a / 2 ^ 40 % 2 ≡ 0

-- N from 2 to 64, R from 1 to 15, and N good addresses, no two the same
pub record GoodRing (limit : ℕ) (members : List ℕ) : Type 0 where
  pub some_members : 2 ≤ length members
  pub most_members : length members ≤ 64
  pub some_retry : 1 ≤ limit
  pub most_retries : limit ≤ 15
  pub good : (i : ℕ) → i < length members → GoodAddress (get_or members i 0)
  pub apart : (i j : ℕ) → i < j → j < length members → get_or members i 0 ≡ get_or members j 0 → ⊥

-- as form 1 says it: version 1, and every channel open
abbrev pub ring_with : ℕ → List ℕ → Ring
ring_with limit members =
    record {
      form = 1;
      n = length members;
      limit = limit;
      version = 1;
      addresses = filled members;
      channels = filled (replicate (length members) all_channels);
    }

abbrev pub file_with : ℕ → List ℕ → List ℕ
file_with limit members = ring_file (ring_with limit members)
