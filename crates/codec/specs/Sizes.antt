-- Sizes that stations speak of as packets do.
use Rattle.std.specs.Prelude.{ℕ}

-- the most octets of information
abbrev pub most_information : ℕ
most_information = 1492
