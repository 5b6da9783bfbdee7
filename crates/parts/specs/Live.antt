-- The live set, and "the successor of a station is the next live one in ring order, cyclically".
use Rattle.std.specs.Prelude.{ℕ, zero, suc, ◌+◌, ◌-◌, Bool, true, false, ◌++◌, replicate, nat_lt, slice_index_or, slice_set, Option, None, Some}
use Rattle.parts.specs.Choose.{pick}
use Rattle.parts.specs.declared.live.Live.{Live}

abbrev pub live_at : Live → ℕ → Bool
live_at l p = slice_index_or l.on p false

-- `p` is struck
abbrev pub without : Live → ℕ → Live
without l p = record { on = slice_set l.on p false }

-- how many of 64 positions a ring of n has
abbrev pub seats : ℕ → ℕ
seats n = pick (nat_lt n 64) n 64

-- all N
unfoldable pub full : ℕ → Live
full n = record { on = replicate (seats n) true ++ replicate (64 - seats n) false }

-- the position after p on a ring of n
unfoldable pub after : ℕ → ℕ → ℕ
after n p = pick (nat_lt (p + 1) n) (p + 1) 0

-- the first live one of the k positions after p, and `self` where none is
unfoldable pub seek : Live → ℕ → ℕ → ℕ → ℕ → ℕ
seek l n self zero p = self
seek l n self (suc k) p = pick (live_at l (after n p)) (after n p) (seek l n self k (after n p))

-- of the n - 1 others, in ring order
unfoldable pub successor : Live → ℕ → ℕ → ℕ
successor l n p = seek l n p (n - 1) p

-- a station is newly struck if it was live
unfoldable pub newly : Live → ℕ → Option ℕ
newly l p = pick (live_at l p) (Some p) None
