-- What is read of a capture.
use Rattle.std.specs.Prelude.{◌≡◌, List, [], ◌∷◌, ℕ}
use Rattle.capture.specs.Record.{EventFits}
use Rattle.replay.specs.Runs.{Record, good, bad}

-- a record of a ring of n: an event with its positions in the ring and its fields in range, or refused with 25
abbrev pub IsRead : ℕ → Record → Type 0
IsRead n (good e) = EventFits n e
IsRead n (bad number) = number ≡ 25

abbrev pub AllRead : ℕ → List Record → Type 0
AllRead n [] = Unit {0}
AllRead n (r ∷ rs) = IsRead n r × AllRead n rs
