-- Calls of `run` one after the other over a capture, and the lines of the end one by one.
use Rattle.std.specs.Prelude.{◌≡◌, List, [], ◌∷◌, ◌++◌, ℕ, zero, suc, ◌-◌, ◌≤◌, length, get_or, take, drop}
use Rattle.bench.specs.Ring.{nobody}
use Rattle.day.specs.Printed.{station_text}
use Rattle.replay.specs.Running.{longest}
use Rattle.replay.specs.Replays.{course_of, begun_by, open_by, RanFrom}
use Rattle.replay.specs.declared.run.Replay.{Replay}
use Rattle.replay.specs.declared.run.Ran.{Ran}

-- what `begin` gives of a ring file and a capture
pub record BegunFrom (file s : List ℕ) (r : Replay) : Type 0 where
  pub course : course_of r ≡ begun_by file s
  pub first : r.at ≡ 0
  pub open_channels : r.channels ≡ open_by file s

-- one call: its out buffer before and behind it, where in it the call begins to write, and what the call answers
pub record RunCall : Type 0 where
  pub before : List ℕ
  pub at : ℕ
  pub ran : Ran
  pub behind : List ℕ

-- calls over the capture s, each from the replay that the one before it leaves: the first from r
abbrev pub CallsFrom : Replay → List ℕ → List RunCall → Type 0
CallsFrom r s [] = Unit {0}
CallsFrom r s (c ∷ cs) = RanFrom r s c.before c.at c.ran c.behind × CallsFrom c.ran.replay s cs

-- the replay that they leave
abbrev pub left_by : Replay → List RunCall → Replay
left_by r [] = r
left_by r (c ∷ cs) = left_by c.ran.replay cs

-- the octets that they write
abbrev pub written : RunCall → List ℕ
written c = take (c.ran.used - c.at) (drop c.at c.behind)

abbrev pub written_by : List RunCall → List ℕ
written_by [] = []
written_by (c ∷ cs) = written c ++ written_by cs

-- each has room for the lines of one record
abbrev pub AllRoomy : List RunCall → Type 0
AllRoomy [] = Unit {0}
AllRoomy (c ∷ cs) = (longest ≤ length c.before - c.at) × AllRoomy cs

-- what `put_station` writes for k stations from the position p on
unfoldable pub station_lines : Replay → ℕ → ℕ → List ℕ
station_lines r zero p = []
station_lines r (suc k) p = station_text r.n p (get_or r.stations p nobody) ++ station_lines r k (suc p)
