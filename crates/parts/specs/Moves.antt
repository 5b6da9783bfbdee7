-- "Table of moves, state by event."
use Rattle.std.specs.Prelude.{ℕ, Bool, ◌==◌}
use Rattle.parts.specs.declared.moves.State.{State}
use Rattle.parts.specs.declared.moves.State.TheVariants.{Offline, Idle, Waiting, Alone, Excluded}
use Rattle.parts.specs.declared.moves.Event.{Event}
use Rattle.parts.specs.declared.moves.Event.TheVariants.{Start, Heard, Timer, Queue, Take}

abbrev pub state_number : State → ℕ
state_number Offline = 0
state_number Idle = 1
state_number Waiting = 2
state_number Alone = 3
state_number Excluded = 4

abbrev pub event_number : Event → ℕ
event_number Start = 0
event_number Heard = 1
event_number Timer = 2
event_number Queue = 3
event_number Take = 4

-- one of five, by the event
abbrev pub on : Event → ℕ → ℕ → ℕ → ℕ → ℕ → ℕ
on Start a b c d e = a
on Heard a b c d e = b
on Timer a b c d e = c
on Queue a b c d e = d
on Take a b c d e = e

-- the entry of a call that runs; any other is the number that it gives back, and nothing happens
abbrev pub runs : ℕ
runs = 100

-- start runs when Offline, else 23; frame and queue run when Idle or Waiting, else 22; the timer runs when Waiting, does nothing
-- and gives 0 when Idle, else 22; take always runs
--                        Start Heard Timer Queue Take
abbrev pub move_of : State → Event → ℕ
move_of Offline e = on e runs 22 22 22 runs
move_of Idle e = on e 23 runs 0 runs runs
move_of Waiting e = on e 23 runs runs runs runs
move_of Alone e = on e 23 22 22 22 runs
move_of Excluded e = on e 23 22 22 22 runs

-- the states that a rule asks about
abbrev pub is_idle : State → Bool
is_idle s = state_number s == 1

abbrev pub is_waiting : State → Bool
is_waiting s = state_number s == 2

abbrev pub is_excluded : State → Bool
is_excluded s = state_number s == 4
