-- The station's fields, and what a call answers.
use Rattle.std.specs.Prelude.{Bool, ℕ, ◌+◌, ◌-◌, leb, eqb, Option, None}
use Rattle.parts.specs.Choose.{pick}
use Rattle.parts.specs.Moves.{move_of, runs}
use Rattle.parts.specs.Messages.{none, best}
use Rattle.parts.specs.Live.{full, successor}
use Rattle.parts.specs.Frames.{flight, Dispatch}
use Rattle.parts.specs.declared.moves.State.{State}
use Rattle.parts.specs.declared.moves.State.TheVariants.{Offline, Waiting}
use Rattle.parts.specs.declared.moves.Event.{Event}
use Rattle.parts.specs.declared.live.Live.{Live}
use Rattle.parts.specs.declared.list.Messages.{Messages}
use Rattle.parts.specs.declared.list.Message.{Message}
use Rattle.parts.specs.declared.list.Which.TheVariants.{AnyWaiting}
use Rattle.station.specs.declared.station.Turn.{Turn}
use Rattle.station.specs.declared.station.Counts.{Counts}
use Rattle.station.specs.declared.station.Station.{Station}
use Rattle.station.specs.declared.station.Answer.{Answer}

-- ---- a station of its parts, and one part anew

abbrev pub station_by : ℕ → ℕ → ℕ → Live → Messages → Messages → Turn → Counts → Station
station_by n limit own live sends receives turn counts =
    record {
      n = n;
      limit = limit;
      own = own;
      live = live;
      sends = sends;
      receives = receives;
      turn = turn;
      counts = counts;
    }

abbrev pub with_turn : Station → Turn → Station
with_turn s t = station_by s.n s.limit s.own s.live s.sends s.receives t s.counts

abbrev pub with_live : Station → Live → Station
with_live s l = station_by s.n s.limit s.own l s.sends s.receives s.turn s.counts

abbrev pub with_sends : Station → Messages → Station
with_sends s l = station_by s.n s.limit s.own s.live l s.receives s.turn s.counts

abbrev pub with_receives : Station → Messages → Station
with_receives s l = station_by s.n s.limit s.own s.live s.sends l s.turn s.counts

abbrev pub with_counts : Station → Counts → Station
with_counts s c = station_by s.n s.limit s.own s.live s.sends s.receives s.turn c

abbrev pub with_lost : Station → ℕ → Station
with_lost s k = with_counts s (record { lost = k; givenup = s.counts.givenup })

abbrev pub with_given_up : Station → ℕ → Station
with_given_up s k = with_counts s (record { lost = s.counts.lost; givenup = k })

-- ---- what a station stands at

abbrev pub state_of : Station → State
state_of s = s.turn.state

abbrev pub awaited_of : Station → Dispatch
awaited_of s = s.turn.awaited

abbrev pub new_turn : Turn
new_turn = record { state = Offline; awaited = None; handled = None; retries = 0 }

abbrev pub new_counts : Counts
new_counts = record { lost = 0; givenup = 0 }

-- Offline at first; all N live; both lists empty; no number handled; no frame awaited; the counts at 0
abbrev pub made : ℕ → ℕ → ℕ → Station
made n limit own =
    station_by n limit own (full n) none none new_turn new_counts

-- in a state with no frame awaited; the retry count stays
abbrev pub quiet_turn : Turn → State → Turn
quiet_turn t st = record { state = st; awaited = None; handled = t.handled; retries = t.retries }

abbrev pub quiet : Station → State → Station
quiet s st = with_turn s (quiet_turn s.turn st)

-- a frame is sent: "the station becomes Waiting with retry count 0"
abbrev pub sending_turn : Option ℕ → Dispatch → Turn
sending_turn handled d = record { state = Waiting; awaited = d; handled = handled; retries = 0 }

abbrev pub sending : Station → Option ℕ → Dispatch → Station
sending s handled d = with_turn s (sending_turn handled d)

-- one retry more
abbrev pub more_turn : Turn → Turn
more_turn t = record { state = t.state; awaited = t.awaited; handled = t.handled; retries = t.retries + 1 }

-- "both counts stop at 4,294,967,295"
unfoldable pub add_up_to : ℕ → ℕ → ℕ
add_up_to c k = pick (leb k (4294967295 - c)) (c + k) 4294967295

-- k messages more were given up
abbrev pub counted : Station → ℕ → Station
counted s k = with_given_up s (add_up_to s.counts.givenup k)

-- nobody else is left
abbrev pub alone : Station → Bool
alone s = eqb (successor s.live s.n s.own) s.own

-- "the head is the waiting message with the highest priority, the earliest accepted among equals; the one in flight does not wait"
unfoldable pub head : Station → Option Message
head s = best (AnyWaiting (flight (awaited_of s))) s.sends

-- ---- answers

-- a number alone: the station as it came, nothing sent, nobody told
abbrev pub answered : Station → ℕ → Answer
answered s number = record { station = s; number = number; sent = None; struck = None; gone = none; payload = None }

-- the table of moves is looked up before a call acts
unfoldable pub moved : Station → Event → Answer → Answer
moved s e a = pick (eqb (move_of (state_of s) e) runs) a (answered s (move_of (state_of s) e))

-- a refusal's number where there is one, else what the call does
unfoldable pub unless : Station → ℕ → Answer → Answer
unless s number a = pick (eqb number 0) a (answered s number)
