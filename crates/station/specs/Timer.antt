-- "Timer while Waiting."
use Rattle.std.specs.Prelude.{ℕ, ltb, None, Some}
use Rattle.parts.specs.Choose.{pick}
use Rattle.parts.specs.Messages.{none}
use Rattle.parts.specs.Frames.{next, Dispatch}
use Rattle.sent.specs.Resend.{resend}
use Rattle.station.specs.Stations.{with_turn, more_turn, awaited_of, quiet, sending, alone, answered, moved}
use Rattle.station.specs.Sight.{sight}
use Rattle.station.specs.Strike.{Struck, strike, give_up_to, give_up_flight, told}
use Rattle.parts.specs.Live.{newly}
use Rattle.parts.specs.declared.moves.State.TheVariants.{Idle, Alone}
use Rattle.parts.specs.declared.moves.Event.TheVariants.{Timer}
use Rattle.parts.specs.declared.frame.Frame.{Frame}
use Rattle.parts.specs.declared.frame.Frame.TheVariants.{Token, Transmit, Information}
use Rattle.station.specs.declared.station.Station.{Station}
use Rattle.station.specs.declared.station.Answer.{Answer}

-- ---- below R: "the same frame goes again, same number, count one more"

abbrev pub once_more : Station → Station
once_more s = with_turn s (more_turn s.turn)

abbrev pub again : Station → Answer
again s =
    record
    { station = once_more s; number = 0; sent = awaited_of s; struck = None; gone = none; payload = None }

-- ---- the last timer, for a frame to `to`

-- the addressee is struck; waiting messages to it, then any message in flight, are given up
unfoldable pub unanswered : Station → ℕ → Struck
unanswered s to = told (give_up_flight (give_up_to (strike s to) to)) (newly s.live to)

-- "if alone: Alone, no frame"
abbrev pub left_alone : Struck → Answer
left_alone k =
    record
    { station = quiet k.station Alone; number = 0; sent = None; struck = k.struck; gone = k.gone; payload = None }

-- a frame of retry count 0
abbrev pub goes_on : Struck → Dispatch → Answer
goes_on k d =
    record {
      station = sending k.station k.station.turn.handled d;
      number = 0;
      sent = d;
      struck = k.struck;
      gone = k.gone;
      payload = None;
    }

unfoldable pub after_strike : Struck → ℕ → Frame → Answer
after_strike k to f = pick (alone k.station) (left_alone k) (goes_on k (resend (sight (quiet k.station Idle)) to f))

-- ---- the two

unfoldable pub silence : Station → ℕ → Frame → Answer
silence s to f = pick (ltb s.turn.retries s.limit) (again s) (after_strike (unanswered s to) to f)

-- a Waiting station awaits a frame; without one there is nothing to do
unfoldable pub on_timer : Station → Dispatch → Answer
on_timer s None = answered s 0
on_timer s (Some (frame, to)) = silence s to frame

unfoldable pub timer_rule : Station → Answer
timer_rule s = moved s Timer (on_timer s (awaited_of s))
