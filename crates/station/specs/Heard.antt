-- "Heard frame, in this order": checks; acknowledgement; failing station; what stops; what is sent.
use Rattle.std.specs.Prelude.{Bool, true, false, not, [], ◌∷◌, ℕ, leb, eqb, Option, None, Some}
use Rattle.std.specs.Option.{option_map_or}
use Rattle.parts.specs.Choose.{pick}
use Rattle.codec.specs.Order.{first_of}
use Rattle.parts.specs.Moves.{is_idle, is_waiting}
use Rattle.parts.specs.Messages.{none, all, pushed, lowest_free}
use Rattle.parts.specs.Live.{live_at}
use Rattle.parts.specs.Frames.{number_of, flight, failing_of}
use Rattle.parts.specs.Refusals.{heard_refusal}
use Rattle.station.specs.Stations.{state_of, awaited_of, with_receives, with_lost, quiet, sending, add_up_to, alone, moved, unless}
use Rattle.station.specs.Sight.{sight}
use Rattle.sent.specs.Round.{reply}
use Rattle.station.specs.Strike.{Struck, strike, nothing_gone, give_up_to, leave, told, stopped}
use Rattle.parts.specs.Frames.{acknowledges, Dispatch}
use Rattle.parts.specs.Live.{newly}
use Rattle.parts.specs.declared.moves.State.TheVariants.{Idle, Alone, Excluded}
use Rattle.parts.specs.declared.moves.Event.TheVariants.{Heard}
use Rattle.parts.specs.declared.list.Message.{Message}
use Rattle.parts.specs.declared.frame.InformationFrame.{InformationFrame}
use Rattle.parts.specs.declared.frame.Frame.{Frame}
use Rattle.parts.specs.declared.frame.Frame.TheVariants.{Token, Transmit, Information}
use Rattle.station.specs.declared.station.Turn.{Turn}
use Rattle.station.specs.declared.station.Station.{Station}
use Rattle.station.specs.declared.station.Answer.{Answer}

-- ---- 1. checks

abbrev pub checks : Station → ℕ → ℕ → ℕ
checks s from to = heard_refusal s.n s.own (live_at s.live from) from to

-- ---- 2. acknowledgement

-- only a Waiting station is acknowledged
unfoldable pub acknowledged : Station → ℕ → ℕ → Bool
acknowledged s from k = pick (is_waiting (state_of s)) (acknowledges (awaited_of s) from k) false

-- a message in flight leaves the list
unfoldable pub landed : Station → Station
landed s = option_map_or (leave s) (flight (awaited_of s)) s

-- "it becomes Idle, and a message in flight leaves the list"
unfoldable pub acknowledge : Station → ℕ → ℕ → Station
acknowledge s from k = pick (acknowledged s from k) (quiet (landed s) Idle) s

-- ---- 3. a token's failing station

-- another station: waiting messages to it are given up, and if nobody else is left: Alone
unfoldable pub strike_other : Station → ℕ → Option ℕ → Struck
strike_other s p w =
    pick (alone (strike s p))
    (stopped (give_up_to (strike s p) p) w Alone)
    (told (give_up_to (strike s p) p) w)

-- "if it is this station: Excluded, waiting messages stay"
unfoldable pub strike_heard : Station → ℕ → Struck
strike_heard s p =
    pick (eqb p s.own)
    (stopped (nothing_gone (strike s p)) (newly s.live p) Excluded)
    (strike_other s p (newly s.live p))

unfoldable pub failed : Station → Option ℕ → Struck
failed s None = record { station = s; struck = None; gone = none }
failed s (Some p) = strike_heard s p

-- ---- 4. what stops: Excluded and Alone; addressed elsewhere; number equal to the last handled one; still Waiting

unfoldable pub is_last : Option ℕ → ℕ → Bool
is_last None k = false
is_last (Some j) k = eqb j k

abbrev pub stops : ℕ → Turn → ℕ → ℕ → Bool
stops own t to k =
    first_of false
    ((not (eqb to own), true)
    ∷ (is_last t.handled k, true)
    ∷ (not (is_idle t.state), true)
    ∷ [])

unfoldable pub nothing_more : Station → ℕ → ℕ → Bool
nothing_more s to k = stops s.own s.turn to k

-- ---- 5. the number is recorded as handled, and a frame is sent with the next number

-- a station after storing a heard frame, and the message that was stored
pub record Stored : Type 0 where
  pub station : Station
  pub payload : Option Message

-- the message of a heard information frame: its other end is the sender; in the lowest free place
abbrev pub heard_message : Station → ℕ → InformationFrame → Message
heard_message s from i =
    record { other = from; priority = i.priority; channel = i.channel; length = i.length; place = lowest_free (all s.receives) }

-- "stored, or counted lost if 16 are there"
unfoldable pub receive : Station → Message → Stored
receive s m =
    pick (leb 16 s.receives.len)
    (record { station = with_lost s (add_up_to s.counts.lost 1); payload = None })
    (record { station = with_receives s (pushed s.receives m); payload = Some m })

-- who stores a heard frame: the addressee, if it is information
unfoldable pub stored : Station → ℕ → Frame → Stored
stored s from (Token t) = record { station = s; payload = None }
stored s from (Transmit t) = record { station = s; payload = None }
stored s from (Information i) = receive s (heard_message s from i)

abbrev pub send_on : Struck → Stored → ℕ → Dispatch → Answer
send_on k t number d =
    record {
      station = sending t.station (Some number) d;
      number = 0;
      sent = d;
      struck = k.struck;
      gone = k.gone;
      payload = t.payload;
    }

unfoldable pub handle : Struck → Stored → Frame → Answer
handle k t f = send_on k t (number_of f) (reply (sight t.station) f)

-- nothing more: what was told, and no frame
abbrev pub silent : Struck → Answer
silent k =
    record { station = k.station; number = 0; sent = None; struck = k.struck; gone = k.gone; payload = None }

unfoldable pub respond : Struck → ℕ → ℕ → Frame → Answer
respond k from to f = pick (nothing_more k.station to (number_of f)) (silent k) (handle k (stored k.station from f) f)

-- ---- the five in order

unfoldable pub heard : Station → Frame → ℕ → ℕ → Answer
heard s f from to =
    let acknowledging : Station = acknowledge s from (number_of f) in
    let striking : Struck = failed acknowledging (failing_of f) in
    respond striking from to f

unfoldable pub frame_rule : Station → Frame → ℕ → ℕ → Answer
frame_rule s f from to = moved s Heard (unless s (checks s from to) (heard s f from to))
