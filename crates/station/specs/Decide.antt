-- What a call decides, over the turn, the live set, the position and the head, before any list is touched.
use Rattle.std.specs.Prelude.{Bool, ℕ, eqb, ltb, Option, None, Some}
use Rattle.parts.specs.Choose.{pick}
use Rattle.parts.specs.Moves.{move_of, runs}
use Rattle.parts.specs.Messages.{best}
use Rattle.parts.specs.Live.{without, successor}
use Rattle.parts.specs.Frames.{number_of, flight, failing_of, Dispatch}
use Rattle.sent.specs.Round.{reply, start_round}
use Rattle.sent.specs.Resend.{resend}
use Rattle.station.specs.Stations.{state_of, awaited_of, quiet_turn, sending_turn, more_turn}
use Rattle.station.specs.Heard.{checks, acknowledged, stops, heard_message}
use Rattle.station.specs.Deeds.{verdict, refused, turned}
use Rattle.parts.specs.declared.moves.State.TheVariants.{Idle, Alone, Excluded}
use Rattle.parts.specs.declared.moves.Event.TheVariants.{Start, Heard, Timer}
use Rattle.parts.specs.declared.live.Live.{Live}
use Rattle.parts.specs.declared.list.Which.{Which}
use Rattle.parts.specs.declared.list.Which.TheVariants.{AnyWaiting, WaitingForOthers}
use Rattle.parts.specs.declared.list.Message.{Message}
use Rattle.parts.specs.declared.frame.Frame.{Frame}
use Rattle.parts.specs.declared.frame.Frame.TheVariants.{Token, Transmit, Information}
use Rattle.sent.specs.declared.round.Sight.{Sight}
use Rattle.station.specs.declared.station.Turn.{Turn}
use Rattle.station.specs.declared.station.Station.{Station}
use Rattle.station.specs.declared.rules.deeds.Blow.{Blow}
use Rattle.station.specs.declared.rules.deeds.Blow.TheVariants as blow
use Rattle.station.specs.declared.rules.deeds.Deeds.{Deeds}
use Rattle.station.specs.declared.rules.deeds.Verdict.{Verdict}
use Rattle.station.specs.declared.rules.deeds.Turned.{Turned}
use Rattle.station.specs.declared.rules.heard.Course.{Course}

-- ---- what the station looks at once `w` is struck: neither the message in flight nor those to `w` compete for the head

unfoldable pub live_without : Live → Option ℕ → Live
live_without l None = l
live_without l (Some p) = without l p

unfoldable pub competing : Option ℕ → Option ℕ → Which
competing f None = AnyWaiting f
competing f (Some p) = WaitingForOthers f p

abbrev pub sight_after : Station → Option ℕ → Sight
sight_after s w =
    record {
      own = s.own;
      live = live_without s.live w;
      next = successor (live_without s.live w) s.n s.own;
      head = best (competing (flight (awaited_of s)) w) s.sends;
    }

-- ---- a heard frame: 2, the acknowledgement

unfoldable pub rested : Turn → Bool → Turn
rested t acked = pick acked (quiet_turn t Idle) t

unfoldable pub lands_by : Turn → Bool → Option ℕ
lands_by t acked = pick acked (flight t.awaited) None

-- ---- 3, a failing station

unfoldable pub blow_at : Live → ℕ → ℕ → ℕ → Blow
blow_at l n own p =
    pick (eqb p own)
    (blow.Itself p)
    (pick (eqb (successor (without l p) n own) own) (blow.Last p) (blow.Another p))

unfoldable pub blow_of : Live → ℕ → ℕ → Option ℕ → Blow
blow_of l n own None = blow.Spares
blow_of l n own (Some p) = blow_at l n own p

-- the turn then
unfoldable pub closed : Turn → Blow → Turn
closed t blow.Spares = t
closed t (blow.Another p) = t
closed t (blow.Last p) = quiet_turn t Alone
closed t (blow.Itself p) = quiet_turn t Excluded

abbrev pub course_of : Station → Frame → Bool → Course
course_of s f acked =
    record {
      turn = closed (rested s.turn acked) (blow_of s.live s.n s.own (failing_of f));
      deeds = record {
        lands = lands_by s.turn acked;
        flight = flight (rested s.turn acked).awaited;
        blow = blow_of s.live s.n s.own (failing_of f);
        stores = None;
      };
    }

-- ---- 4 and 5

unfoldable pub to_store : Station → ℕ → Frame → Option Message
to_store s from (Token t) = None
to_store s from (Transmit t) = None
to_store s from (Information i) = Some (heard_message s from i)

abbrev pub stores_too : Deeds → Option Message → Deeds
stores_too d p = record { lands = d.lands; flight = d.flight; blow = d.blow; stores = p }

abbrev pub quietly : Course → Verdict
quietly k = verdict 0 k.turn None k.deeds

unfoldable pub replying : Station → Frame → ℕ → Course → Verdict
replying s f from k =
    verdict 0
    (sending_turn (Some (number_of f)) (reply (sight_after s (failing_of f)) f))
    (reply (sight_after s (failing_of f)) f)
    (stores_too k.deeds (to_store s from f))

unfoldable pub hearing : Station → Frame → ℕ → ℕ → Course → Verdict
hearing s f from to k = pick (stops s.own k.turn to (number_of f)) (quietly k) (replying s f from k)

-- after the table of moves and the checks
unfoldable pub decided : Station → Frame → ℕ → ℕ → Verdict
decided s f from to =
    pick (eqb (move_of (state_of s) Heard) runs)
    (pick (eqb (checks s from to) 0)
    (hearing s f from to (course_of s f (acknowledged s from (number_of f))))
    (refused s.turn (checks s from to)))
    (refused s.turn (move_of (state_of s) Heard))

-- as far as the turn goes
abbrev pub turned_by : Station → Frame → ℕ → ℕ → Turned
turned_by s f from to =
    record { alone = (decided s f from to).alone; turn = (decided s f from to).turn; sent = (decided s f from to).sent }

-- ---- the timer, and the start

-- the last timer of a frame to `to`
abbrev pub strikes_out : Station → ℕ → Turn → Dispatch → Verdict
strikes_out s to t d =
    verdict 0 t d (record { lands = None; flight = flight (awaited_of s); blow = blow.Last to; stores = None })

abbrev pub going_on : Station → ℕ → Dispatch → Verdict
going_on s to d = strikes_out s to (sending_turn s.turn.handled d) d

unfoldable pub last_timer : Station → ℕ → Frame → Verdict
last_timer s to f =
    pick (eqb (successor (without s.live to) s.n s.own) s.own)
    (strikes_out s to (quiet_turn s.turn Alone) None)
    (going_on s to (resend (sight_after s (Some to)) to f))

abbrev pub beginning : Station → Dispatch → Verdict
beginning s d = turned (sending_turn s.turn.handled d) d

unfoldable pub starting : Station → Verdict
starting s =
    pick (eqb s.own 0)
    (beginning s (start_round (sight_after s None) 0 None))
    (turned (quiet_turn s.turn Idle) None)

-- after the table of moves

unfoldable pub decided_start : Station → Verdict
decided_start s =
    pick (eqb (move_of (state_of s) Start) runs)
    (starting s)
    (refused s.turn (move_of (state_of s) Start))

unfoldable pub decided_silence : Station → ℕ → Frame → Verdict
decided_silence s to f =
    pick (ltb s.turn.retries s.limit)
    (turned (more_turn s.turn) (awaited_of s))
    (last_timer s to f)

unfoldable pub decided_awaiting : Station → Dispatch → Verdict
decided_awaiting s None = refused s.turn 0
decided_awaiting s (Some (frame, to)) = decided_silence s to frame

unfoldable pub decided_timer : Station → Verdict
decided_timer s =
    pick (eqb (move_of (state_of s) Timer) runs)
    (decided_awaiting s (awaited_of s))
    (refused s.turn (move_of (state_of s) Timer))
