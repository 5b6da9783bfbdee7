-- What is done to a station once it is decided: who leaves the send list, why and in which order; who is struck; what is stored.
use Rattle.std.specs.Prelude.{Bool, true, false, ℕ, leb, Option, None, Some, is_some}
use Rattle.std.specs.Option.{option_map_or}
use Rattle.parts.specs.Choose.{pick}
use Rattle.parts.specs.Messages.{none, pushed, split_by, best}
use Rattle.parts.specs.Live.{without}
use Rattle.parts.specs.Frames.{Dispatch}
use Rattle.parts.specs.Live.{newly}
use Rattle.station.specs.Stations.{station_by, with_turn, add_up_to}
use Rattle.parts.specs.declared.live.Live.{Live}
use Rattle.parts.specs.declared.list.Message.{Message}
use Rattle.parts.specs.declared.list.Messages.{Messages}
use Rattle.parts.specs.declared.list.Parts.{Parts}
use Rattle.parts.specs.declared.list.Which.TheVariants.{WaitingFor, HasPlace}
use Rattle.station.specs.declared.station.Turn.{Turn}
use Rattle.station.specs.declared.station.Station.{Station}
use Rattle.station.specs.declared.station.Answer.{Answer}
use Rattle.station.specs.declared.rules.deeds.Blow.{Blow}
use Rattle.station.specs.declared.rules.deeds.Blow.TheVariants.{Spares, Another, Last, Itself}
use Rattle.station.specs.declared.rules.deeds.Deeds.{Deeds}
use Rattle.station.specs.declared.rules.deeds.Verdict.{Verdict}
use Rattle.station.specs.declared.rules.deeds.Received.{Received}

-- ---- what is to be done

abbrev pub no_deeds : Deeds
no_deeds = record { lands = None; flight = None; blow = Spares; stores = None }

-- ---- whether the turn alone changes

abbrev pub spares : Blow → Bool
spares Spares = true
spares (Another p) = false
spares (Last p) = false
spares (Itself p) = false

abbrev pub stores_none : Option Message → Bool
stores_none None = true
stores_none (Some m) = false

unfoldable pub untouched : Deeds → Bool
untouched d = pick (is_some d.lands) false (pick (spares d.blow) (stores_none d.stores) false)

-- ---- what was decided

abbrev pub verdict : ℕ → Turn → Dispatch → Deeds → Verdict
verdict number t d e = record { alone = untouched e; turn = t; sent = d; number = number; deeds = e }

-- a number alone: the turn stays
abbrev pub refused : Turn → ℕ → Verdict
refused t number = verdict number t None no_deeds

-- the turn after the call and the frame to send, and nothing else
abbrev pub turned : Turn → Dispatch → Verdict
turned t d = verdict 0 t d no_deeds

-- ---- the send list

-- an acknowledged message in flight leaves
unfoldable pub landing : Option ℕ → Messages → Messages
landing f l = option_map_or (λ (p : ℕ). (split_by (HasPlace p) l).kept) f l

-- the message at a place is given up, after those that were before
unfoldable pub also_at : Parts → ℕ → Parts
also_at d p =
    option_map_or (λ (m : Message). record { kept = (split_by (HasPlace p) d.kept).kept; gone = pushed d.gone m }) (best (HasPlace p) d.kept) d

-- any message in flight is given up
unfoldable pub also_flight : Parts → Option ℕ → Parts
also_flight d f = option_map_or (also_at d) f d

abbrev pub all_stay : Messages → Parts
all_stay l = record { kept = l; gone = none }

-- those that are given up with a station that is struck: the waiting ones to it, where f is in flight
unfoldable pub waiters_leave : Blow → Option ℕ → Messages → Parts
waiters_leave Spares f l = all_stay l
waiters_leave (Another p) f l = split_by (WaitingFor f p) l
waiters_leave (Last p) f l = split_by (WaitingFor f p) l
waiters_leave (Itself p) f l = all_stay l

-- and the one in flight, where it goes too
unfoldable pub flight_leaves : Blow → Option ℕ → Option ℕ
flight_leaves Spares f = None
flight_leaves (Another p) f = None
flight_leaves (Last p) f = f
flight_leaves (Itself p) f = f

-- who is given up with a station that is struck, in order, where f is in flight
unfoldable pub leaving : Blow → Option ℕ → Messages → Parts
leaving Spares f l = all_stay l
leaving (Another p) f l = split_by (WaitingFor f p) l
leaving (Last p) f l = also_flight (split_by (WaitingFor f p) l) f
leaving (Itself p) f l = also_flight (all_stay l) f

-- who leaves and who stays
abbrev pub left : Messages → Deeds → Parts
left l d = leaving d.blow d.flight (landing d.lands l)

-- ---- the live set

unfoldable pub live_after : Live → Blow → Live
live_after l Spares = l
live_after l (Another p) = without l p
live_after l (Last p) = without l p
live_after l (Itself p) = without l p

unfoldable pub struck_by : Live → Blow → Option ℕ
struck_by l Spares = None
struck_by l (Another p) = newly l p
struck_by l (Last p) = newly l p
struck_by l (Itself p) = newly l p

-- ---- all of it

-- "stored, or counted lost if 16 are there"
unfoldable pub received_one : Messages → ℕ → Message → Received
received_one l lost m =
    pick (leb 16 l.len)
    (record { list = l; lost = add_up_to lost 1; payload = None })
    (record { list = pushed l m; lost = lost; payload = Some m })

unfoldable pub received : Messages → ℕ → Option Message → Received
received l lost None = record { list = l; lost = lost; payload = None }
received l lost (Some m) = received_one l lost m

-- the station once messages have left and one is stored
abbrev pub touched : Station → Verdict → Parts → Received → Station
touched s v d r =
    station_by s.n s.limit s.own
    (live_after s.live v.deeds.blow)
    d.kept
    r.list
    v.turn
    (record { lost = r.lost; givenup = add_up_to s.counts.givenup d.gone.len })

abbrev pub stores : Station → Verdict → Received
stores s v = received s.receives s.counts.lost v.deeds.stores

-- what was decided is done
unfoldable pub carried_out : Station → Verdict → Answer
carried_out s v =
    record {
      station = touched s v (left s.sends v.deeds) (stores s v);
      number = v.number;
      sent = v.sent;
      struck = struck_by s.live v.deeds.blow;
      gone = (left s.sends v.deeds).gone;
      payload = (stores s v).payload;
    }

-- the turn alone
abbrev pub turn_alone : Station → Verdict → Answer
turn_alone s v =
    record {
      station = with_turn s v.turn;
      number = v.number;
      sent = v.sent;
      struck = None;
      gone = none;
      payload = None;
    }

-- where the turn alone changes, no list is looked at
unfoldable pub done_by : Station → Verdict → Answer
done_by s v = pick v.alone (turn_alone s v) (carried_out s v)
