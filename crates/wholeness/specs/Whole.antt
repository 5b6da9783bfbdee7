-- "A record is whole if ...", for all but the record's octets.
use Rattle.std.specs.Prelude.{Bool, true, false, not, ◌||◌, List, [], ◌∷◌, ◌++◌, ℕ, suc, drop, ltb, leb, eqb, Option, None, Some}
use Rattle.codec.specs.Sizes.{most_information}
use Rattle.parts.specs.Choose.{pick, all_of, every}
use Rattle.parts.specs.Moves.{is_waiting, is_excluded}
use Rattle.parts.specs.Messages.{all, flies, has_place, best}
use Rattle.parts.specs.Live.{live_at}
use Rattle.parts.specs.Frames.{fit, flight, Dispatch}
use Rattle.station.specs.Stations.{state_of, awaited_of, alone}
use Rattle.parts.specs.declared.moves.State.{State}
use Rattle.parts.specs.declared.moves.State.TheVariants.{Offline, Idle, Waiting, Alone, Excluded}
use Rattle.parts.specs.declared.live.Live.{Live}
use Rattle.parts.specs.declared.list.Message.{Message}
use Rattle.parts.specs.declared.list.Messages.{Messages}
use Rattle.parts.specs.declared.list.Which.TheVariants.{HasPlace}
use Rattle.parts.specs.declared.frame.InformationFrame.{InformationFrame}
use Rattle.parts.specs.declared.frame.Frame.{Frame}
use Rattle.parts.specs.declared.frame.Frame.TheVariants.{Token, Transmit, Information}
use Rattle.station.specs.declared.station.Turn.{Turn}
use Rattle.station.specs.declared.station.Station.{Station}

-- ---- its ring is good: N is 2 to 64, R is 1 to 15, this station is a member

unfoldable pub ring_good : ℕ → ℕ → ℕ → Bool
ring_good n limit own = all_of (leb 2 n ∷ leb n 64 ∷ leb 1 limit ∷ leb limit 15 ∷ ltb own n ∷ [])

-- ---- the live set holds members only: this station when Idle, Waiting or Alone, not when Excluded; all when Offline, no other
-- when Alone; at least one other when Idle or Waiting

unfoldable pub own_seat : State → Bool → Bool
own_seat Offline on = on
own_seat Idle on = on
own_seat Waiting on = on
own_seat Alone on = on
own_seat Excluded on = not on

unfoldable pub other_seat : State → Bool → Bool
other_seat Offline on = on
other_seat Idle on = true
other_seat Waiting on = true
other_seat Alone on = not on
other_seat Excluded on = true

-- the position p of the ring, live or not
unfoldable pub seat_good : State → ℕ → ℕ → ℕ → Bool → Bool
seat_good st n own p on = pick (leb n p) (not on) (pick (eqb p own) (own_seat st on) (other_seat st on))

-- the positions from p on
unfoldable pub seats_good : State → ℕ → ℕ → ℕ → List Bool → Bool
seats_good st n own p [] = true
seats_good st n own p (on ∷ ons) = pick (seat_good st n own p on) (seats_good st n own (suc p) ons) false

unfoldable pub company_good : State → Bool → Bool
company_good Offline a = true
company_good Idle a = not a
company_good Waiting a = not a
company_good Alone a = true
company_good Excluded a = true

-- ---- each list has at most 16 messages, each with its own place, priority, channel and length in range, and another member as
-- its other end; the slots behind them are blank

unfoldable pub message_good : ℕ → ℕ → Message → Bool
message_good n own m =
    all_of
    (ltb m.place 16
    ∷ not (eqb m.priority 0)
    ∷ leb m.channel 7
    ∷ leb m.length most_information
    ∷ ltb m.other n
    ∷ not (eqb m.other own)
    ∷ [])

-- a place of the store, as `message_good` asks first
abbrev pub placed : Message → Bool
placed m = ltb m.place 16

-- no message has a place of one before it
unfoldable pub apart : List Message → List Message → Bool
apart before [] = true
apart before (m ∷ ms) = pick (has_place before m.place) false (apart (before ++ m ∷ []) ms)

unfoldable pub is_blank : Message → Bool
is_blank m =
    all_of
    (eqb m.other 0 ∷ eqb m.priority 0 ∷ eqb m.channel 0 ∷ eqb m.length 0 ∷ eqb m.place 0 ∷ [])

abbrev pub rest_blank : Messages → Bool
rest_blank l = every is_blank (drop l.len l.items)

unfoldable pub list_good : ℕ → ℕ → Messages → Bool
list_good n own l =
    all_of
    (leb l.len 16
    ∷ every (message_good n own) (all l)
    ∷ apart [] (all l)
    ∷ rest_blank l
    ∷ [])

unfoldable pub lists_good : Station → Bool
lists_good s = all_of (list_good s.n s.own s.sends ∷ list_good s.n s.own s.receives ∷ [])

-- ---- waiting messages go to live stations, unless Excluded

unfoldable pub waits_well : Live → Option ℕ → Message → Bool
waits_well l f m = flies f m || live_at l m.other

unfoldable pub waiters_good : State → Live → Option ℕ → List Message → Bool
waiters_good st l f ms = pick (is_excluded st) true (every (waits_well l f) ms)

-- ---- a frame is awaited exactly when Waiting, fit to write and to another member; a message is in flight exactly when that frame
-- is its information frame

unfoldable pub same_message : Option Message → ℕ → InformationFrame → Bool
same_message None to i = false
same_message (Some m) to i =
    all_of
    (eqb m.other to
    ∷ eqb m.priority i.priority
    ∷ eqb m.channel i.channel
    ∷ eqb m.length i.length
    ∷ [])

unfoldable pub carried : Messages → Frame → ℕ → Bool
carried l (Token t) to = true
carried l (Transmit t) to = true
carried l (Information i) to = same_message (best (HasPlace i.place) l) to i

unfoldable pub awaited_good : State → ℕ → ℕ → Messages → Dispatch → Bool
awaited_good st n own l None = not (is_waiting st)
awaited_good st n own l (Some (frame, to)) =
    all_of (is_waiting st ∷ fit n frame ∷ ltb to n ∷ not (eqb to own) ∷ carried l frame to ∷ [])

-- ---- the turn: the retry count is at most R

abbrev pub turn_fits : Turn → ℕ → Bool
turn_fits t limit = all_of (leb t.retries limit ∷ [])

-- ---- all of it

unfoldable pub whole : Station → Bool
whole s =
    all_of
    (ring_good s.n s.limit s.own
    ∷ seats_good (state_of s) s.n s.own 0 s.live.on
    ∷ company_good (state_of s) (alone s)
    ∷ lists_good s
    ∷ waiters_good (state_of s) s.live (flight (awaited_of s)) (all s.sends)
    ∷ turn_fits s.turn s.limit
    ∷ awaited_good (state_of s) s.n s.own s.sends (awaited_of s)
    ∷ [])
