-- "Any number but 0 changes and sends nothing": the station is handed back as it came, no frame is sent, nobody is told, nothing
-- is given up, no payload moves. Assumes nothing.
use mathlib.Core.Path.{◌≡◌, refl, sym}
use mathlib.Core.Bool.{Bool, true, false}
use Prim.Native.Nat.{ℕ}
use native.Mathlib.Omega.{arith}
use lib.Dec.{eqb, ltb}
use Rattle.parts.specs.Choose.{pick}
use Rattle.parts.specs.Frames.{number_of, Dispatch}
use Rattle.station.specs.Strike.{Struck}
use Rattle.station.specs.Stations.{state_of, awaited_of, answered, moved, unless, alone}
use Rattle.station.specs.Start.{started, start_rule}
use Rattle.station.specs.Heard.{nothing_more, handle, respond, heard, frame_rule}
use Rattle.station.specs.Timer.{after_strike, silence, on_timer, timer_rule}
use Rattle.station.specs.Queue.{accepted, queue_rule}
use Rattle.station.specs.Take.{taking, take_rule}
use Rattle.parts.specs.declared.moves.State.TheVariants.{Idle}
use Rattle.parts.specs.declared.moves.Event.{Event}
use Rattle.parts.specs.declared.moves.Event.TheVariants.{Timer}
use Rattle.parts.specs.declared.frame.Frame.{Frame}
use Rattle.std.specs.Prelude.{None, Some}
use Rattle.parts.specs.declared.request.Request.{Request}
use Rattle.station.specs.declared.station.Station.{Station}
use Rattle.station.specs.declared.station.Answer.{Answer}
use Rattle.station.proofs.Laws.Moved.{moved_stops}
use Rattle.station_theorems.specs.Refusals.{NothingDone, Refuses, Idles}

-- ---- the law: what the table of moves and a refusal put before a call keeps this

pub number_alone : (s : Station) (number : ℕ) → NothingDone s (answered s number)
number_alone s number = record { station_kept = refl; no_frame = refl; nobody_struck = refl; none_given_up = refl; no_payload = refl }

pub refuses_pick : {s : Station} {a b : Answer} (t : Bool) → Refuses s a → Refuses s b → Refuses s (pick t a b)
unfolding pick
refuses_pick true f g = f
refuses_pick false f g = g

pub refuses_moved : (s : Station) (e : Event) {a : Answer} → Refuses s a → Refuses s (moved s e a)
unfolding moved
refuses_moved s e f = refuses_pick _ f (λ n. number_alone s _)

pub refuses_unless : (s : Station) (number : ℕ) {a : Answer} → Refuses s a → Refuses s (unless s number a)
unfolding unless
refuses_unless s number f = refuses_pick _ f (λ n. number_alone s _)

-- a call that is done gives 0
pub done : {s : Station} {a : Answer} → a.number ≡ 0 → Refuses s a
done z n = absurd (n z)

-- ---- what each call does gives 0

done_pick : (t : Bool) (a b : Answer) → a.number ≡ 0 → b.number ≡ 0 → (pick t a b).number ≡ 0
unfolding pick
done_pick true a b x y = x
done_pick false a b x y = y

start_done : (s : Station) → (started s).number ≡ 0
unfolding started
start_done s = done_pick (eqb s.own 0) _ _ refl refl

respond_done : (k : Struck) (from to : ℕ) (f : Frame) → (respond k from to f).number ≡ 0
unfolding respond handle
respond_done k from to f = done_pick (nothing_more k.station to (number_of f)) _ _ refl refl

heard_done : (s : Station) (f : Frame) (from to : ℕ) → (heard s f from to).number ≡ 0
unfolding heard
heard_done s f from to = respond_done _ from to f

strike_done : (k : Struck) (to : ℕ) (f : Frame) → (after_strike k to f).number ≡ 0
unfolding after_strike
strike_done k to f = done_pick (alone k.station) _ _ refl refl

silence_done : (s : Station) (to : ℕ) (f : Frame) → (silence s to f).number ≡ 0
unfolding silence
silence_done s to f = done_pick (ltb s.turn.retries s.limit) _ _ refl (strike_done _ to f)

timer_done : (s : Station) (d : Dispatch) → (on_timer s d).number ≡ 0
unfolding on_timer
timer_done s None = refl
timer_done s (Some (frame, to)) = silence_done s to frame

accept_done : (s : Station) (q : Request) → (accepted s q).number ≡ 0
unfolding accepted
accept_done s q = refl

-- ---- the five calls

pub start_refuses : (s : Station) → Refuses s (start_rule s)
unfolding start_rule
start_refuses s = refuses_moved s _ (done (start_done s))

pub frame_refuses : (s : Station) (f : Frame) (from to : ℕ) → Refuses s (frame_rule s f from to)
unfolding frame_rule
frame_refuses s f from to = refuses_moved s _ (refuses_unless s _ (done (heard_done s f from to)))

pub timer_refuses : (s : Station) → Refuses s (timer_rule s)
unfolding timer_rule
timer_refuses s = refuses_moved s _ (done (timer_done s (awaited_of s)))

pub queue_refuses : (s : Station) (q : Request) → Refuses s (queue_rule s q)
unfolding queue_rule
queue_refuses s q = refuses_moved s _ (refuses_unless s _ (done (accept_done s q)))

pub take_refuses : (s : Station) (channel room : ℕ) → Refuses s (take_rule s channel room)
unfolding take_rule taking
take_refuses s channel room = refuses_moved s _ (refuses_unless s _ (done refl))

-- ---- "does nothing and gives 0 when Idle"

timer_idle : (s : Station) → state_of s ≡ Idle → timer_rule s ≡ answered s 0
unfolding timer_rule
timer_idle s e = moved_stops s Timer _ (sym (rw e)) (λ z. omega arith)

pub timer_idles : (s : Station) → state_of s ≡ Idle → Idles s (timer_rule s)
timer_idles s e = rw (timer_idle s e) (record { gives_zero = refl; nothing_done = number_alone s 0 })
