-- Laws of a station's calls on a ring: it keeps its place, awaits what it sends, and sends nothing on a frame addressed elsewhere.
-- Assumes nothing.
use mathlib.Core.Path.{◌≡◌, refl, ap, ◌∙◌}
use mathlib.Core.Bool.{true, not}
use Prim.Native.Nat.{ℕ}
use lib.Dec.{ltb, leb, eqb}
use borrow.Author.Tests.{ne_eqb}
use Rattle.parts.proofs.Laws.Choose.{map_or_keeps}
use Rattle.parts.specs.Frames.{number_of, failing_of, flight, Dispatch}
use Rattle.station.specs.Strike.{Loss, Struck, strike, nothing_gone, give_up_to, give_up_at, give_up_flight, message_at, stopped}
use Rattle.station.specs.Stations.{awaited_of, alone, answered, moved, unless}
use Rattle.parts.specs.Live.{newly}
use Rattle.station.specs.Heard.{Stored, acknowledged, landed, acknowledge, strike_other, strike_heard, failed, nothing_more, receive, stored, handle, respond, heard, frame_rule}
use Rattle.station.specs.Timer.{unanswered, after_strike, silence, on_timer, timer_rule}
use Rattle.station.specs.Queue.{accepted, queue_rule}
use Rattle.parts.specs.declared.moves.Event.{Event}
use Rattle.parts.specs.declared.moves.State.{State}
use Rattle.std.specs.Prelude.{Option, None, Some}
use Rattle.std.proofs.lemmas.Option.{none-some}
use Rattle.parts.specs.declared.frame.Frame.{Frame}
use Rattle.parts.specs.declared.frame.Frame.TheVariants.{Token, Transmit, Information}
use Rattle.parts.specs.declared.request.Request.{Request}
use Rattle.station.specs.declared.station.Station.{Station}
use Rattle.station.specs.declared.station.Answer.{Answer}
use Rattle.station_theorems.proofs.Laws.Small.{pick_keeps}
use Rattle.bench.proofs.Laws.StandsBy.{respond_elsewhere}

-- ---- the same place on the same ring

pub record Seat (s t : Station) : Type 0 where
  pub same_n : t.n ≡ s.n
  pub same_limit : t.limit ≡ s.limit
  pub same_own : t.own ≡ s.own

same_seat : (s : Station) → Seat s s
same_seat s = record { same_n = refl; same_limit = refl; same_own = refl }

then_seat : {s t u : Station} → Seat s t → Seat t u → Seat s u
then_seat a b = record { same_n = b.same_n ∙ a.same_n; same_limit = b.same_limit ∙ a.same_limit; same_own = b.same_own ∙ a.same_own }

flight_seat : (l : Loss) → Seat l.station (give_up_flight l).station
unfolding give_up_flight give_up_at
flight_seat l =
    let here : Loss → Type 0 = λ (m : Loss). Seat l.station m.station in
    let left : Seat l.station l.station = same_seat l.station in
    map_or_keeps here _ (flight (awaited_of l.station)) l
    (λ p. map_or_keeps here _ (message_at l.station p) l (λ m. record { same_n = refl; same_limit = refl; same_own = refl }) left)
    left

up_to_seat : (s : Station) (p q : ℕ) → Seat s (give_up_to (strike s p) q).station
unfolding give_up_to
up_to_seat s p q = record { same_n = refl; same_limit = refl; same_own = refl }

stopped_seat : (l : Loss) (w : Option ℕ) (st : State) → Seat l.station (stopped l w st).station
stopped_seat l w st =
    let h = flight_seat l in
    record { same_n = h.same_n; same_limit = h.same_limit; same_own = h.same_own }

acknowledge_seat : (s : Station) (from k : ℕ) → Seat s (acknowledge s from k)
unfolding acknowledge landed
acknowledge_seat s from k =
    let h : Seat s (landed s) =
    map_or_keeps (Seat s) _ (flight (awaited_of s)) s (λ p. record { same_n = refl; same_limit = refl; same_own = refl }) (same_seat s) in
    pick_keeps (Seat s) (acknowledged s from k) _ s
    (record { same_n = h.same_n; same_limit = h.same_limit; same_own = h.same_own })
    (same_seat s)

pub failed_seat : (s : Station) (w : Option ℕ) → Seat s (failed s w).station
unfolding failed strike_heard strike_other
failed_seat s None = same_seat s
failed_seat s (Some p) =
    let here : Struck → Type 0 = λ (k : Struck). Seat s k.station in
    let struck : Seat s (strike s p) = record { same_n = refl; same_limit = refl; same_own = refl } in
    let told = up_to_seat s p p in
    pick_keeps here (eqb p s.own) _ _
    (then_seat struck (stopped_seat (nothing_gone (strike s p)) (newly s.live p) _))
    (pick_keeps here (alone (strike s p)) _ _
    (then_seat told (stopped_seat (give_up_to (strike s p) p) (newly s.live p) _))
    (record { same_n = told.same_n; same_limit = told.same_limit; same_own = told.same_own }))

stored_seat : (s : Station) (from : ℕ) (f : Frame) → Seat s (stored s from f).station
unfolding stored receive
stored_seat s from (Token t) = same_seat s
stored_seat s from (Transmit t) = same_seat s
stored_seat s from (Information i) =
    pick_keeps (λ (t : Stored). Seat s t.station) (leb 16 s.receives.len) _ _
    (record { same_n = refl; same_limit = refl; same_own = refl })
    (record { same_n = refl; same_limit = refl; same_own = refl })

-- ---- what is sent is awaited

-- a call's answer: the station in its place, awaiting what it sends
pub record Placed (s : Station) (a : Answer) : Type 0 where
  pub seat : Seat s a.station
  pub awaits : (f : Frame) (to : ℕ) → a.sent ≡ Some (f, to) → awaited_of a.station ≡ Some (f, to)

pub placed_answered : (s : Station) (number : ℕ) → Placed s (answered s number)
placed_answered s number = record { seat = same_seat s; awaits = λ f to e. absurd (none-some _ e) }

placed_moved : (s : Station) (e : Event) (a : Answer) → Placed s a → Placed s (moved s e a)
unfolding moved
placed_moved s e a h = pick_keeps (Placed s) _ a _ h (placed_answered s _)

placed_unless : (s : Station) (number : ℕ) (a : Answer) → Placed s a → Placed s (unless s number a)
unfolding unless
placed_unless s number a h = pick_keeps (Placed s) _ a _ h (placed_answered s _)

respond_placed : (s : Station) (k : Struck) (from to : ℕ) (f : Frame) → Seat s k.station → Placed s (respond k from to f)
unfolding respond handle
respond_placed s k from to f h =
    let t = then_seat h (stored_seat k.station from f) in
    pick_keeps (Placed s) (nothing_more k.station to (number_of f)) _ _
    (record { seat = h; awaits = λ g p e. absurd (none-some _ e) })
    (record { seat = record { same_n = t.same_n; same_limit = t.same_limit; same_own = t.same_own }; awaits = λ g p e. e })

-- the station that responds to a frame
pub heard_seat : (s : Station) (f : Frame) (from : ℕ) → Seat s (failed (acknowledge s from (number_of f)) (failing_of f)).station
heard_seat s f from = then_seat (acknowledge_seat s from (number_of f)) (failed_seat (acknowledge s from (number_of f)) (failing_of f))

pub frame_placed : (s : Station) (f : Frame) (from to : ℕ) → Placed s (frame_rule s f from to)
unfolding frame_rule heard
frame_placed s f from to =
    placed_moved s _ _ (placed_unless s _ _ (respond_placed s (failed (acknowledge s from (number_of f)) (failing_of f)) from to f (heard_seat s f from)))

unanswered_seat : (s : Station) (to : ℕ) → Seat s (unanswered s to).station
unfolding unanswered
unanswered_seat s to =
    let h = then_seat (up_to_seat s to to) (flight_seat (give_up_to (strike s to) to)) in
    record { same_n = h.same_n; same_limit = h.same_limit; same_own = h.same_own }

on_timer_placed : (s : Station) (d : Dispatch) → Placed s (on_timer s d)
unfolding on_timer silence after_strike
on_timer_placed s None = placed_answered s 0
on_timer_placed s (Some (g, at)) =
    let h = unanswered_seat s at in
    pick_keeps (Placed s) (ltb s.turn.retries s.limit) _ _
    (record { seat = record { same_n = refl; same_limit = refl; same_own = refl }; awaits = λ f to e. e })
    (pick_keeps (Placed s) (alone (unanswered s at).station) _ _
    (record { seat = record { same_n = h.same_n; same_limit = h.same_limit; same_own = h.same_own }; awaits = λ f to e. absurd (none-some _ e) })
    (record { seat = record { same_n = h.same_n; same_limit = h.same_limit; same_own = h.same_own }; awaits = λ f to e. e }))

pub timer_placed : (s : Station) → Placed s (timer_rule s)
unfolding timer_rule
timer_placed s = placed_moved s _ _ (on_timer_placed s (awaited_of s))

pub queue_placed : (s : Station) (q : Request) → Placed s (queue_rule s q)
unfolding queue_rule accepted
queue_placed s q =
    placed_moved s _ _
    (placed_unless s _ _
    (record { seat = record { same_n = refl; same_limit = refl; same_own = refl }; awaits = λ f to e. absurd (none-some _ e) }))

-- ---- who sends nothing

abbrev Silent : Answer → Type 0
Silent a = a.sent ≡ None

-- a frame addressed elsewhere
pub frame_silent : (s : Station) (f : Frame) (from to : ℕ) → (to ≡ s.own → ⊥) → (frame_rule s f from to).sent ≡ None
unfolding frame_rule moved unless heard
frame_silent s f from to o =
    let k : Struck = failed (acknowledge s from (number_of f)) (failing_of f) in
    let elsewhere : not (eqb to k.station.own) ≡ true = ap not (ne_eqb to k.station.own (λ e. o (e ∙ (heard_seat s f from).same_own))) in
    pick_keeps Silent _ _ _ (pick_keeps Silent _ _ _ (ap (λ (a : Answer). a.sent) (respond_elsewhere k from to f elsewhere)) refl) refl

-- a queue call
pub queue_silent : (s : Station) (q : Request) → (queue_rule s q).sent ≡ None
unfolding queue_rule moved unless accepted
queue_silent s q = pick_keeps Silent _ _ _ (pick_keeps Silent _ _ _ refl refl) refl
